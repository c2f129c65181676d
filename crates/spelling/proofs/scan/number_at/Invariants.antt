-- `spelling::scan::number_at` meets its contract. The loop has read the first digits.
use mathlib.Core.Path.{◌≡◌}
use Prim.Native.Nat.{◌^◌, ◌<◌}
use lib.ListN.{take}
use Rattle.spelling.specs.Numeral.{numeral}
use Rattle.spelling.proofs.scan.number_at.Given as goal

abbrev pub invariant-loop-byte : goal.invariant-loop-byte
invariant-loop-byte l = (l.n < l.base ^ l.byte-index) × (take l.byte-index l.byte-items ≡ numeral l.base l.byte-index l.n)
