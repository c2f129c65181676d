-- `slots::slots::forget` meets its contract: filled with 0 as far as the table goes, and where it ends nothing is left to forget.
use mathlib.Core.Path.{◌≡◌}
use mathlib.Core.Logic.{⊎_elim}
use mathlib.Core.List.{List}
use Prim.Native.Nat.{ℕ, ◌-◌, ◌<◌, min}
use native.Mathlib.Omega.{arith}
use lib.ListN.{length, take, drop, replicate}
use borrow.Rule.Slice.PartMut.{put_mid}
use Rattle.std.proofs.lemmas.List.{places}
use Rattle.runs.specs.Slots.{Forgotten}
use Rattle.slots.proofs.slots.forget.Goals as goal

filled : (before part : List ℕ) (from to end : ℕ) → end ≡ min to (length before) → from < end → part ≡ replicate (length (take (end - from) (drop from before))) 0
    → Forgotten before from to (put_mid from (end - from) before part)
filled before part from to end least some zeros = record {
  none = λ j low high. grind (arith, places);
  outside = record { same = λ j h. ⊎_elim (λ l. grind (arith, places)) (λ l. grind (arith, places)) h };
}

pub returns-then-from-end-clause-forgotten : goal.returns-then-from-end-clause-forgotten
returns-then-from-end-clause-forgotten c =
    filled c.args.slots.now c.fill.new.self c.args.from c.args.to c.min-end.result c.min-end.ensures c.if-from-end.true (c.fill.ensures.after (λ y e. e))
