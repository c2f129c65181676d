-- `spelling::scan::number_at` meets its contract. The loop has read the first digits.
use mathlib.Core.Path.{◌≡◌, refl, sym, ◌∙◌}
use mathlib.Core.List.{List}
use Prim.Native.Nat.{ℕ, ◌+◌, ◌-◌, ◌*◌, ◌^◌, ◌<◌}
use native.Mathlib.Nat.{pow-zero}
use native.Mathlib.Omega.{arith}
use lib.ListN.{length, take, drop, length-take}
use Rattle.spelling.specs.Numeral.{numeral}
use Rattle.spelling.proofs.Numeral.{same_digit}
use Rattle.spelling.proofs.Bytes.{number_more, number_none, below_number, number_fits}
use Rattle.spelling.proofs.scan.number_at.Goals as goal
use Rattle.spelling.proofs.scan.number_at.Goals.{Else-base-d}

-- the bytes that are gone over are so many from this place on
gone_over : (width at : ℕ) → at + width - at ≡ width
gone_over width at = omega arith

inside : (width at i : ℕ) (bytes : List ℕ) → i < length (take (at + width - at) bytes) → i < width
inside width at i bytes l = omega (arith, length-take (at + width - at) bytes)

-- a further digit fits
room : (c : Else-base-d) → c.loop-byte.n * c.args.base + c.in_ok-d.d < 2 ^ 32
room c =
    let a = c.args in
    number_fits a.base a.width c.loop-byte.byte-index c.loop-byte.n c.in_ok-d.d c.requires.some c.if-base-d.false
    (inside a.width a.at c.loop-byte.byte-index (drop a.at a.text.now) c.loop-byte-test.true) c.requires.fits c.loop-byte.invariant.0

pub loop-byte-init : goal.loop-byte-init
unfolding numeral
loop-byte-init c = (omega (arith, pow-zero c.args.base), refl)

pub returns-in_err-d : goal.returns-in_err-d
returns-in_err-d c =
    let a = c.args in
    let bytes = drop a.at a.text.now in
    let none = rw (gone_over a.width a.at) at c.in_err-d.ensures in
    rw c.from_residual.ensures
    (number_none (take a.width bytes) a.base a.width c.loop-byte.byte-index c.requires.some (inside a.width a.at c.loop-byte.byte-index bytes c.loop-byte-test.true)
    (λ d l. none d (omega arith)))

pub returns-then-base-d : goal.returns-then-base-d
returns-then-base-d c =
    let a = c.args in
    let bytes = drop a.at a.text.now in
    let (few, shown) = rw (gone_over a.width a.at) at c.in_ok-d.ensures in
    number_none (take a.width bytes) a.base a.width c.loop-byte.byte-index c.requires.some (inside a.width a.at c.loop-byte.byte-index bytes c.loop-byte-test.true)
    (λ d l e. let same = same_digit c.in_ok-d.d d few (omega arith) (sym shown ∙ e) in omega arith)

pub overflow_mul-n : goal.overflow_mul-n
overflow_mul-n c = let below = room c in record { fits = omega arith }

pub overflow_add-n : goal.overflow_add-n
overflow_add-n c = record { fits = room c }

pub loop-byte-preserved : goal.loop-byte-preserved
loop-byte-preserved c =
    let a = c.args in
    let i = c.loop-byte.byte-index in
    let d = c.in_ok-d.d in (
      below_number a.base i c.loop-byte.n d c.if-base-d.false c.loop-byte.invariant.0,
      number_more (take (a.at + a.width - a.at) (drop a.at a.text.now)) a.base i c.loop-byte.n d c.loop-byte-test.true c.if-base-d.false c.in_ok-d.ensures.1 c.loop-byte.invariant.1,
    )
