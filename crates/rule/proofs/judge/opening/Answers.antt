-- `judge::opening` meets its contract, by the laws of `Outcomes`.
use mathlib.Core.Path.{subst, subst⁻¹, ◌∙◌}
use mathlib.Core.Bool.{Bool}
use mathlib.Core.List.{List}
use Prim.Native.Nat.{ℕ, ◌<◌}
use lib.ListN.{length}
use native.Mathlib.Omega.{arith}
use Rattle.std.proofs.lemmas.Grind.{common_steps}
use Rattle.rule.specs.Outcome.{kind_of, Unspelled}
use Rattle.rule.proofs.Outcomes as laws
use Rattle.rule.proofs.judge.opening.Goals as goal

pub returns-then-barred : goal.returns-then-barred
returns-then-barred c =
    let a = c.args in
    laws.no_values_law (kind_of a.kind) a.domain a.text.now a.whole _ (c.barred.ensures.0 c.if-barred.true) c.in_ok-f.ensures

pub returns-then-not-is_empty : goal.returns-then-not-is_empty
returns-then-not-is_empty c =
    let a = c.args in
    let left = c.unread-rest.ensures.bytes ∙ laws.from_is c.in_ok-f.f.end a.text.now in
    let more : 0 < length c.unread-rest.result.now = grind (arith, common_steps) in
    subst⁻¹ (λ (w : Bool). Unspelled w (kind_of a.kind) a.domain a.text.now) c.if-whole.true
    (laws.rest_follows (kind_of a.kind) a.domain a.text.now _ (subst (λ (l : List ℕ). 0 < length l) left more) c.in_ok-f.ensures)
