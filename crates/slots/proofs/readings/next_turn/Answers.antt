-- `slots::readings::next_turn` meets its contract: under `step` the earliest position alone, with itself as now; under `end` all of them, with the walk's. Assumes nothing.
use mathlib.Core.Path.{◌≡◌, refl, sym, subst, ◌∙◌}
use mathlib.Core.Logic.{◌↔◌}
use mathlib.Core.Bool.{true}
use Prim.Native.Nat.{ℕ}
use Rattle.positions.specs.Positions.{holds}
use Rattle.positions.proofs.Held.{held_place, some_held}
use Rattle.runs.proofs.Loops.{earliest_there, one_there}
use Rattle.runs.proofs.Together.{own_step, own_end}
use Rattle.slots.proofs.readings.next_turn.Goals as goal
use Rattle.slots.proofs.readings.next_turn.Goals.{After-at-these}

-- the set's own earliest position, and no other
earliest_alone : (c : After-at-these) → (holds c.args.left c.earliest-own.result ≡ true) × ((q : ℕ) → (holds c.at-these.result q ≡ true) ↔ (q ≡ c.earliest-own.result))
earliest_alone c =
    let own = c.earliest-own.result in
    let there : holds c.args.left own ≡ true = earliest_there c.args.left own c.requires c.earliest-own.ensures in
    (there, one_there own c.at-these.result (held_place c.args.left there) c.at-these.ensures)

pub returns-then-vars-eq-STEP-clause-together : goal.returns-then-vars-eq-STEP-clause-together
returns-then-vars-eq-STEP-clause-together c =
    let (there, alone) = earliest_alone (goal.at.returns-then-vars-eq-STEP-clause-together c).After-at-these in
    let own = c.earliest-own.result in
    let left = c.args.left in
    record {
      some = (own, (alone own).1 refl);
      within = λ q h. subst (λ (i : ℕ). holds left i ≡ true) (sym ((alone q).0 h)) there;
      now = λ w e q h. own_step w q c.args.now _ e c.if-vars-eq-STEP.true ∙ (alone q).0 h;
    }

pub returns-then-vars-eq-STEP-clause-which : goal.returns-then-vars-eq-STEP-clause-which
returns-then-vars-eq-STEP-clause-which c = record {
  step = λ e. (c.earliest-own.ensures, (earliest_alone (goal.at.returns-then-vars-eq-STEP-clause-which c).After-at-these).1);
  end = λ apart. absurd (apart c.if-vars-eq-STEP.true);
}

pub returns-else-vars-eq-STEP-clause-together : goal.returns-else-vars-eq-STEP-clause-together
returns-else-vars-eq-STEP-clause-together c = record {
  some = some_held c.args.left c.requires;
  within = λ q h. h;
  now = λ w e q h. own_end w q c.args.now _ e c.if-vars-eq-STEP.false;
}
