-- Any two outcomes that a contract allows are equal, records field by field; and the record of a log is one, however the library made it.
use mathlib.Core.Path.{◌≡◌, refl, sym, ◌∙◌}
use mathlib.Core.Logic.{⊎_elim}
use mathlib.Core.Bool.{Bool}
use mathlib.Core.List.{List, []}
use Prim.Native.Nat.{ℕ, ◌<◌}
use native.Mathlib.Omega.{arith}
use lib.Seq.{ext_get_or}
use Rattle.std.specs.Prelude.{Result}
use Rattle.laws.proofs.Truth.{off_on, true_or_false}
use Rattle.refusal.specs.declared.Refusal.{Refusal}
use Rattle.refusal.specs.Given.{number_given}
use Rattle.meaning.specs.Limits.{action_limit}
use Rattle.meaning.specs.Theory.{Masks, World}
use Rattle.meaning.specs.Refusal.{falls}
use Rattle.meaning.proofs.Possible.{possible, possible_tells}
use Rattle.meaning.proofs.Refusal.{answered_determined, one_verdict}
use Rattle.theory.specs.Subject.{Subject, world_of}
use Rattle.theory.specs.Possible.{verdict_given}
use Rattle.theory.specs.declared.Setting.{Setting}
use Rattle.theory.proofs.Determined.{same_verdict}
use Rattle.tally.specs.Record.{TallyOf, Grown}
use Rattle.tally.specs.Calls.{Remade, append_rows, Appended, happened_rows, HappenedAnswered}
use Rattle.tally.specs.declared.Tally.{Tally}
use Rattle.tally.proofs.Places.{one_last, one_count}

-- a record is its fields
same_tally : {t u : Tally} → t.counts ≡ u.counts → t.last ≡ u.last → t.state ≡ u.state → t.steps ≡ u.steps → t.impossible ≡ u.impossible → t ≡ u
same_tally {t} {u} c l s n i = let same : made t.counts t.last t.state t.steps t.impossible ≡ made u.counts u.last u.state u.steps u.impossible = cc in same
  where
    made : List ℕ → List ℕ → ℕ → ℕ → ℕ → Tally
    made counts last state steps impossible = record { counts = counts; last = last; state = state; steps = steps; impossible = impossible }

-- a log has one record
pub tally_determined : (w : World) {t u : Tally} → TallyOf w t → TallyOf w u → t ≡ u
tally_determined w {t} {u} x y =
    same_tally
    (ext_get_or 0 t.counts u.counts (x.count_room ∙ sym y.count_room) (λ a h.
    let low : a < action_limit = omega (arith, h, x.count_room) in one_count (x.actions a low).times (y.actions a low).times))
    (ext_get_or 0 t.last u.last (x.last_room ∙ sym y.last_room) (λ a h.
    let low : a < action_limit = omega (arith, h, x.last_room) in one_last (x.actions a low).latest (y.actions a low).latest))
    (x.state ∙ sym y.state)
    (x.steps ∙ sym y.steps)
    (one_last x.impossible y.impossible)

pub remade_determined : (s : Subject) (before : Tally) {n n' : ℕ} {t u : Tally} → Remade s before n t → Remade s before n' u → (n ≡ n') × (t ≡ u)
remade_determined s before x y = answered_determined x y (λ e p q. (e, p ∙ sym q)) (λ e p q. (e, tally_determined (world_of s) p q))

-- one step more is one record
pub grown_determined : (m : Masks) (a : ℕ) {before t u : Tally} → Grown m a before t → Grown m a before u → t ≡ u
grown_determined m a {before} {t} {u} x y =
    let state = x.state ∙ sym y.state in
    let steps = x.steps ∙ sym y.steps in
    ⊎_elim
    (λ h.
    let can = (possible_tells m before.state).0 h in
    let (c, l, i) = x.possible can in
    let (c', l', i') = y.possible can in
    same_tally (c ∙ sym c') (l ∙ sym l') state steps (i ∙ sym i'))
    (λ h.
    let (c, l, i) = x.impossible (λ can. off_on h ((possible_tells m before.state).1 can)) in
    let (c', l', i') = y.impossible (λ can. off_on h ((possible_tells m before.state).1 can)) in
    same_tally (c ∙ sym c') (l ∙ sym l') state steps (i ∙ sym i'))
    (true_or_false (possible m before.state))

pub append_determined : (s : Setting) (masks : List ℕ) (before : Tally) (a : ℕ) {n n' : ℕ} {t u : Tally}
    → Appended s masks before a n t → Appended s masks before a n' u → (n ≡ n') × (t ≡ u)
append_determined s masks before a x y = answered_determined x y (λ e p q. (e, p ∙ sym q)) (λ e p q. (e, grown_determined _ a p q))

-- the quick yes
pub happened_determined : (actions : ℕ) (last : List ℕ) (impossible action : ℕ) (a b : Result Bool Refusal)
    → HappenedAnswered actions last impossible action (number_given a) (verdict_given a)
    → HappenedAnswered actions last impossible action (number_given b) (verdict_given b)
    → a ≡ b
happened_determined actions last impossible action a b x y =
    answered_determined x y (λ n p q. same_verdict a b n (p ∙ sym q)) (λ n p q. same_verdict a b n (one_verdict p q))

-- their numbers rise
pub append_rises : (s : Setting) (masks : List ℕ) (t : Tally) (a : ℕ) → falls (append_rows s masks t a) ≡ []
append_rises s masks t a = refl

pub happened_rises : (actions action : ℕ) → falls (happened_rows actions action) ≡ []
happened_rises actions action = refl
