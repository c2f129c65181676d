-- What the contract of `reach` means for two questions: demand 3's first half, for bytes. A text W and the text `-W` are asked of the same subject with the same
-- now; the converse is the meaning's theorem, and that `-W` spells the converse of what W spells is unique reading.
use Rattle.std.specs.Prelude.{Result}
use mathlib.Core.Path.{◌≡◌, sym, ap, subst, ◌∙◌}
use mathlib.Core.Logic.{inl, inr}
use mathlib.Core.List.{List, [], ◌∷◌}
use Prim.Native.Nat.{ℕ}
use Rattle.refusal.specs.declared.Refusal.{Refusal}
use Rattle.refusal.specs.Given.{number_given}
use Rattle.laws.specs.Bit.{on}
use Rattle.laws.proofs.Truth.{same_truth}
use Rattle.meaning.specs.Rule.{Walk, walk_text, walk_names, conv, of_walk, walk_kind, Opens}
use Rattle.meaning.specs.Reach.{ReachedAs}
use Rattle.meaning.specs.Refusal.{Accepted}
use Rattle.meaning.proofs.Converse.{converse}
use Rattle.meaning.proofs.Refusal.{refused_not_accepted}
use Rattle.theory.specs.Subject.{Subject, world_of}
use Rattle.ask.specs.declared.Reached.{Reached}
use Rattle.ask.specs.Rows.{ask_rows}
use Rattle.ask.specs.Reach.{reached_given, WalkReached, ReachAnswered}
use Rattle.ask.proofs.Determined.{one_walk}

-- `-`, as a byte
abbrev pub minus : ℕ
minus = 45

-- `-W` spells the converse of what W spells
spells_converse : (bytes : List ℕ) (x : Walk) → Opens walk_kind bytes (of_walk x) [] → Opens walk_kind (minus ∷ bytes) (of_walk (conv x)) []
unfolding walk_text walk_names
spells_converse bytes x o = record { fits = tt; spells = ap (λ (l : List ℕ). minus ∷ l) o.spells; short_actions = o.short_actions; short_fluents = o.short_fluents }

-- an accepted question has the right answer
right : (s : Subject) (bytes : List ℕ) (then now : ℕ) {number set count earliest : ℕ} → Accepted (ask_rows walk_kind s bytes then now)
    → ReachAnswered s bytes then now number set count earliest → WalkReached s bytes then now set count earliest
right s bytes then now a (inl r) = absurd (refused_not_accepted r.refused a)
right s bytes then now a (inr r) = r.right

module _ (s : Subject) (bytes : List ℕ) (p q now : ℕ) where
  -- what the two texts reach
  exchanged : {set count earliest set' count' earliest' : ℕ} → WalkReached s bytes p now set count earliest → WalkReached s (minus ∷ bytes) q now set' count' earliest'
      → on set q ≡ on set' p
  exchanged {set} {set' = set'} {count' = count'} {earliest' = earliest'} r t =
      let w = world_of s in
      let e : t.walk ≡ conv r.walk = one_walk t.walk (conv r.walk) t.spells (spells_converse bytes r.walk r.spells) in
      let back : ReachedAs w (conv r.walk) q now set' count' earliest' = subst (λ (v : Walk). ReachedAs w v q now set' count' earliest') e t.reached in
      let there = r.reached in
      let turn = converse w r.walk q p now in
      same_truth (on set q) (on set' p)
      (λ h. back.written.bits p ∙ (back.reached.holds p).1 (turn.1 ((there.reached.holds q).0 (sym (there.written.bits q) ∙ h))))
      (λ h. there.written.bits q ∙ (there.reached.holds q).1 (turn.0 ((back.reached.holds p).0 (sym (back.written.bits p) ∙ h))))

  -- where W from p and `-W` from q are both accepted, bit q of the one answer is bit p of the other
  pub converse_of_bytes : (a b : Result Reached Refusal) → Accepted (ask_rows walk_kind s bytes p now) → Accepted (ask_rows walk_kind s (minus ∷ bytes) q now)
      → ReachAnswered s bytes p now (number_given a) (reached_given a).set (reached_given a).count (reached_given a).earliest
      → ReachAnswered s (minus ∷ bytes) q now (number_given b) (reached_given b).set (reached_given b).count (reached_given b).earliest
      → on (reached_given a).set q ≡ on (reached_given b).set p
  converse_of_bytes a b fine turned x y = exchanged (right s bytes p now fine x) (right s (minus ∷ bytes) q now turned y)
