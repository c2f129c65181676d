-- Any two outcomes that the contract of an exported function allows are equal: its result and every lent slot.
use mathlib.Core.Path.{◌≡◌, sym, ◌∙◌, subst}
use mathlib.Core.List.{List}
use Prim.Native.Nat.{ℕ}
use Rattle.meaning.proofs.Refusal.{answered_determined, one_verdict}
use Rattle.meaning.specs.Rule.{Walk, Test}
use Rattle.meaning.specs.Reach.{ReachedAs}
use Rattle.meaning.specs.Leads.{Holds}
use Rattle.meaning.specs.Refusal.{YesOrNo}
use Rattle.meaning.proofs.Reach.{reached_as_unique}
use Rattle.theory.specs.Subject.{Subject, world_of}
use Rattle.theory.specs.Answer.{StateAnswered}
use Rattle.theory.specs.Possible.{PossibleAnswered}
use Rattle.ask.specs.Reach.{ReachAnswered}
use Rattle.ask.specs.Verdict.{VerdictAnswered}
use Rattle.board.specs.Answer.{BoardAnswered}
use Rattle.board.proofs.Determined.{same_board}
use Rattle.exported.specs.Exported.{InSlot}
use Rattle.exported.proofs.Slots.{one_slot, one_walk, one_test}

module _ (s : Subject) where
  pub wyh_state_determined : (position : ℕ) {number number' state state' : ℕ}
      → StateAnswered s position number state → StateAnswered s position number' state' → (number ≡ number') × (state ≡ state')
  wyh_state_determined position x y = answered_determined x y (λ n p q. (n, p ∙ sym q)) (λ n p q. (n, p ∙ sym q))

  pub wyh_possible_determined : (action position : ℕ) {number number' yes yes' : ℕ}
      → InSlot (PossibleAnswered s action position number) yes → InSlot (PossibleAnswered s action position number') yes'
      → (number ≡ number') × (yes ≡ yes')
  wyh_possible_determined action position x y =
      one_slot x y (λ a b. answered_determined a b (λ n p q. (n, p ∙ sym q)) (λ n p q. (n, one_verdict p q)))

  pub wyh_reach_determined : (walk : List ℕ) (then now : ℕ) {number number' set set' count count' earliest earliest' : ℕ}
      → ReachAnswered s walk then now number set count earliest
      → ReachAnswered s walk then now number' set' count' earliest'
      → (number ≡ number') × (set ≡ set') × (count ≡ count') × (earliest ≡ earliest')
  wyh_reach_determined walk then now {set' = set'} {count' = count'} {earliest' = earliest'} x y =
      answered_determined x y
      (λ n p q. (n, p.0 ∙ sym q.0, p.1 ∙ sym q.1, p.2 ∙ sym q.2))
      (λ n p q.
      let same = subst (λ (v : Walk). ReachedAs (world_of s) v then now set' count' earliest') (one_walk q.spells p.spells) q.reached in
      let (a, c, e) = reached_as_unique (world_of s) p.walk then now p.reached same in
      (n, a, c, e))

  pub wyh_verdict_determined : (test : List ℕ) (then now : ℕ) {number number' yes yes' : ℕ}
      → InSlot (VerdictAnswered s test then now number) yes → InSlot (VerdictAnswered s test then now number') yes'
      → (number ≡ number') × (yes ≡ yes')
  wyh_verdict_determined test then now x y =
      one_slot x y (λ a b.
      answered_determined a b
      (λ n p q. (n, p ∙ sym q))
      (λ n p q. (n, one_verdict p.judged (subst (λ (t : Test). YesOrNo (Holds (world_of s) t then now) y.verdict) (one_test q.spells p.spells) q.judged))))

  pub wyh_board_determined : (tests : List ℕ) (then now : ℕ) (before : List ℕ) {after after' : List ℕ} {number number' count count' : ℕ}
      → BoardAnswered s tests then now before number count after
      → BoardAnswered s tests then now before number' count' after'
      → (number ≡ number') × (count ≡ count') × (after ≡ after')
  wyh_board_determined tests then now before x y =
      answered_determined x y
      (λ n p q. (n, p.0 ∙ sym q.0, p.1 ∙ sym q.1))
      (λ n p q. let (many, out) = same_board s then now p q in (n, many, out))
