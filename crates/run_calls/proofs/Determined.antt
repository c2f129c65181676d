-- Any two outcomes that the contract of an exported function allows are equal: its result and every lent slot.
use mathlib.Core.Path.{◌≡◌, sym, ap, subst, ◌∙◌}
use mathlib.Core.List.{List, ◌++◌}
use Prim.Native.Nat.{ℕ}
use lib.ListN.{length, drop}
use Rattle.laws.specs.Bit.{on}
use Rattle.laws.proofs.On.{same_bits}
use Rattle.laws.proofs.Truth.{same_truth}
use Rattle.meaning.specs.Rule.{Walk}
use Rattle.meaning.proofs.Finish.{first_unique}
use Rattle.meaning.proofs.Refusal.{answered_determined}
use Rattle.theory.specs.Subject.{Subject, world_of}
use Rattle.finish.specs.Answer.{Finished, FinishAnswered}
use Rattle.finish.specs.Next.{MayCome, NextAnswered}
use Rattle.exported.proofs.Slots.{one_walk}

module _ (s : Subject) where
  pub wyh_finish_determined : (job : List ℕ) (more : ℕ) (before : List ℕ) {after after' : List ℕ} {number number' count count' : ℕ}
      → FinishAnswered s job more before number count after
      → FinishAnswered s job more before number' count' after'
      → (number ≡ number') × (count ≡ count') × (after ≡ after')
  wyh_finish_determined job more before {after' = after'} {count' = count'} x y =
      answered_determined x y
      (λ n p q. (n, p.0 ∙ sym q.0, p.1 ∙ sym q.1))
      (λ n p q.
      let f = p.finished in
      let g = subst (λ (z : Walk). Finished (world_of s) z more before after' count') (one_walk q.spells p.spells) q.finished in
      let e = first_unique (world_of s) p.walk more f.ending g.ending f.first g.first in (
        n,
        f.counted ∙ ap length e ∙ sym g.counted,
        f.written ∙ ap (λ (l : List ℕ). l ++ drop (length l) before) e ∙ sym g.written,
      ))

  pub wyh_next_determined : (job : List ℕ) {number number' actions actions' : ℕ}
      → NextAnswered s job number actions → NextAnswered s job number' actions' → (number ≡ number') × (actions ≡ actions')
  wyh_next_determined job {actions = a} {actions' = b} x y =
      answered_determined x y
      (λ n p q. (n, p ∙ sym q))
      (λ n p q.
      let f = p.told in
      let g = subst (λ (z : Walk). MayCome (world_of s) z b) (one_walk q.spells p.spells) q.told in
      (n, same_bits a b (λ i. same_truth (on a i) (on b i) (λ h. (g i).1 ((f i).0 h)) (λ h. (f i).1 ((g i).0 h)))))
