-- Any two outcomes that the contracts allow are equal: the answer, and what the lent output holds. And where the numbers of the call's list fall.
use Rattle.std.specs.Prelude.{Result}
use mathlib.Core.Path.{◌≡◌, refl, sym, ap, subst, ◌∙◌}
use mathlib.Core.List.{List, [], ◌∷◌, ◌++◌}
use Prim.Native.Nat.{ℕ}
use lib.ListN.{length, drop}
use Rattle.laws.specs.Bit.{on}
use Rattle.laws.proofs.On.{same_bits}
use Rattle.laws.proofs.Truth.{same_truth}
use Rattle.meaning.specs.Theory.{World}
use Rattle.meaning.specs.Rule.{Walk, of_walk, job_kind, Opens}
use Rattle.meaning.specs.Refusal.{falls, Accepted, no_count}
use Rattle.meaning.proofs.Reading.{unique_reading}
use Rattle.meaning.proofs.Finish.{first_unique}
use Rattle.meaning.proofs.Refusal.{answered_determined}
use Rattle.theory.specs.Subject.{Subject, world_of}
use Rattle.refusal.specs.declared.Refusal.{Refusal}
use Rattle.refusal.specs.Given.{number_given, value_given}
use Rattle.refusal.proofs.Given.{same_given}
use Rattle.finish.specs.Answer.{Finished, FinishAnswered}
use Rattle.finish.specs.Rows.{check_rows, finish_rows}
use Rattle.finish.specs.Next.{MayCome, no_actions, next_rows, NextAnswered}
use Rattle.finish.specs.Found.{SoughtTold}
use Rattle.finish.proofs.Checking.{sought_answered}

-- the text of a job is that of one walk
same_job : {job : List ℕ} {x y : Walk} → Opens job_kind job (of_walk x) [] → Opens job_kind job (of_walk y) [] → x ≡ y
same_job h k = let e = (unique_reading h k).0 in cc

-- what is written for one job is one sequence
same_ending : (w : World) (job : Walk) (more : ℕ) (before after after' : List ℕ) (n n' : ℕ) → Finished w job more before after n
    → Finished w job more before after' n' → (n ≡ n') × (after ≡ after')
same_ending w job more before after after' n n' f g =
    let e = first_unique w job more f.ending g.ending f.first g.first in (
      f.counted ∙ ap length e ∙ sym g.counted,
      f.written ∙ ap (λ (l : List ℕ). l ++ drop (length l) before) e ∙ sym g.written,
    )

pub finish_determined :
    (s : Subject) (job : List ℕ) (more : ℕ) (before after after' : List ℕ) (a b : Result ℕ Refusal)
    → FinishAnswered s job more before (number_given a) (value_given no_count a) after
    → FinishAnswered s job more before (number_given b) (value_given no_count b) after'
    → (a ≡ b) × (after ≡ after')
finish_determined s job more before after after' a b x y =
    answered_determined x y
    (λ n f g. (same_given no_count a b n (f.0 ∙ sym g.0), f.1 ∙ sym g.1))
    (λ n f g.
    let same = subst (λ (z : Walk). Finished (world_of s) z more before after' (value_given no_count b)) (sym (same_job f.spells g.spells)) g.finished in
    let e = same_ending (world_of s) f.walk more before after after' (value_given no_count a) (value_given no_count b) f.finished same in
    (same_given no_count a b n e.0, e.1))

-- the search behind the checks answers what the call does, so it is determined as well
pub seek_determined :
    (s : Subject) (job : List ℕ) (more : ℕ) (before after after' : List ℕ) (a b : Result ℕ Refusal)
    → Accepted (check_rows s job more (length before))
    → SoughtTold s job more before after a → SoughtTold s job more before after' b → (a ≡ b) × (after ≡ after')
seek_determined s job more before after after' a b passed x y =
    finish_determined s job more before after after' a b (sought_answered s job more before after a passed x) (sought_answered s job more before after' b passed y)

-- 13 is "between 9 and 10" and "12 comes before 11"; else the numbers rise
pub finish_falls : (s : Subject) (job : List ℕ) (more room : ℕ) → falls (finish_rows s job more room) ≡ (13, 12) ∷ (12, 11) ∷ []
finish_falls s job more room = refl

-- which actions may come next
same_actions : (w : World) (x : Walk) (a b : ℕ) → MayCome w x a → MayCome w x b → a ≡ b
same_actions w x a b f g = same_bits a b (λ i. same_truth (on a i) (on b i) (λ h. (g i).1 ((f i).0 h)) (λ h. (f i).1 ((g i).0 h)))

pub next_determined :
    (s : Subject) (job : List ℕ) (a b : Result ℕ Refusal)
    → NextAnswered s job (number_given a) (value_given no_actions a) → NextAnswered s job (number_given b) (value_given no_actions b) → a ≡ b
next_determined s job a b x y =
    answered_determined x y
    (λ n f g. same_given no_actions a b n (f ∙ sym g))
    (λ n f g.
    let same = subst (λ (z : Walk). MayCome (world_of s) z (value_given no_actions b)) (sym (same_job f.spells g.spells)) g.told in
    same_given no_actions a b n (same_actions (world_of s) f.walk (value_given no_actions a) (value_given no_actions b) f.told same))

pub next_rises : (s : Subject) (job : List ℕ) → falls (next_rows s job) ≡ []
next_rises s job = refl
