-- The outcome of a sheet is one, and so is its text: any two that the contracts allow are equal.
use mathlib.Core.Path.{◌≡◌, refl, sym, ap, ap₂, subst, ◌∙◌}
use mathlib.Core.Logic.{◌↔◌}
use mathlib.Core.Bool.{Bool, true, false, false≢true}
use mathlib.Core.List.{List, [], ◌++◌}
use mathlib.Core.Option.{Option, some, none, none-ne-some, some-injective}
use Prim.Native.Nat.{ℕ}
use lib.ListN.{length, take, drop, take-append-drop}
use lib.Seq.{length-take-le}
use Rattle.meaning.specs.Theory.{World}
use Rattle.meaning.specs.Rule.{Kind, Walk, Test, of_test, of_walk, Opens}
use Rattle.meaning.specs.Leads.{Holds}
use Rattle.meaning.proofs.Reading.{unique_reading}
use Rattle.meaning.proofs.Finish.{first_unique, first_not_none}
use Rattle.sheet.specs.Lines.{Sheet}
use Rattle.sheet.proofs.Determined.{one_refusal, one_saying, refused_or_says}
use Rattle.refusal.proofs.Numbers.{one_number}
use Rattle.std.specs.Prelude.{Option as RustOption, Some, None, Result, Ok, Err, IfOk, IfSome}
use Rattle.sheet_lines.specs.declared.Fault.{Fault}
use Rattle.answer.specs.declared.Answered.{Answered}
use Rattle.answer.specs.declared.Ending.{Ending}
use Rattle.answer.specs.Outcome.{Told, refused, answered, world_in, end_of, FirstOrNone, Answers, OutcomeIs, ending_of, told_of, no_steps, Ended, Decided}
use Rattle.answer.specs.Text.{text_of}
use Rattle.answer.specs.Written.{AnswerWritten}

same_truth : {P : Type 0} (a b : Bool) → (a ≡ true) ↔ P → (b ≡ true) ↔ P → a ≡ b
same_truth true true p q = refl
same_truth true false p q = sym (q.1 (p.0 refl))
same_truth false true p q = p.1 (q.0 refl)
same_truth false false p q = refl

same_finish : (w : World) (job : Walk) (more : ℕ) (f g : Option (List ℕ)) → FirstOrNone w job more f → FirstOrNone w job more g → f ≡ g
same_finish w job more (some xs) (some ys) p q = ap some (first_unique w job more xs ys p q)
same_finish w job more (some xs) none p q = absurd (first_not_none w job more xs p q)
same_finish w job more none (some ys) p q = absurd (first_not_none w job more ys q p)
same_finish w job more none none p q = refl

-- two things told are told of the same parts
parts_of : Told → ℕ × ℕ × Bool × Option (List ℕ)
parts_of (refused n p) = (n, p, true, none)
parts_of (answered v n f) = (0, n, v, f)

is_answer : Told → Bool
is_answer (refused n p) = false
is_answer (answered v n f) = true

not_answered : {n p s : ℕ} {v : Bool} {f : Option (List ℕ)} → refused n p ≡ answered v s f → ⊥
unfolding is_answer
not_answered e = false≢true (ap is_answer e)

refused_parts : {n p m q : ℕ} → refused n p ≡ refused m q → (n ≡ m) × (p ≡ q)
unfolding parts_of
refused_parts e = (ap (λ t. (parts_of t).0) e, ap (λ t. (parts_of t).1) e)

answered_parts : {v v' : Bool} {n n' : ℕ} {f f' : Option (List ℕ)} → answered v n f ≡ answered v' n' f' → (v ≡ v') × (n ≡ n') × (f ≡ f')
unfolding parts_of
answered_parts e = (ap (λ t. (parts_of t).2) e, ap (λ t. (parts_of t).1) e, ap (λ t. (parts_of t).3) e)

-- a text spells one test, and one job
one_test : {kind : Kind} {text : List ℕ} {t u : Test} → Opens kind text (of_test t) [] → Opens kind text (of_test u) [] → t ≡ u
one_test {t = t} {u = u} o p = let e = (unique_reading o p).0 in cc

one_walk : {kind : Kind} {text : List ℕ} {v w : Walk} → Opens kind text (of_walk v) [] → Opens kind text (of_walk w) [] → v ≡ w
one_walk {v = v} {w = w} o p = let e = (unique_reading o p).0 in cc

-- the answers to an accepted sheet
one_answer : (s : Sheet) (v v' : Bool) (n n' : ℕ) (f f' : Option (List ℕ)) → Answers s v n f → Answers s v' n' f' → answered v n f ≡ answered v' n' f'
one_answer s v v' n n' f f' a b =
    let same : (v ≡ v') = same_truth v v' a.truth (subst (λ t. (v' ≡ true) ↔ Holds (world_in s) t (end_of s) (end_of s)) (one_test b.asked a.asked) b.truth) in
    let job = subst (λ w. FirstOrNone (world_in s) w s.more f') (one_walk b.ordered a.ordered) b.finished in
    let end = same_finish (world_in s) a.job s.more f f' a.finished job in
    let state = a.last ∙ sym b.last in
    cc

-- what a sheet is told
pub one_told : (bytes : List ℕ) (x y : Told) → OutcomeIs bytes x → OutcomeIs bytes y → x ≡ y
one_told bytes (refused n p) (refused m q) a b = let e = one_refusal bytes n m p q a b in ap₂ refused e.0 e.1
one_told bytes (refused n p) (answered v s f) a b = absurd (refused_or_says bytes n p b.0 a b.1)
one_told bytes (answered v s f) (refused n p) a b = absurd (refused_or_says bytes n p a.0 b a.1)
one_told bytes (answered v n f) (answered v' n' f') a b =
    let same = subst (λ s. Answers s v' n' f') (one_saying bytes b.0 a.0 b.1 a.1) b.2 in
    one_answer a.0 v v' n n' f f' a.2 same

-- The answer to a sheet is determined: the count and the final content of the lent output.
pub answer_determined : (sheet before after after' : List ℕ) (n n' : ℕ) → AnswerWritten sheet before after n → AnswerWritten sheet before after' n'
    → (after ≡ after') × (n ≡ n')
answer_determined sheet before after after' n n' p q =
    let e = ap text_of (one_told sheet p.told q.told p.outcome q.outcome) in
    (p.fronts ∙ ap (λ t. t ++ drop (length t) before) e ∙ sym q.fronts, p.counted ∙ ap length e ∙ sym q.counted)

-- So is the value: what is said, and every place of the sequence.
whole : (n : ℕ) (xs ys : List ℕ) → take n xs ≡ take n ys → drop n xs ≡ drop n ys → xs ≡ ys
whole n xs ys t d = sym (take-append-drop n xs) ∙ ap₂ (λ (a b : List ℕ). a ++ b) t d ∙ take-append-drop n ys

same_ending : (a b : RustOption Ending) → IfSome a Ended → IfSome b Ended → ending_of a ≡ ending_of b → a ≡ b
same_ending None None x y t = refl
same_ending None (Some e) x y t = absurd (none-ne-some _ t)
same_ending (Some d) None x y t = absurd (none-ne-some _ (sym t))
same_ending (Some d) (Some e) x y t =
    let front : take d.count d.steps ≡ take e.count e.steps = some-injective _ _ t in
    let same : d.count ≡ e.count = sym (length-take-le d.count d.steps x.within) ∙ ap length front ∙ length-take-le e.count e.steps y.within in
    let steps : d.steps ≡ e.steps =
    whole d.count d.steps e.steps (front ∙ ap (λ (j : ℕ). take j e.steps) (sym same)) (x.spare ∙ ap (λ (j : ℕ). drop j no_steps) same ∙ sym y.spare ∙ ap (λ (j : ℕ). drop j e.steps) (sym same)) in
    λ i. Some (record { steps = steps i; count = same i })

same_value : (o o' : Result Answered Fault) → IfOk o (λ a. IfSome a.finish Ended) → IfOk o' (λ a. IfSome a.finish Ended) → told_of o ≡ told_of o' → o ≡ o'
same_value (Err f) (Err g) x y t =
    let both = refused_parts t in
    let why = one_number f.refusal g.refusal both.0 in
    λ i. Err (record { refusal = why i; line = both.1 i })
same_value (Err f) (Ok b) x y t = absurd (not_answered t)
same_value (Ok a) (Err g) x y t = absurd (not_answered (sym t))
same_value (Ok a) (Ok b) x y t =
    let parts = answered_parts t in
    let ends = same_ending a.finish b.finish x y parts.2 in
    λ i. Ok (record { yes = parts.0 i; state = parts.1 i; finish = ends i })

pub outcome_determined : (bytes : List ℕ) (o o' : Result Answered Fault) → Decided bytes o → Decided bytes o' → o ≡ o'
outcome_determined bytes o o' x y = same_value o o' x.ends y.ends (one_told bytes _ _ x.is y.is)
