-- Any two answers that the contracts of this crate allow are equal.
use Rattle.std.specs.Prelude.{Result}
use mathlib.Core.Path.{◌≡◌, refl, sym, subst, ◌∙◌}
use mathlib.Core.Bool.{Bool}
use mathlib.Core.List.{List, [], ◌∷◌}
use mathlib.Core.Option.{Option, some-injective}
use Prim.Native.Nat.{ℕ, ◌^◌, ◌<◌}
use native.Mathlib.Decide.{dec_lt}
use native.Mathlib.Omega.{arith}
use Rattle.laws.specs.Bit.{on}
use Rattle.laws.proofs.On.{on_high, same_bits}
use Rattle.meaning.specs.Limits.{action_limit}
use Rattle.meaning.specs.Theory.{World}
use Rattle.meaning.specs.Rule.{Kind, Walk, Test, of_walk, of_test, walk_kind, test_kind, Opens}
use Rattle.meaning.specs.Reach.{ReachedAs}
use Rattle.meaning.specs.Refusal.{Accepted, falls}
use Rattle.meaning.proofs.Reading.{unique_reading}
use Rattle.meaning.proofs.Reach.{reached_as_unique}
use Rattle.meaning.proofs.Refusal.{answered_determined, one_verdict}
use Rattle.laws.proofs.Truth.{same_truth}
use Rattle.theory.specs.Subject.{Subject, counts_of, world_of}
use Rattle.theory.proofs.Determined.{same_verdict}
use Rattle.tables.specs.Tables.{Describes}
use Rattle.refusal.specs.declared.Refusal.{Refusal}
use Rattle.refusal.specs.Given.{number_given}
use Rattle.refusal.proofs.Given.{same_given}
use Rattle.ask.specs.Asked.{EndTold, AskTold}
use Rattle.runs.specs.Values.{unbound}
use Rattle.runs.specs.Found.{Tabled, WalkHere}
use Rattle.ask.specs.declared.Reached.{Reached}
use Rattle.ask.specs.Rows.{ask_rows}
use Rattle.ask.specs.Reach.{none_reached, reached_given, ReachAnswered}
use Rattle.theory.specs.Possible.{verdict_given}
use Rattle.ask.specs.Verdict.{Verdict, TestJudged, TestTold, VerdictAnswered}

-- the bytes spell one walk, one test
pub one_walk : {bytes : List ℕ} (x y : Walk) → Opens walk_kind bytes (of_walk x) [] → Opens walk_kind bytes (of_walk y) [] → x ≡ y
one_walk x y o p = let e : of_walk x ≡ of_walk y = (unique_reading o p).0 in cc

one_test : {bytes : List ℕ} (t u : Test) → Opens test_kind bytes (of_test t) [] → Opens test_kind bytes (of_test u) [] → t ≡ u
one_test t u o p = let e : of_test t ≡ of_test u = (unique_reading o p).0 in cc

-- an answer is its number and its values
same_reached : (x y : Reached) → x.set ≡ y.set → x.count ≡ y.count → x.earliest ≡ y.earliest → x ≡ y
same_reached x y s c e = grind arith

same_reach : (a b : Result Reached Refusal) → number_given a ≡ number_given b → (reached_given a).set ≡ (reached_given b).set → (reached_given a).count ≡ (reached_given b).count
    → (reached_given a).earliest ≡ (reached_given b).earliest → a ≡ b
same_reach a b n s c e = same_given none_reached a b n (same_reached (reached_given a) (reached_given b) s c e)

-- what a test is judged to be, and told to be over the rows of a log that it can be asked of
pub judged_determined : {s : Subject} {bytes : List ℕ} {then now : ℕ} {v u : Option Bool} → TestJudged s bytes then now v → TestJudged s bytes then now u → v ≡ u
judged_determined {s} {then = then} {now = now} {v = v} {u = u} r q =
    let e : q.test ≡ r.test = one_test q.test r.test q.spells r.spells in
    one_verdict r.judged (subst (λ (t : Test). Verdict (world_of s) t then now u) e q.judged)

pub told_determined : {s : Subject} {bytes rows : List ℕ} {domain reading then now : ℕ} → (counts_of s).domain ≡ domain → s.setting.reading ≡ reading → Accepted (ask_rows test_kind s bytes then now)
    → Describes (world_of s) rows → (a b : Bool) → TestTold bytes domain reading rows then now a → TestTold bytes domain reading rows then now b → a ≡ b
told_determined {s} many read fine rows a b f g = some-injective _ _ (judged_determined (f.each s many read fine rows) (g.each s many read fine rows))

module _ (s : Subject) (bytes : List ℕ) (then now : ℕ) where
  pub reach_determined : (a b : Result Reached Refusal) → ReachAnswered s bytes then now (number_given a) (reached_given a).set (reached_given a).count (reached_given a).earliest
      → ReachAnswered s bytes then now (number_given b) (reached_given b).set (reached_given b).count (reached_given b).earliest → a ≡ b
  reach_determined a b x y =
      answered_determined x y (λ n r q. same_reach a b n (r.0 ∙ sym q.0) (r.1 ∙ sym q.1) (r.2 ∙ sym q.2)) (λ n r q.
      let e : q.walk ≡ r.walk = one_walk q.walk r.walk q.spells r.spells in
      let other = subst (λ (v : Walk). ReachedAs (world_of s) v then now (reached_given b).set (reached_given b).count (reached_given b).earliest) e q.reached in
      let (set, count, first) = reached_as_unique (world_of s) r.walk then now r.reached other in
      same_reach a b n set count first)

  pub verdict_determined : (a b : Result Bool Refusal) → VerdictAnswered s bytes then now (number_given a) (verdict_given a)
      → VerdictAnswered s bytes then now (number_given b) (verdict_given b) → a ≡ b
  verdict_determined a b x y =
      answered_determined x y (λ n r q. same_verdict a b n (r ∙ sym q)) (λ n r q. same_verdict a b n (judged_determined r q))

  -- the numbers of both calls rise but at one place: 13 stands "between 9 and 10"
  pub ask_rises : (kind : Kind) → falls (ask_rows kind s bytes then now) ≡ (13, 10) ∷ []
  ask_rises kind = refl

-- What a job has come to, and what it asks for: its text stands there, and the rows are those of a log, so two answers are one.
module _ {job ends rows : List ℕ} {domain reading end : ℕ} (here : WalkHere job ends 0) (w : World) (tabled : Tabled w rows (unbound domain 0 reading) end) where
  pub ended_determined : (a b : Bool) → EndTold job domain reading rows end a → EndTold job domain reading rows end b → a ≡ b
  ended_determined a b f g =
      let i = f.each w tabled here.walk here.stands in
      let j = g.each w tabled here.walk here.stands in
      same_truth a b (λ k. j.1 (i.0 k)) (λ k. i.1 (j.0 k))

  pub asked_determined : {may : ℕ → Bool} (a b : ℕ) → a < 2 ^ action_limit → b < 2 ^ action_limit → AskTold may job domain reading rows end a → AskTold may job domain reading rows end b → a ≡ b
  asked_determined a b short short' f g = same_bits a b (λ i. elim (dec_lt i action_limit) [
    | yes low ↦
        let u = f.each w tabled here.walk here.stands i low in
        let v = g.each w tabled here.walk here.stands i low in
        same_truth (on a i) (on b i) (λ k. v.1 (u.0 k)) (λ k. u.1 (v.0 k))
    | no high ↦ on_high action_limit short (omega arith) ∙ sym (on_high action_limit short' (omega arith))
  ])
