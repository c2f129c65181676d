-- What follows for a call of `normal` that is accepted, from its contract and the theorems about the normal form: the written bytes read as a rule of the same
-- kind, have no `-`, are shorter by each that was there, keep the signs under none, mean the same, and a second call on them changes nothing. No code.
use mathlib.Core.Path.{◌≡◌, refl, sym, ap, ap₂, subst, subst⁻¹, ◌∙◌}
use mathlib.Core.Logic.{◌↔◌, inl, inr, ⊎_elim}
use mathlib.Core.Bool.{Bool, true, false, false≢true}
use mathlib.Core.List.{List, [], ◌++◌, append-nil}
use Prim.Native.Nat.{ℕ, ◌+◌, ◌≤◌, ◌<◌}
use native.Mathlib.Omega.{arith}
use lib.ListN.{length, take, drop}
use lib.Seq.{take-append_seam, drop-append_seam}
use Rattle.meaning.specs.Theory.{World}
use Rattle.meaning.specs.Rule.{Walk, Test, Kind, Rule, of_test, of_walk, Opens, text, up_to, other, backward_in}
use Rattle.meaning.specs.Leads.{Leads, Holds}
use Rattle.meaning.specs.Normal.{normal, normal_test, normal_rule, signs_in, WalkKept, TestKept}
use Rattle.meaning.specs.Refusal.{Accepted, AcceptedWith, Allowed, BadRule, BadNames, TooDeep, BadJob, Unbound, TooShort}
use Rattle.meaning.proofs.Normal.{normal_leads_at, normal_holds_at}
use Rattle.meaning.proofs.Reading.{unique_reading}
use Rattle.meaning.proofs.Refusal.{refused_not_accepted, passes, accepts, not_first, not_rest, accepted_parts}
use Rattle.meaning.proofs.Rewriting.{rule_figures, rule_opens, rule_twice, rule_job, normal_kept, test_kept}
use Rattle.rule.specs.Outcome.{Spelled, With, rule_rows}
use Rattle.rule.proofs.Outcomes.{Known, accepted_known}
use Rattle.grammar.proofs.Spread.{some_text}
use Rattle.theory.specs.declared.Counts.{Counts}
use Rattle.normal.specs.Answer.{normal_text, output_rows, normal_rows, NormalWritten, NormalAnswered}
use Rattle.normal.proofs.Variables.{rule_free, rule_varies}

-- the written bytes are the normal form of the rule that the text spells
bytes_written : {kind : Kind} {bytes before : List ℕ} {count : ℕ} {after : List ℕ} (h : NormalWritten kind bytes before count after) → take count after ≡ normal_text h.rule
bytes_written h = ap₂ take h.counted h.written ∙ take-append_seam (normal_text h.rule) _

module _ {kind : Kind} {bytes : List ℕ} {counts : Counts} {before : List ℕ} {number count : ℕ} {after : List ℕ}
    (h : AcceptedWith (normal_rows kind bytes counts (length before)) number (NormalWritten kind bytes before count after)) where
  pub written_bytes : take count after ≡ normal_text h.right.rule
  written_bytes = bytes_written h.right

  -- they read as a rule of the same kind, which has no `-`
  pub reads_back : Opens kind (take count after) (normal_rule h.right.rule) []
  reads_back =
      subst⁻¹ (λ (l : List ℕ). Opens kind l (normal_rule h.right.rule) []) (written_bytes ∙ sym (append-nil (normal_text h.right.rule))) (rule_opens h.right.spells [])

  pub no_sign : (r : Rule) → Opens kind (take count after) r [] → signs_in r ≡ 0
  no_sign r o = ap signs_in (unique_reading o reads_back).0 ∙ (rule_figures other other h.right.rule).bare

  -- they are shorter by exactly the signs that are gone
  long : length bytes ≡ length (text h.right.rule)
  long = ap length (h.right.spells.spells ∙ append-nil (text h.right.rule))

  pub shorter_by_signs : count + signs_in h.right.rule ≡ length bytes
  shorter_by_signs = omega (arith, h.right.counted, (rule_figures other other h.right.rule).shorter, long)

  -- So a rule with a `-` is not copied, and something is always written.
  pub never_a_copy : 0 < signs_in h.right.rule → take count after ≡ bytes → ⊥
  never_a_copy l e = omega (arith, h.right.counted, ap length (sym written_bytes ∙ e), shorter_by_signs)

  pub never_nothing : 0 < count
  never_nothing = omega (arith, h.right.counted, some_text (normal_rule h.right.rule))

  -- they mean the same: the walk, or the test, that they spell and the one that the text spells, in every world and at all positions
  turned_into : (r s : Rule) → Opens kind bytes r [] → Opens kind (take count after) s [] → s ≡ normal_rule r
  turned_into r s o o' = (unique_reading o' reads_back).0 ∙ ap normal_rule (unique_reading h.right.spells o).0

  pub leads_alike : (x y : Walk)
      → Opens kind bytes (of_walk x) []
      → Opens kind (take count after) (of_walk y) []
      → (w : World) (p q n : ℕ)
      → Leads w y p q n ↔ Leads w x p q n
  leads_alike x y o o' w p q n =
      let e : of_walk y ≡ of_walk (normal x) = turned_into (of_walk x) (of_walk y) o o' in
      let f : y ≡ normal x = cc in
      rw f (normal_leads_at w x p q n)

  pub holds_alike : (x y : Test)
      → Opens kind bytes (of_test x) []
      → Opens kind (take count after) (of_test y) []
      → (w : World) (t n : ℕ)
      → Holds w y t n ↔ Holds w x t n
  holds_alike x y o o' w t n =
      let e : of_test y ≡ of_test (normal_test x) = turned_into (of_test x) (of_test y) o o' in
      let f : y ≡ normal_test x = cc in
      rw f (normal_holds_at w x t n)

  -- "Signs under no `-` stay as they are": the rule that they spell has the signs of the one that the text spells, one for one, but under a `-` of that
  pub walk_signs_stay : (x y : Walk) → Opens kind bytes (of_walk x) [] → Opens kind (take count after) (of_walk y) [] → WalkKept x y
  walk_signs_stay x y o o' =
      let e : of_walk y ≡ of_walk (normal x) = turned_into (of_walk x) (of_walk y) o o' in
      let f : y ≡ normal x = cc in
      rw f (normal_kept x)

  pub test_signs_stay : (x y : Test) → Opens kind bytes (of_test x) [] → Opens kind (take count after) (of_test y) [] → TestKept x y
  test_signs_stay x y o o' =
      let e : of_test y ≡ of_test (normal_test x) = turned_into (of_test x) (of_test y) o o' in
      let f : y ≡ normal_test x = cc in
      rw f (test_kept x)

  -- A second call on them: what the table says of the rule is not said of its normal form.
  spelled_again : (fault : Rule → Type 0) → With (Spelled true kind (take count after)) fault → fault (normal_rule h.right.rule)
  spelled_again fault w = subst fault (unique_reading w.spells reads_back).0 w.faulty

  spelled_first : (fault : Rule → Type 0) → fault h.right.rule → With (Spelled true kind bytes) fault
  spelled_first fault f = record { rule = h.right.rule; spells = h.right.spells; faulty = f }

  -- it has no variables where those have no values
  known : Known true kind bytes counts
  known = accepted_known true kind bytes counts (not_rest (accepted_parts (rule_rows true kind bytes counts) (output_rows kind bytes (length before)) h.accepted).0)

  allowed : Allowed counts.domain h.right.rule
  allowed = subst (Allowed counts.domain) (unique_reading known.spells h.right.spells).0 known.allowed

  no_six : BadRule counts.domain kind (take count after) → ⊥
  no_six = ⊎_elim
      (λ e. omega (arith, some_text (normal_rule h.right.rule), ap length (sym written_bytes ∙ e)))
      (⊎_elim
      (λ l. not_first (not_rest h.accepted) (inr (inl (omega (arith, ap length written_bytes, h.right.counted, shorter_by_signs)))))
      (λ n. n (normal_rule h.right.rule) reads_back (λ zero. rule_varies h.right.rule ∙ allowed zero)))

  abbrev lacks : Rule → Type 0
  lacks = BadNames counts.domain counts.fluents counts.actions

  seven : lacks (normal_rule h.right.rule) → lacks h.right.rule
  seven = rw ((rule_figures (up_to counts.domain) other h.right.rule).named, (rule_figures other (up_to counts.domain) h.right.rule).named) (λ b. b)

  eight : TooDeep (normal_rule h.right.rule) → TooDeep h.right.rule
  eight l = omega (arith, (rule_figures other other h.right.rule).shallow)

  nine : BadJob kind (normal_rule h.right.rule) → BadJob kind h.right.rule
  nine b = (b.0, go (backward_in h.right.rule) refl)
    where
      go : (k : Bool) → backward_in h.right.rule ≡ k → backward_in h.right.rule ≡ true
      go true e = e
      go false e = absurd (false≢true (sym (rule_job h.right.rule e) ∙ b.1))

  thirteen : Unbound (normal_rule h.right.rule) → Unbound h.right.rule
  thirteen u = record { variable = u.variable; free = sym (rule_free u.variable h.right.rule) ∙ u.free }

  -- the normal form is its own normal form
  same_text : normal_text (normal_rule h.right.rule) ≡ normal_text h.right.rule
  same_text = ap text (rule_twice h.right.rule)

  too_short : (room : ℕ) → count ≤ room → TooShort room (length (normal_text (normal_rule h.right.rule))) → ⊥
  too_short room l b = omega (arith, h.right.counted, ap length same_text)

  pub again_accepted : (room : ℕ) → count ≤ room → Accepted (normal_rows kind (take count after) counts room)
  again_accepted room l =
      let a₃ = h.accepted in
      let a₇ = not_rest (not_rest a₃) in
      let a₈ = not_rest a₇ in
      let a₉ = not_rest a₈ in
      let a₁₃ = not_rest a₉ in
      passes (not_first a₃)
      (passes no_six
      (passes (λ w. not_first a₇ (spelled_first lacks (seven (spelled_again lacks w))))
      (passes (λ w. not_first a₈ (spelled_first TooDeep (eight (spelled_again TooDeep w))))
      (passes (λ w. not_first a₉ (spelled_first (BadJob kind) (nine (spelled_again (BadJob kind) w))))
      (passes (λ w. not_first a₁₃ (spelled_first Unbound (thirteen (spelled_again Unbound w))))
      (passes (λ w. too_short room l (spelled_again (λ r. TooShort room (length (normal_text r))) w)) accepts))))))

  -- so it is accepted, and changes nothing
  pub again : {before' after' : List ℕ} {number' count' : ℕ}
      → NormalAnswered kind (take count after) counts before' number' count' after'
      → count ≤ length before'
      → (number' ≡ 0) × (count' ≡ count) × (take count' after' ≡ take count after)
  again (inr i) l =
      let same = ap normal_text (unique_reading i.right.spells reads_back).0 ∙ same_text in
      (i.none, i.right.counted ∙ ap length same ∙ sym h.right.counted, bytes_written i.right ∙ same ∙ sym written_bytes)
  again (inl i) l = absurd (refused_not_accepted i.refused (again_accepted _ l))

  -- and an output that holds them already, with whatever is behind them, holds the same after it
  pub again_over : {before' after' : List ℕ} {number' count' : ℕ}
      → NormalAnswered kind (take count after) counts before' number' count' after'
      → before' ≡ after
      → after' ≡ after
  again_over (inr i) e =
      let same = ap normal_text (unique_reading i.right.spells reads_back).0 ∙ same_text in
      i.right.written
      ∙ ap₂ (λ (x y : List ℕ). x ++ drop (length x) y) same (e ∙ h.right.written)
      ∙ ap (λ (x : List ℕ). normal_text h.right.rule ++ x) (drop-append_seam (normal_text h.right.rule) _)
      ∙ sym h.right.written
  again_over (inl i) e = i.blank.same ∙ e
