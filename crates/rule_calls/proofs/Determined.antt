-- Any two outcomes that the contract of an exported function allows are equal: its result and every lent slot.
use mathlib.Core.Path.{◌≡◌, sym, ap, ◌∙◌}
use mathlib.Core.List.{List}
use mathlib.Core.Option.{Option, none, some}
use Prim.Native.Nat.{ℕ}
use lib.ListN.{length}
use Rattle.meaning.specs.Rule.{Kind, Rule, text}
use Rattle.meaning.proofs.Reading.{unique_reading}
use Rattle.meaning.proofs.Refusal.{refused_unique, answered_determined}
use Rattle.theory.specs.declared.Counts.{Counts}
use Rattle.normal.proofs.Outcomes.{normal_determined}
use Rattle.rule_calls.specs.Kinds.{kind_at}
use Rattle.rule_calls.specs.Exported.{RestBy, RestExported, NormalBy, NormalExported}

module _ (bytes : List ℕ) (counts : Counts) where
  rest_determined : (k : Option Kind) {number number' rest rest' : ℕ} → RestBy k bytes counts number rest → RestBy k bytes counts number' rest'
      → (number ≡ number') × (rest ≡ rest')
  rest_determined (some kind) x y =
      answered_determined x y
      (λ n p q. (n, p ∙ sym q))
      (λ n p q. (n, p.behind ∙ ap (λ (r : Rule). length (text r)) (unique_reading p.opens q.opens).0 ∙ sym q.behind))
  rest_determined none x y = (refused_unique x.0 y.0, x.1 ∙ sym y.1)

  pub wyh_read_rule_determined : (kind : ℕ) {number number' rest rest' : ℕ}
      → RestExported kind bytes counts number rest → RestExported kind bytes counts number' rest' → (number ≡ number') × (rest ≡ rest')
  wyh_read_rule_determined kind = rest_determined (kind_at kind)

  written_determined : (k : Option Kind) (before : List ℕ) {number number' count count' : ℕ} {after after' : List ℕ}
      → NormalBy k bytes counts before number count after
      → NormalBy k bytes counts before number' count' after'
      → (number ≡ number') × (count ≡ count') × (after ≡ after')
  written_determined (some kind) before x y = normal_determined x y
  written_determined none before x y = (refused_unique x.0 y.0, x.1 ∙ sym y.1, x.2 ∙ sym y.2)

  pub wyh_normal_determined : (kind : ℕ) (before : List ℕ) {number number' count count' : ℕ} {after after' : List ℕ}
      → NormalExported kind bytes counts before number count after
      → NormalExported kind bytes counts before number' count' after'
      → (number ≡ number') × (count ≡ count') × (after ≡ after')
  wyh_normal_determined kind before = written_determined (kind_at kind) before
