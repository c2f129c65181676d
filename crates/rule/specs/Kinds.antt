-- A kind as a number: 0 a test, 1 a walk, 2 a job. Any other number is no kind.
use Rattle.std.specs.Prelude.{◌≡◌, ◌<◌, ℕ, Result, MatchResult}
use Rattle.rule.specs.declared.Kind.{Kind}
use Rattle.rule.specs.declared.NoKind.{NoKind}

abbrev pub number_of_kind : Kind → ℕ
number_of_kind Kind.Test = 0
number_of_kind Kind.Walk = 1
number_of_kind Kind.Job = 2

-- the kind that has this number; or that none has it
abbrev pub KindNumbered : ℕ → Result Kind NoKind → Type 0
KindNumbered number r = MatchResult r (λ kind. number_of_kind kind ≡ number) (λ e. (e.0 ≡ number) × (2 < number))
