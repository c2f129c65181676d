-- What the evaluator is given beside the log, as the list of seven numbers that the definitions of runs speak of.
use Rattle.std.specs.Prelude.{List, [], ◌∷◌, ℕ, get_or}
use Rattle.steps.specs.declared.letters.Values.{Values}

abbrev pub listed : Values → List ℕ
listed values =
    get_or values.of 0 0 ∷ get_or values.of 1 0 ∷ get_or values.of 2 0 ∷ get_or values.of 3 0 ∷ values.domain ∷ values.own ∷ values.inner ∷ []
