-- Request Q-5, the three calls: a record made afresh, one append, the quick yes. What each answers, and the rows of refusal that it has. On a refusal "the record
-- stays equal to what it was".
use Rattle.std.specs.Prelude.{◌≡◌, ◌⊎◌, Bool, List, [], ◌∷◌, ◌++◌, ℕ, ◌≤◌, ◌<◌, get_or}
use Rattle.std.proofs.Math.Option.{Option}
use Rattle.meaning.specs.Limits.{action_limit, log_limit}
use Rattle.meaning.specs.Refusal.{Row, ◌when◌, Answered, no_verdict, YesOrNo}
use Rattle.theory.specs.Subject.{Subject, table_masks, world_of}
use Rattle.theory.specs.Rows.{theory_rows, world_rows}
use Rattle.theory.specs.declared.Setting.{Setting}
use Rattle.tally.specs.Record.{TallyOf, Grown}
use Rattle.tally.specs.declared.Tally.{Tally}

-- "made afresh from the log"
abbrev pub Remade : Subject → Tally → ℕ → Tally → Type 0
Remade s before number after = Answered (world_rows s) number (after ≡ before) (TallyOf (world_of s) after)

-- "5 for an append that would make 64, or an unknown action"; "63 steps or more is a full log"
abbrev pub full_rows : Setting → Tally → ℕ → List {1} Row
full_rows s t action = (5 when ((log_limit ≤ t.steps) ⊎ (s.counts.actions ≤ action))) ∷ []

abbrev pub append_rows : Setting → List ℕ → Tally → ℕ → List {1} Row
append_rows s masks t action = theory_rows s masks ++ full_rows s t action

abbrev pub Appended : Setting → List ℕ → Tally → ℕ → ℕ → Tally → Type 0
Appended s masks before action number after =
    Answered (append_rows s masks before action) number (after ≡ before) (Grown (table_masks masks action) action before after)

-- 3 where the count of actions is out of its range; "7 for asking about" an unknown action
abbrev pub happened_rows : ℕ → ℕ → List {1} Row
happened_rows actions action = (3 when ((actions < 1) ⊎ (action_limit < actions))) ∷ (7 when (actions ≤ action)) ∷ []

-- "the last possible occurrence comes after the last impossible step", by the two places that the record has
abbrev pub HappenedAnswered : ℕ → List ℕ → ℕ → ℕ → ℕ → Option Bool → Type 0
HappenedAnswered actions last impossible action number verdict =
    Answered (happened_rows actions action) number (verdict ≡ no_verdict) (YesOrNo (impossible < get_or last action 0) verdict)
