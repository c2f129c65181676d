-- Document 01: "Each action has four masks: need, ban, put, drop", as the older sheets write them; how they are read since document 02, Q-6, and what they did before.
use Rattle.std.specs.Prelude.{not, ◌&&◌, ◌||◌, List, [], ◌∷◌, ℕ}
use Rattle.laws.specs.Bit.{on, gather}
use Rattle.meaning.specs.Limits.{fluent_limit}
use Rattle.meaning.specs.Theory.{Masks, clause_of, masks_of}

-- so many masks an action has there
abbrev pub plain_stride : ℕ
plain_stride = 4

-- "Older sheets read as one unconditional clause and an empty one"
abbrev pub plain_masks : ℕ → ℕ → ℕ → ℕ → Masks
plain_masks need ban put drop = masks_of need ban (clause_of 0 0 put drop) (clause_of 0 0 0 0)

-- Document 01: "After it a fluent is on when put names it, or it was on and drop does not name it (so put wins)"
unfoldable pub after_plain : ℕ → ℕ → ℕ → ℕ
after_plain put drop state = gather fluent_limit (λ i. on put i || (on state i && not (on drop i)))

-- the state after these steps, by each action's put and drop
unfoldable pub run_plain : (ℕ → ℕ) → (ℕ → ℕ) → ℕ → List ℕ → ℕ
run_plain put drop state [] = state
run_plain put drop state (a ∷ steps) = run_plain put drop (after_plain (put a) (drop a) state) steps
