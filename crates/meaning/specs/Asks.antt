-- The action that a job waits for at the log's end: what "which label may come next" means. Only a job's signs wait; the others, and a test, never do.
use Rattle.std.specs.Prelude.{◌≡◌, ◌⊎◌, Bool, true, ℕ, ◌+◌, ◌<◌, length}
use Rattle.meaning.specs.Theory.{World, bind, number_in}
use Rattle.meaning.specs.Rule.{Walk, act, undo, next, prev, seq, alt, star, check, conv, pick, walk_text}
use Rattle.meaning.specs.Leads.{Leads, Many}

-- Asks w W p k a: from p, with now = k, the walk W stands at k before a step that is not there yet, and waits for action a.
unfoldable pub Asks : World → Walk → ℕ → ℕ → ℕ → Type 0
Asks w (act b) p k a = (p ≡ k) × (a ≡ number_in w b)
Asks w (undo b) p k a = ⊥
Asks w next p k a = p ≡ k
Asks w prev p k a = ⊥
Asks w (seq v x) p k a = Asks w v p k a ⊎ ((m : ℕ) × Leads w v p m k × Asks w x m k a)
Asks w (alt v x) p k a = Asks w v p k a ⊎ Asks w x p k a
Asks w (star x) p k a = (m : ℕ) × Many (Leads w x) p m k × Asks w x m k a
Asks w (check t) p k a = ⊥
Asks w (conv x) p k a = ⊥
Asks w (pick v x) p k a = (i : ℕ) × (i < w.domain) × Asks (bind w v i) x p k a

-- The same of a walk whose text begins at a place, where only some signs may ask: `may` says it of the place of each.
unfoldable pub AsksAt : (ℕ → Bool) → World → ℕ → Walk → ℕ → ℕ → ℕ → Type 0
AsksAt may w at (act b) p k a = (may at ≡ true) × (p ≡ k) × (a ≡ number_in w b)
AsksAt may w at (undo b) p k a = ⊥
AsksAt may w at next p k a = (may at ≡ true) × (p ≡ k)
AsksAt may w at prev p k a = ⊥
AsksAt may w at (seq v x) p k a =
    AsksAt may w (at + 1) v p k a ⊎ ((m : ℕ) × Leads w v p m k × AsksAt may w (at + 1 + length (walk_text v)) x m k a)
AsksAt may w at (alt v x) p k a = AsksAt may w (at + 1) v p k a ⊎ AsksAt may w (at + 1 + length (walk_text v)) x p k a
AsksAt may w at (star x) p k a = (m : ℕ) × Many (Leads w x) p m k × AsksAt may w (at + 1) x m k a
AsksAt may w at (check t) p k a = ⊥
AsksAt may w at (conv x) p k a = ⊥
AsksAt may w at (pick v x) p k a = (i : ℕ) × (i < w.domain) × AsksAt may (bind w v i) (at + 2) x p k a
