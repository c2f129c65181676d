-- Document 02, Q-6: "Older sheets read as one unconditional clause and an empty one, same states." What the lines of an older sheet's actions say, and the states that document 01
-- gives them.
use Rattle.std.specs.Prelude.{◌≡◌, List, [], ◌++◌, ℕ, zero, suc, ◌+◌, ◌*◌, get_or, take}
use Rattle.meaning.specs.Theory.{state_before}
use Rattle.meaning.specs.Four.{plain_stride, run_plain}
use Rattle.theory.specs.Subject.{Subject, counts_of, world_of}
use Rattle.theory.specs.Plain.{masks_of_four}
use Rattle.sheet_lines.specs.Line.{Says}
use Rattle.sheet_lines.specs.Forms.{act_form}
use Rattle.sheet.specs.Lines.{next_at}
use Rattle.sheet_lines.specs.declared.Version.{Version}

-- from this place on the lines of so many actions say these masks, one line below the other
unfoldable pub ActsSay : Version → List ℕ → ℕ → ℕ → ℕ → List ℕ → Type 0
ActsSay v bytes fluents at zero masks = masks ≡ []
ActsSay v bytes fluents at (suc actions) masks =
    (row : List ℕ)
    × (rest : List ℕ)
    × (masks ≡ row ++ rest)
    × Says (act_form v fluents) bytes at row
    × ActsSay v bytes fluents (next_at (act_form v fluents) at row) actions rest

-- each action is possible as its four masks have it, and every state is that of document 01, by its put and its drop
pub record AsBefore (v : Version) (bytes : List ℕ) (s : Subject) : Type 0 where
  pub four : List ℕ
  pub at : ℕ
  pub said : ActsSay v bytes (counts_of s).fluents at (counts_of s).actions four
  pub masks : (a : ℕ) → (world_of s).masks a ≡ masks_of_four four a
  pub states : (p : ℕ)
      → state_before (world_of s) p ≡ run_plain (λ a. get_or four (plain_stride * a + 2) 0) (λ a. get_or four (plain_stride * a + 3) 0) s.setting.start (take p s.log)
