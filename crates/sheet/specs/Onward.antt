-- Reading a sheet from the top, part by part: what was read above leaves, of the lines that were to come, those that are still to come.
use Rattle.std.specs.Prelude.{List, ℕ}
use Rattle.sheet.specs.Lines.{Sheet, Lines, ReadAs, FaultIn}

-- The lines `whole` stood at this place, the first of them with this number, and have been read down to the lines `rest`, which stand at that place,
-- the first of them with that number: what is found from there on is what is found of all.
pub record Onward (whole : Lines) (bytes : List ℕ) (at line : ℕ) (rest : Lines) (at' line' : ℕ) : Type 0 where
  pub faults : (number place : ℕ) → FaultIn rest bytes at' line' number place → FaultIn whole bytes at line number place
  pub reads : (sheet : Sheet) → ReadAs rest bytes at' sheet → ReadAs whole bytes at sheet
