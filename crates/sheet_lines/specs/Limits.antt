-- The numbers of documents 01 and 02 that only a sheet has, each named once.
use Rattle.std.specs.Prelude.{ℕ}

-- `sheet=1`, by Q-2 `sheet=2`, by Q-6 `sheet=3` and by Q-7 `sheet=4`: the newest version that there is
abbrev pub newest : ℕ
newest = 4

-- a count has two digits, the version and *more* have one
abbrev pub count_width : ℕ
count_width = 2

abbrev pub digit_width : ℕ
digit_width = 1

-- "two digits an action"
abbrev pub step_width : ℕ
step_width = 2

-- "with commas between"
abbrev pub comma : ℕ
comma = 44
