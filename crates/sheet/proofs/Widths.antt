-- "With 64 actions the longest sheet has 3,263 bytes", one of version 2 the bytes of a line more: "Sheet limit 3,273"; with ten masks a line "Sheet limit 6,729", and with the
-- line of the reading "Sheet limit 6,738."
use Rattle.std.specs.Prelude.{◌≡◌, refl}
use Rattle.sheet_lines.specs.Versions.{sheet1, sheet2, sheet3, sheet4}
use Rattle.sheet.specs.Longest.{longest, sheet_limit}

pub as_documented : longest sheet1 ≡ 3263
as_documented = refl

pub as_requested : longest sheet2 ≡ 3273
as_requested = refl

pub with_clauses : longest sheet3 ≡ 6729
with_clauses = refl

pub reading_width : longest sheet4 ≡ 6738
reading_width = refl

pub for_every_version : sheet_limit ≡ 6738
for_every_version = refl
