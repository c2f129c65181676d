-- The limits of document 01, each named once. Nothing else in specs/ writes these numbers.
use Rattle.std.specs.Prelude.{ℕ, ◌+◌}

-- "Fluents are numbered 00 to at most 31": so many there can be, and so many bits a state has
abbrev pub fluent_limit : ℕ
fluent_limit = 32

-- "actions 00 to at most 63"
abbrev pub action_limit : ℕ
action_limit = 64

-- "A log is 0 to 63 actions"
abbrev pub log_limit : ℕ
log_limit = 63

-- "Position p, from 0 to the log's length": one more than the log's steps; also the earliest position of an empty set
abbrev pub places : ℕ
places = log_limit + 1

-- "1 to 255 bytes"
abbrev pub text_limit : ℕ
text_limit = 255

-- "Depth: .. at most 24"
abbrev pub depth_limit : ℕ
depth_limit = 24

-- "`domain=NN` (01 to 16)": so many values a variable can have
abbrev pub domain_limit : ℕ
domain_limit = 16

-- "`now=step` or `now=end`": the number of the last reading, in a call
abbrev pub reading_limit : ℕ
reading_limit = 1

-- "a bound *more* of 0 to 6"
abbrev pub more_limit : ℕ
more_limit = 6

-- "NN is two decimal digits": a number that can be written is below this
abbrev pub number_limit : ℕ
number_limit = 100
