-- Which refusal a question is given, from what the checks of theory, log, rule and times find; and what an accepted question tells. Knows the rows' order;
-- opens refusals 3, 6 and 10.
use Rattle.std.specs.Prelude.{Result, Ok, Err}
use Rattle.refusal.specs.declared.Refusal.{Refusal}
use mathlib.Core.Path.{ap}
use mathlib.Core.Logic.{◌⊎◌, inl, inr}
use mathlib.Core.Bool.{true}
use mathlib.Core.List.{List, [], ◌∷◌, ◌++◌}
use Prim.Native.Nat.{ℕ, ◌≤◌, ◌<◌}
use native.Mathlib.Omega.{arith}
use lib.ListN.{length}
use Rattle.meaning.specs.Limits.{text_limit}
use Rattle.meaning.specs.Rule.{Kind, test_kind, walk_kind, Walk, Test, Rule, of_test, of_walk, Opens}
use Rattle.meaning.specs.Refusal.{Row, Refused, Accepted, BadRule, BadTimes}
use Rattle.meaning.proofs.Refusal.{not_first, not_rest, rest_refused, refused_first, refused_second, accepted_both, accepted_parts}
use Rattle.meaning.proofs.Reading.{opens?, unique_reading}
use Rattle.theory.specs.Subject.{Subject, Readable, counts_of}
use Rattle.theory.specs.Rows.{world_rows}
use Rattle.theory.specs.Check.{Settled}
use Rattle.theory.proofs.Reading.{checked, readable}
use Rattle.rule.specs.Outcome.{text_rows, rule_rows}
use Rattle.grammar.specs.Standing.{Stands}
use Rattle.ask.specs.Rows.{time_rows, ask_rows}
use Rattle.ask.specs.Verdict.{SoundTest}

module _ (kind : Kind) (s : Subject) (bytes : List ℕ) (then now : ℕ) where
  abbrev rule_part : List {1} Row
  rule_part = text_rows true kind bytes (counts_of s)

  abbrev later : List {1} Row
  later = rule_part ++ time_rows s then now

  pub world_refuses : {N : ℕ} → Refused (world_rows s) N → Refused (ask_rows kind s bytes then now) N
  world_refuses r = refused_first (world_rows s) later r

  -- the first row of a rule's table is the world's, where the counts are good
  pub rule_refuses : {N : ℕ} → Accepted (world_rows s) → Refused (rule_rows true kind bytes (counts_of s)) N → Refused (ask_rows kind s bytes then now) N
  rule_refuses a r =
      refused_second (world_rows s) later a (refused_first rule_part (time_rows s then now) (rest_refused (λ h. not_first a (inl (inl h))) r))

  pub nothing_refuses : Accepted (world_rows s) → Accepted (rule_rows true kind bytes (counts_of s)) → Accepted (time_rows s then now) → Accepted (ask_rows kind s bytes then now)
  nothing_refuses a b timely = accepted_both (world_rows s) later a (accepted_both rule_part (time_rows s then now) (not_rest b) timely)

  -- where theory, log and rule are accepted, the times decide
  pub times_settle : Accepted (world_rows s) → Accepted (rule_rows true kind bytes (counts_of s)) → (r : Result Unit Refusal) → Settled (time_rows s then now) r
      → Settled (ask_rows kind s bytes then now) r
  times_settle a b (Ok u) timely = nothing_refuses a b timely
  times_settle a b (Err why) bad = refused_second (world_rows s) later a (refused_second rule_part (time_rows s then now) (not_rest b) bad)

-- the bytes spell a rule of the kind, and one only
whole : (domain : ℕ) (kind : Kind) (bytes : List ℕ) → (BadRule domain kind bytes → ⊥) → (r : Rule) × Opens kind bytes r []
whole domain kind bytes fine = go (opens? kind bytes)
  where
    exact : (r : Rule) (rest : List ℕ) → Opens kind bytes r rest → (r : Rule) × Opens kind bytes r []
    exact r [] o = (r, o)
    exact r (b ∷ rest) o = absurd (fine (inr (inr (λ q p allowed. let e = (unique_reading o p).1 in absurd (omega (arith, ap length e))))))

    go : ((r : Rule) × (rest : List ℕ) × Opens kind bytes r rest) ⊎ ((r : Rule) (rest : List ℕ) → Opens kind bytes r rest → ⊥) → (r : Rule) × Opens kind bytes r []
    go (inl h) = exact h.0 h.1 h.2
    go (inr none) = absurd (fine (inr (inr (λ r o allowed. none r [] o))))

walk_of : (bytes : List ℕ) (r : Rule) → Opens walk_kind bytes r [] → (x : Walk) × Opens walk_kind bytes (of_walk x) []
walk_of bytes (of_walk x) o = (x, o)
walk_of bytes (of_test t) o = absurd o.fits

test_of : (bytes : List ℕ) (r : Rule) → Opens test_kind bytes r [] → (t : Test) × Opens test_kind bytes (of_test t) []
test_of bytes (of_test t) o = (t, o)
test_of bytes (of_walk x) o = absurd o.fits

-- where it stands
pub stands_first : {kind : Kind} {bytes : List ℕ} {r : Rule} → Opens kind bytes r [] → Stands bytes 0 r
stands_first o = record { rest = []; spells = o.spells; short_actions = o.short_actions; short_fluents = o.short_fluents }

-- a text that is accepted as a test: how long it is, and the test that it spells
module _ {bytes : List ℕ} (known : SoundTest bytes) where
  fine_test : BadRule known.counts.domain test_kind bytes → ⊥
  fine_test = not_first known.accepted

  pub known_short : length bytes ≤ text_limit
  known_short =
      let fits : ¬ (text_limit < length bytes) = λ h. fine_test (inr (inl h)) in
      omega arith

  pub known_test : (t : Test) × Opens test_kind bytes (of_test t) []
  known_test = let (r, o) = whole known.counts.domain test_kind bytes fine_test in test_of bytes r o

-- what an accepted question tells
module _ {kind : Kind} {s : Subject} {bytes : List ℕ} {then now : ℕ} (a : Accepted (ask_rows kind s bytes then now)) where
  parts : Accepted (world_rows s) × Accepted (text_rows true kind bytes (counts_of s) ++ time_rows s then now)
  parts = accepted_parts (world_rows s) (text_rows true kind bytes (counts_of s) ++ time_rows s then now) a

  ruled : Accepted (text_rows true kind bytes (counts_of s)) × Accepted (time_rows s then now)
  ruled = accepted_parts (text_rows true kind bytes (counts_of s)) (time_rows s then now) parts.1

  fine_rule : BadRule (counts_of s).domain kind bytes → ⊥
  fine_rule = not_first ruled.0

  pub asked_readable : Readable s.masks s.log
  asked_readable = readable (checked s parts.0)

  pub asked_short : length bytes ≤ text_limit
  asked_short =
      let fits : ¬ (text_limit < length bytes) = λ h. fine_rule (inr (inl h)) in
      omega arith

  pub asked_times : (then ≤ now) × (now ≤ length s.log)
  asked_times =
      let timely : BadTimes then now s.log → ⊥ = not_first ruled.1 in
      let early : ¬ (now < then) = λ h. timely (inl h) in
      let late : ¬ (length s.log < now) = λ h. timely (inr h) in
      (omega arith, omega arith)

-- the walk that is asked, and the test
module _ {s : Subject} {bytes : List ℕ} {then now : ℕ} where
  pub asked_sound : Accepted (ask_rows test_kind s bytes then now) → SoundTest bytes
  asked_sound a = record { counts = counts_of s; accepted = (ruled a).0 }

  pub asked_walk : Accepted (ask_rows walk_kind s bytes then now) → (x : Walk) × Opens walk_kind bytes (of_walk x) []
  asked_walk a = let (r, o) = whole (counts_of s).domain walk_kind bytes (fine_rule a) in walk_of bytes r o

  pub asked_test : Accepted (ask_rows test_kind s bytes then now) → (t : Test) × Opens test_kind bytes (of_test t) []
  asked_test a = known_test (asked_sound a)
