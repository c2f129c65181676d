-- What the evaluator finds from one position is what reach and verdict promise. Knows position sets by the positions that they hold.
use mathlib.Core.Path.{◌≡◌, refl, sym, subst}
use mathlib.Core.Logic.{◌↔◌}
use mathlib.Core.Bool.{Bool, true, false, ◌&&◌}
use mathlib.Core.List.{List}
use mathlib.Core.Option.{some}
use Prim.Native.Nat.{ℕ, ◌≤◌}
use native.Mathlib.Omega.{arith}
use lib.Dec.{eqb, ltb}
use lib.ListN.{length}
use Rattle.meaning.specs.Limits.{places, text_limit}
use Rattle.meaning.specs.Rule.{Kind, Walk, Test, of_walk, of_test, walk_kind, test_kind}
use Rattle.meaning.specs.Leads.{Leads, Holds}
use Rattle.meaning.specs.Reach.{count_of, earliest_of, SetWord}
use Rattle.meaning.specs.Refusal.{Accepted}
use Rattle.positions.specs.declared.PositionSet.{PositionSet}
use Rattle.positions.specs.Positions.{holds}
use Rattle.theory.specs.Subject.{Subject, counts_of, world_of}
use Rattle.theory.proofs.Verdict.{told}
use Rattle.grammar.specs.Ends.{FillOutcome}
use Rattle.grammar.specs.Standing.{Stands, Ends}
use Rattle.grammar.proofs.Widths.{ends_told}
use Rattle.runs.specs.Image.{UpTo}
use Rattle.runs.specs.Values.{unbound}
use Rattle.runs.specs.Found.{WalkHere, TestHere, Tabled, WalkFound, TestFound}
use Rattle.ask.specs.Rows.{ask_rows}
use Rattle.ask.specs.LaidOut.{no_ends, LaidOut}
use Rattle.ask.specs.Reach.{WalkReached}
use Rattle.ask.specs.Verdict.{TestJudged, SoundTest, TestTold}
use Rattle.runs.proofs.Bound.{bears_none}
use Rattle.runs.proofs.Loops.{one_there}
use Rattle.ask.proofs.Asking.{stands_first, asked_readable, asked_times, asked_walk, asked_test, known_test}

-- a table that was empty, filled for a text of a rule's length, is the text's
pub ends_marked : {bytes before after : List ℕ} → length bytes ≤ text_limit → before ≡ no_ends → FillOutcome bytes before after → Ends bytes after
ends_marked {bytes} {before} {after} short empty o = ends_told bytes after short (subst (λ (l : List ℕ). FillOutcome bytes l after) empty o)

-- no variable is bound where a question is asked, and all its tests have one reading
abbrev values : Subject → List ℕ
values s = unbound (counts_of s).domain s.setting.reading s.setting.reading

-- A question that no check refuses, laid out for the evaluator; the one position is then.
module _ {kind : Kind} {s : Subject} {bytes ends rows : List ℕ} {then now : ℕ}
    (a : Accepted (ask_rows kind s bytes then now)) (laid : LaidOut s bytes ends rows)
    (one : PositionSet) (at : (q : ℕ) → holds one q ≡ (eqb then q && ltb q places)) where
  tabled : Tabled (world_of s) rows (values s) now
  tabled = record { described = laid.described; logged = (asked_times a).1; room = (asked_readable a).short; bears = bears_none (world_of s) refl s.setting.reading s.setting.reading refl refl }

  alone : (q : ℕ) → (holds one q ≡ true) ↔ (q ≡ then)
  alone = one_there then one (omega (arith, asked_times a, (asked_readable a).short)) at

  early : UpTo now (holds one)
  early q h = omega (arith, (asked_times a).0, (alone q).0 h)

  -- what the walk leads to from then
  led : (found : PositionSet) (x : Walk) → Stands bytes 0 (of_walk x) → WalkFound bytes 0 false rows (values s) now (holds one) (holds found)
      → (q : ℕ) → (holds found q ≡ true) ↔ Leads (world_of s) x then q now
  led found x h f q =
      let i = f.found (world_of s) tabled early x h in (
        λ k.
            let (p, there, step) = (i.each q).0 k in
            subst (λ (from : ℕ). Leads (world_of s) x from q now) ((alone p).0 there) step,
        λ k. (i.each q).1 (then, (alone then).1 refl, k),
      )

  -- the test is true at then
  kept_there : (kept : PositionSet) (t : Test) → Stands bytes 0 (of_test t) → TestFound bytes 0 rows (values s) now (holds one) (holds kept)
      → (holds kept then ≡ true) ↔ Holds (world_of s) t then now
  kept_there kept t h f =
      let i = f.found (world_of s) tabled early t h in
      (λ k. ((i.each then).0 k).1, λ k. (i.each then).1 ((alone then).1 refl, k))

-- the test stands at the text's first place
pub test_first : {bytes ends : List ℕ} → SoundTest bytes → Ends bytes ends → TestHere bytes ends 0
test_first known marked = let (t, o) = known_test known in record { test = t; stands = stands_first o; marked = marked }

module _ {s : Subject} {bytes ends rows : List ℕ} {then now : ℕ} where
  -- and so does the walk
  pub walk_first : Accepted (ask_rows walk_kind s bytes then now) → LaidOut s bytes ends rows → WalkHere bytes ends 0
  walk_first a laid = let (x, o) = asked_walk a in record { walk = x; stands = stands_first o; marked = laid.marked }

  -- reach
  pub reach_right : (a : Accepted (ask_rows walk_kind s bytes then now)) → LaidOut s bytes ends rows → (one found : PositionSet)
      → ((q : ℕ) → holds one q ≡ (eqb then q && ltb q places)) → WalkFound bytes 0 false rows (values s) now (holds one) (holds found)
      → {set count earliest : ℕ} → SetWord (holds found) set → count ≡ count_of (holds found) → earliest ≡ earliest_of (holds found)
      → WalkReached s bytes then now set count earliest
  reach_right a laid one found at f word c e =
      let (x, o) = asked_walk a in
      record {
        walk = x;
        spells = o;
        reached = record {
          held = holds found;
          written = word;
          reached = record { holds = led a laid one at found x (stands_first o) f; counted = c; first = e };
        };
      }

  -- verdict
  verdict_right : (a : Accepted (ask_rows test_kind s bytes then now)) → LaidOut s bytes ends rows → (one kept : PositionSet)
      → ((q : ℕ) → holds one q ≡ (eqb then q && ltb q places)) → TestFound bytes 0 rows (values s) now (holds one) (holds kept)
      → (has : Bool) → has ≡ holds kept then → TestJudged s bytes then now (some has)
  verdict_right a laid one kept at f has e =
      let (t, o) = asked_test a in
      record { test = t; spells = o; judged = told has (rw e (kept_there a laid one at kept t (stands_first o) f)) }

-- whichever log the rows are of
pub test_told : {bytes ends rows : List ℕ} {domain reading then now : ℕ} → Ends bytes ends → (one kept : PositionSet)
    → ((q : ℕ) → holds one q ≡ (eqb then q && ltb q places)) → TestFound bytes 0 rows (unbound domain reading reading) now (holds one) (holds kept)
    → (has : Bool) → has ≡ holds kept then → TestTold bytes domain reading rows then now has
test_told {bytes} {rows = rows} {reading = reading} {now = now} marked one kept at f has e = record {
  each = λ s many read a described.
      let counted = subst (λ (d : ℕ). TestFound bytes 0 rows (unbound d reading reading) now (holds one) (holds kept)) (sym many) f in
      let found = subst (λ (r : ℕ). TestFound bytes 0 rows (unbound (counts_of s).domain r r) now (holds one) (holds kept)) (sym read) counted in
      verdict_right a (record { marked = marked; described = described }) one kept at found has e;
}
