-- `spelling::scan::find_lf` meets its contract: what `position` says of what is left of the text.
use Rattle.std.proofs.Common.{◌≡◌, ◌≢◌, ◌∙◌, ℕ, List, ◌<◌, length, drop}
use Rattle.std.proofs.lemmas.Iterator.{IsFirst-from_position, YieldsList-from_slice}
use Rattle.std.proofs.lemmas.Option.{MatchOption-at_some, MatchOption-at_none}
use Rattle.std.specs.List.{AllWithin, HoldsAt}
use Rattle.std.specs.Option.{MatchOption}
use borrow.Author.Tests.{tests}
use borrow.Author.Rules.{rules}
use Rattle.spelling.specs.Numeral.{lf}
use Rattle.spelling.proofs.Bytes.{lf_found, lf_nowhere}
use Rattle.spelling.proofs.Stretch.{to_the_end}
use Rattle.spelling.proofs.scan.find_lf.Goals as goal
use Rattle.spelling.proofs.scan.find_lf.Goals.{After-position}

-- the first LF of the rest, or that it has none
abbrev NoLf : List ℕ → Type 0
NoLf rest = AllWithin (λ b. b ≢ lf) rest 0 (length rest)

abbrev LfAt : List ℕ → ℕ → Type 0
LfAt rest i = (i < length rest) × HoldsAt (λ b. b ≡ lf) rest i × AllWithin (λ b. b ≢ lf) rest 0 i

search_ended : (c : After-position) → let rest = drop c.args.from c.args.text.now in MatchOption c.position.result (NoLf rest) (LfAt rest)
search_ended c =
    let a = c.args in
    IsFirst-from_position _ _ _ (λ b. b ≡ lf) (λ b. b ≢ lf) c.position.ensures.ran (YieldsList-from_slice (drop a.from a.text.now) (c.iter.ensures.rest ∙ to_the_end a.text.now a.from))
    (λ x q k. search (rules, tests)) (λ x q k. search (rules, tests))

pub returns-in-Some : goal.returns-in-Some
returns-in-Some c =
    let a = c.args in
    let (within, found, none) = MatchOption-at_some (NoLf (drop a.from a.text.now)) (LfAt (drop a.from a.text.now)) c.in-Some.passed c.in-Some.is (search_ended (goal.at.returns-in-Some c).After-position) in
    lf_found a.text.now a.from c.in-Some.passed within (found 0) none

pub returns-in-None : goal.returns-in-None
returns-in-None c =
    let a = c.args in
    lf_nowhere a.text.now a.from c.requires (MatchOption-at_none (NoLf (drop a.from a.text.now)) (LfAt (drop a.from a.text.now)) c.in-None.is (search_ended (goal.at.returns-in-None c).After-position))
