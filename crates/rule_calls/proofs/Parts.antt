-- A law of what is handed back: a part of a text is the place where it begins. No code.
use mathlib.Core.Path.{◌≡◌, refl, sym, ap, subst, ◌∙◌}
use mathlib.Core.Logic.{inl, inr}
use mathlib.Core.List.{List}
use mathlib.Core.Option.{some}
use Prim.Native.Nat.{ℕ, ◌+◌, ◌-◌}
use native.Mathlib.Omega.{arith}
use denote.Ref.{Bor}
use lib.ListN.{length, drop, length-append}
use lib.Seq.{drop_at}
use Rattle.meaning.specs.Rule.{Kind, Opens, text}
use Rattle.refusal.specs.declared.Refusal.{Refusal}
use Rattle.refusal.specs.Number.{number_of}
use Rattle.refusal.proofs.Numbers.{some_number}
use Rattle.theory.specs.declared.Counts.{Counts}
use Rattle.rule.specs.Outcome.{ReadAnswered}
use Rattle.rule_calls.specs.Exported.{RestBy}

-- where the part that is handed back begins
pub rest_of : (kind : Kind) (whole : Bor (List ℕ)) (counts : Counts) (number : ℕ) (part : Bor (List ℕ)) → ReadAnswered kind whole counts number part
    → RestBy (some kind) whole.now counts number (length whole.now - length part.now)
rest_of kind whole counts number part (inl r) = inl (record { refused = r.refused; blank = omega (arith, ap length r.blank.bytes) })
rest_of kind whole counts number part (inr r) =
    let unread = r.right in
    let bytes : List ℕ = whole.now in
    let held : length part.now ≡ length unread.rest = ap length unread.from.bytes in
    let all : length bytes ≡ length (text unread.rule) + length unread.rest = ap length unread.opens.spells ∙ length-append (text unread.rule) unread.rest in
    let place : length (text unread.rule) ≡ length bytes - length part.now = omega arith in
    let behind : drop (length bytes - length part.now) bytes ≡ unread.rest =
    ap (drop (length bytes - length part.now)) unread.opens.spells ∙ drop_at (text unread.rule) unread.rest (length bytes - length part.now) place in
    inr (record {
      none = r.none;
      accepted = r.accepted;
      right = record { rule = unread.rule; opens = subst (Opens kind bytes unread.rule) (sym behind) unread.opens; behind = sym place };
    })

-- where none is read, the rest is empty
pub no_rest : (kind : Kind) (whole : Bor (List ℕ)) (counts : Counts) (why : Refusal) (part : Bor (List ℕ)) → ReadAnswered kind whole counts (number_of why) part
    → RestBy (some kind) whole.now counts (number_of why) (length whole.now)
no_rest kind whole counts why part (inl r) = inl (record { refused = r.refused; blank = refl })
no_rest kind whole counts why part (inr r) = absurd (some_number why r.none)
