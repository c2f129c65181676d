-- What the signs with no part ask for, over the text, in one pass with where they lead.
use mathlib.Core.Path.{◌≡◌, refl, sym, ap, subst, ◌∙◌}
use mathlib.Core.Logic.{inl, inr}
use mathlib.Core.Bool.{Bool, false, true≢false, cond, ◌&&◌, ◌||◌}
use mathlib.Core.List.{List, [], ◌∷◌}
use Prim.Native.Nat.{ℕ, ◌+◌, ◌-◌, ◌^◌, ◌<◌}
use lib.Dec.{eqb}
use lib.ListN.{get_or}
use Rattle.laws.specs.Bit.{on}
use Rattle.laws.proofs.Truth.{off_on, or_iff}
use Rattle.laws.proofs.On.{on_none}
use Rattle.meaning.specs.Limits.{action_limit}
use Rattle.meaning.specs.Theory.{World, number_in}
use Rattle.meaning.specs.Rule.{Variable, plain, plus, Walk, Rule, of_walk}
use Rattle.runs.specs.Image.{Set}
use Rattle.std.specs.declared.option.Option.TheVariants.{Some}
use Rattle.spelling.specs.Scan.{NumberAt}
use Rattle.grammar.specs.Signs.{is_of}
use Rattle.grammar.specs.Letters.{Lettered}
use Rattle.runs.specs.Values.{value_in, LetterHere}
use Rattle.runs.specs.Found.{Tabled, WalkHere, Numbered, LeafFound, AskedBy, AskFound}
use Rattle.runs.specs.Run.{Ground, Begun, WalkKept, Heard, Asking, AskKept}
use Rattle.grammar.proofs.Spread.{Spread, spread, act_at, undo_at, next_part_at, prev_at, seq_at, alt_at, star_at, check_at, conv_at, sum_act_at, sum_undo_at, pick_at}
use Rattle.runs.proofs.Calls.{NoSign, NoParts}
use Rattle.runs.proofs.Found.{leaf_kept}
use Rattle.runs.proofs.Heard.{heard_more}
use Rattle.runs.proofs.Asked.{act_asked, next_asked, check_asked, undo_asked, prev_asked, conv_asked}

-- the number behind an `a`
pub act_number : {bytes ends : List ℕ} {at : ℕ} → WalkHere bytes ends at → get_or bytes at 0 ≡ 97 → Numbered bytes (at + 1)
act_number {bytes} {at = at} h sign = go (spread h.stands 97 sign)
  where
    go : {r : Rule} → Spread bytes at 97 r → Numbered bytes (at + 1)
    go (act_at b digits) = record { number = b; digits = digits }

-- the number and the letter behind a `b`
pub sum_number : {bytes ends : List ℕ} {at : ℕ} → WalkHere bytes ends at → get_or bytes at 0 ≡ 98 → Numbered bytes (at + 1) × LetterHere bytes (at + 3)
sum_number {bytes} {at = at} h sign = go (spread h.stands 98 sign)
  where
    go : {r : Rule} → Spread bytes at 98 r → Numbered bytes (at + 1) × LetterHere bytes (at + 3)
    go (sum_act_at b v digits l) = (record { number = b; digits = digits }, record { variable = v; stands = l })

module _ {may : ℕ → Bool} {bytes : List ℕ} {at : ℕ} {rows bound : List ℕ} {n : ℕ} {from : Set} where
  -- `aNN`
  pub act_found : (these : ℕ) {ready : Bool} {r : ℕ} → ready ≡ may at → get_or bytes at 0 ≡ 97 → ((b : ℕ) → NumberAt bytes (at + 1) (Some b) → (a : ℕ) → a < action_limit → on these a ≡ eqb a b)
      → r ≡ cond (ready && from n) these 0 → AskFound may bytes at rows bound n from r
  act_found these {r = r} same sign bit e = record { found = λ w tabled low x h. go w (spread h 97 sign) }
    where
      go : (w : World) → {x : Walk} → Spread bytes at 97 (of_walk x) → AskedBy may w at x n from r
      go w (act_at b digits) = rw (e, same) (act_asked may w at (plain b) n from these (bit b digits))

  -- `bNNv`
  pub sum_found : (these : ℕ) {ready : Bool} {r : ℕ} → ready ≡ may at → get_or bytes at 0 ≡ 98
      → ((b : ℕ) (v : Variable) → NumberAt bytes (at + 1) (Some b) → Lettered bytes (at + 3) v → (a : ℕ) → a < action_limit → on these a ≡ eqb a (b + value_in bound v))
      → r ≡ cond (ready && from n) these 0 → AskFound may bytes at rows bound n from r
  sum_found these {r = r} same sign bit e = record { found = λ w tabled low x h. go w tabled (spread h 98 sign) }
    where
      go : (w : World) → Tabled w rows bound n → {x : Walk} → Spread bytes at 98 (of_walk x) → AskedBy may w at x n from r
      go w tabled (sum_act_at b v digits l) =
          let sum : b + value_in bound v ≡ number_in w (plus b v) = ap (λ (i : ℕ). b + i) (sym (tabled.bears.stand v)) in
          rw (e, same) (act_asked may w at (plus b v) n from these (λ a h. bit b v digits l a h ∙ ap (eqb a) sum))

  -- `n`
  pub next_found : {ready : Bool} {r : ℕ} → ready ≡ may at → get_or bytes at 0 ≡ 110 → r ≡ cond (ready && from n) (2 ^ action_limit - 1) 0 → AskFound may bytes at rows bound n from r
  next_found {r = r} same sign e = record { found = λ w tabled low x h. go w (spread h 110 sign) }
    where
      go : (w : World) → {x : Walk} → Spread bytes at 110 (of_walk x) → AskedBy may w at x n from r
      go w next_part_at = rw (e, same) (next_asked may w at n from)

  -- the signs that never ask
  pub quiet_found : NoSign bytes at 97 → NoSign bytes at 110 → NoSign bytes at 59 → NoSign bytes at 124 → NoSign bytes at 42 → NoSign bytes at 98 → NoSign bytes at 112 → AskFound may bytes at rows bound n from 0
  quiet_found no-act no-next no_seq no_alt no_star no-sum no_pick = record { found = λ w tabled low x h. go w (spread h (get_or bytes at 0) refl) refl }
    where
      go : (w : World) → {b : ℕ} {x : Walk} → Spread bytes at b (of_walk x) → get_or bytes at 0 ≡ b → AskedBy may w at x n from 0
      go w (act_at b digits) e = absurd (no-act e)
      go w (undo_at b digits) e = undo_asked may w at (plain b) n from
      go w next_part_at e = absurd (no-next e)
      go w prev_at e = prev_asked may w at n from
      go w (seq_at v x p q) e = absurd (no_seq e)
      go w (alt_at v x p q) e = absurd (no_alt e)
      go w (star_at x p) e = absurd (no_star e)
      go w (check_at t p) e = check_asked may w at t n from
      go w (conv_at x p) e = conv_asked may w at x n from
      go w (sum_act_at b v digits l) e = absurd (no-sum e)
      go w (sum_undo_at b v digits l) e = undo_asked may w at (plus b v) n from
      go w (pick_at v x l p) e = absurd (no_pick e)

-- signs with no part, over the text: what they ask for, and where they lead
abbrev parted : List ℕ
parted = 59 ∷ (124 ∷ (42 ∷ (63 ∷ (45 ∷ (112 ∷ [])))))

pub plain_sign : {bytes : List ℕ} {at sign : ℕ} → get_or bytes at 0 ≡ sign → is_of parted sign ≡ false → NoParts bytes at
plain_sign e h = record {
  no_seq = λ k. true≢false (subst (λ (i : ℕ). is_of parted i ≡ false) (sym e ∙ k) h);
  no_alt = λ k. true≢false (subst (λ (i : ℕ). is_of parted i ≡ false) (sym e ∙ k) h);
  no_star = λ k. true≢false (subst (λ (i : ℕ). is_of parted i ≡ false) (sym e ∙ k) h);
  no_check = λ k. true≢false (subst (λ (i : ℕ). is_of parted i ≡ false) (sym e ∙ k) h);
  no_conv = λ k. true≢false (subst (λ (i : ℕ). is_of parted i ≡ false) (sym e ∙ k) h);
  no_pick = λ k. true≢false (subst (λ (i : ℕ). is_of parted i ≡ false) (sym e ∙ k) h);
}

module _ {may : ℕ → Bool} {bytes : List ℕ} {at : ℕ} {rows bound : List ℕ} {n : ℕ} {one : List ℕ} {from reached : Set} where
  pub leaf_asked : {word : ℕ} → NoParts bytes at → LeafFound bytes at false rows bound n from reached → AskFound may bytes at rows bound n from word → AskKept may bytes at rows bound n one one from reached word
  leaf_asked {word} none step f = record { walked = leaf_kept none step; asked = go }
    where
      go : (w : World) (scope : Set) (x : Walk) (g : Ground) → Begun w bytes scope rows bound n at x false g one from → (these : Set) → Heard may w n one at x these → Asking may w n at x g these one from word
      go w scope x g b these h =
          let u = f.found w b.tabled b.low x b.stands in
          record {
            least = λ p a room here asks. (or_iff (these a) (on word a)).1 (inr ((u a room).1 (p, here, asks)));
            most = λ a room e. let (p, here, asks) = (u a room).0 e in (p, b.ground p here, asks);
            heard = heard_more may w n one x at these _ (λ a k. (or_iff (these a) (on word a)).1 (inl k)) h;
          }

  -- a test, and what no job has, wait for nothing
  pub quiet_asked : {two : List ℕ} → NoSign bytes at 97 → NoSign bytes at 110 → NoSign bytes at 59 → NoSign bytes at 124 → NoSign bytes at 42 → NoSign bytes at 98 → NoSign bytes at 112 → WalkKept bytes at false rows bound n one two from reached
      → AskKept may bytes at rows bound n one two from reached 0
  unfolding Heard
  quiet_asked {two} no-act no-next no_seq no_alt no_star no-sum no_pick f = record { walked = f; asked = λ w scope x g b these h. go w scope x g b these (still w (λ a. these a || on 0 a) (spread b.stands (get_or bytes at 0) refl) refl) }
    where
      quiet : AskFound may bytes at rows bound n from 0
      quiet = quiet_found no-act no-next no_seq no_alt no_star no-sum no_pick

      still : (w : World) (these : Set) {x : Walk} {b : ℕ} → Spread bytes at b (of_walk x) → get_or bytes at 0 ≡ b → Heard may w n two at x these
      still w these (act_at b digits) e = absurd (no-act e)
      still w these (undo_at b digits) e = tt
      still w these next_part_at e = absurd (no-next e)
      still w these prev_at e = tt
      still w these (seq_at v x p q) e = absurd (no_seq e)
      still w these (alt_at v x p q) e = absurd (no_alt e)
      still w these (star_at x p) e = absurd (no_star e)
      still w these (check_at t p) e = tt
      still w these (conv_at x p) e = tt
      still w these (sum_act_at b v digits l) e = absurd (no-sum e)
      still w these (sum_undo_at b v digits l) e = tt
      still w these (pick_at v x l p) e = absurd (no_pick e)

      go : (w : World) (scope : Set) (x : Walk) (g : Ground) → Begun w bytes scope rows bound n at x false g one from → (these : Set) → Heard may w n two at x (λ a. these a || on 0 a)
          → Asking may w n at x g these two from 0
      go w scope x g b these h =
          let u = quiet.found w b.tabled b.low x b.stands in
          record {
            least = λ p a room here asks. absurd (off_on (on_none a) ((u a room).1 (p, here, asks)));
            most = λ a room e. absurd (off_on (on_none a) e);
            heard = h;
          }
