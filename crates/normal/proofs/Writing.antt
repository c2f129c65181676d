-- Writing a rule's normal form sign by sign: what the parts' writing makes of the whole's. Laws of lists; no code, and of a rule its text alone.
use mathlib.Core.Path.{◌≡◌, refl, sym, ap, ap₂, ◌∙◌}
use mathlib.Core.List.{List, [], ◌∷◌, ◌++◌}
use Prim.Native.Nat.{ℕ, suc, ◌+◌}
use native.Mathlib.Omega.{arith}
use native.Mathlib.Nat.{add-zero}
use native.Mathlib.Numerals.{add-one}
use lib.ListN.{length, set, length-append}
use lib.Seq.{sets}
use Rattle.meaning.specs.Rule.{Rule, Variable, text, digits, letter}
use Rattle.std.specs.Prelude.{Some}
use Rattle.spelling.specs.Scan.{NumberAt}
use Rattle.grammar.specs.Letters.{Lettered}
use Rattle.grammar.proofs.Numbers.{byte, number_tens, number_ones}
use Rattle.normal.specs.Place.{Written, NumberWritten, LetterWritten}

-- to write two texts is to write the one and then the other behind it
sets_append : (l : List ℕ) (i : ℕ) (xs ys : List ℕ) → sets l i (xs ++ ys) ≡ sets (sets l i xs) (i + length xs) ys
sets_append l i [] ys = ap (λ (k : ℕ). sets l k ys) (sym (add-zero i))
sets_append l i (x ∷ xs) ys = sets_append (set l i x) (suc i) xs ys ∙ ap (λ (k : ℕ). sets (sets (set l i x) (suc i) xs) k ys) (omega arith)

-- a sign, and then a text behind it
sets_sign : (l m : List ℕ) (i s : ℕ) (xs zs : List ℕ) → m ≡ set l i s → zs ≡ s ∷ xs → sets m (i + 1) xs ≡ sets l i zs
sets_sign l m i s xs zs p f = ap₂ (λ (n : List ℕ) (k : ℕ). sets n k xs) p (add-one i) ∙ ap (sets l i) (sym f)

-- a text, and another behind it
sets_two : (l m k : List ℕ) (i t : ℕ) (xs ys : List ℕ) → m ≡ sets l i xs → t ≡ i + length xs → k ≡ sets m t ys → k ≡ sets l i (xs ++ ys)
sets_two l m k i t xs ys p q e = e ∙ ap₂ (λ (n : List ℕ) (j : ℕ). sets n j ys) p q ∙ sym (sets_append l i xs ys)

-- a sign, and the two digits of a number behind it
digits_put : (bytes before mid after : List ℕ) (at to to₁ n s : ℕ) → mid ≡ set before to s → NumberAt bytes at (Some n) → NumberWritten bytes at (to + 1) mid to₁ after
    → after ≡ sets before to (s ∷ digits n)
digits_put bytes before mid after at to to₁ n s sign d h = h.copied ∙ rw (number_tens bytes at n d, number_ones bytes at n d, sign) (simp add-one)

-- Y's text is the sign s and what follows. It is written from `to` on: the sign first.
module _ {to : ℕ} {before mid : List ℕ} {s : ℕ} {y : Rule} (sign : mid ≡ set before to s) where
  -- a sign alone
  pub leaf : text y ≡ s ∷ [] → Written y to before (to + 1) mid
  leaf f = record { wrote = omega (arith, ap length f); bytes = sign ∙ ap (sets before to) (sym f) }

  -- a sign and its number
  pub named : {bytes after : List ℕ} {at to₁ : ℕ} (n : ℕ) → NumberAt bytes at (Some n) → NumberWritten bytes at (to + 1) mid to₁ after → text y ≡ s ∷ digits n
      → Written y to before to₁ after
  named {bytes} {after} {at} {to₁} n d h f =
      record { wrote = omega (arith, ap length f, h.wrote); bytes = digits_put bytes before mid after at to to₁ n s sign d h ∙ ap (sets before to) (sym f) }

  -- a sign, its number, and a letter behind that
  pub sum : {bytes after last : List ℕ} {at at₁ to₁ to₂ : ℕ} (n : ℕ) (v : Variable) → NumberAt bytes at (Some n) → Lettered bytes at₁ v
      → NumberWritten bytes at (to + 1) mid to₁ after → LetterWritten bytes at₁ to₁ after to₂ last → text y ≡ s ∷ (digits n ++ (letter v ∷ []))
      → Written y to before to₂ last
  sum {bytes} {after} {last} {at} {at₁} {to₁} n v d l h i f = record {
    wrote = omega (arith, ap length f, h.wrote, i.wrote);
    bytes =
        sets_two before after last to to₁ (s ∷ digits n) (letter v ∷ []) (digits_put bytes before mid after at to to₁ n s sign d h) (omega (arith, h.wrote)) (i.copied ∙ ap (set after to₁) (byte bytes at₁ l))
        ∙ ap (sets before to) (sym f);
  }

  module _ {to₁ : ℕ} {after : List ℕ} {v : Rule} where
    -- a sign and one part
    pub one : Written v (to + 1) mid to₁ after → text y ≡ s ∷ text v → Written y to before to₁ after
    one h f = record {
      wrote = omega (arith, ap length f, h.wrote);
      bytes = h.bytes ∙ sets_sign before mid to s (text v) (text y) sign f;
    }

    -- a sign and two parts
    pub two : {to₂ : ℕ} {last : List ℕ} {w : Rule} → Written v (to + 1) mid to₁ after → Written w to₁ after to₂ last → text y ≡ s ∷ (text v ++ text w)
        → Written y to before to₂ last
    two {to₂} {last} {w} h i f = record {
      wrote = omega (arith, ap length f, length-append (text v) (text w), h.wrote, i.wrote);
      bytes =
          sets_two mid after last (to + 1) to₁ (text v) (text w) h.bytes h.wrote i.bytes ∙ sets_sign before mid to s (text v ++ text w) (text y) sign f;
    }

-- a sign, a letter, and one part behind that
pub lettered : {to to₁ to₂ at : ℕ} {before mid inner after bytes : List ℕ} {s : ℕ} {y w : Rule} (v : Variable) → mid ≡ set before to s → Lettered bytes at v
    → LetterWritten bytes at (to + 1) mid to₁ inner → Written w to₁ inner to₂ after → text y ≡ s ∷ (letter v ∷ text w) → Written y to before to₂ after
lettered {to} {to₁} {to₂} {at} {before} {mid} {inner} {after} {bytes} {s} {y} {w} v sign l h i f =
    let letter-put : inner ≡ set mid (to + 1) (letter v) = h.copied ∙ ap (set mid (to + 1)) (byte bytes at l) in
    record {
      wrote = omega (arith, ap length f, h.wrote, i.wrote);
      bytes =
          i.bytes
          ∙ ap (λ (k : ℕ). sets inner k (text w)) h.wrote
          ∙ sets_sign mid inner (to + 1) (letter v) (text w) (letter v ∷ text w) letter-put refl
          ∙ sets_sign before mid to s (letter v ∷ text w) (text y) sign f;
    }

-- a `-` taken away
pub gone : {to to₁ : ℕ} {before after : List ℕ} {y v : Rule} → Written v to before to₁ after → text y ≡ text v → Written y to before to₁ after
gone {to} {before = before} h f = record { wrote = omega (arith, ap length f, h.wrote); bytes = h.bytes ∙ ap (sets before to) (sym f) }
