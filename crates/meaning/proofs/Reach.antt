-- What reach answers is one set, one count and one earliest position, and its set one number. Knows of a walk only that it leads somewhere or not.
use mathlib.Core.Path.{◌≡◌, sym, ap, subst, ◌∙◌, fun_ext}
use mathlib.Core.Bool.{Bool}
use Prim.Native.Nat.{ℕ}
use Rattle.laws.proofs.Truth.{same_truth}
use Rattle.laws.proofs.On.{same_bits}
use Rattle.meaning.specs.Theory.{World}
use Rattle.meaning.specs.Rule.{Walk}
use Rattle.meaning.specs.Reach.{Reached, SetWord, ReachedAs, count_of, earliest_of}

-- a set is written down in one way
pub word_unique : {held : ℕ → Bool} {s s' : ℕ} → SetWord held s → SetWord held s' → s ≡ s'
word_unique {held} {s} {s'} r r' = same_bits s s' (λ q. r.bits q ∙ sym (r'.bits q))

-- what is held is determined by where the walk leads, count and earliest by what is held
pub reached_unique :
    (w : World) (x : Walk) (t n : ℕ) {h h' : ℕ → Bool} {c e c' e' : ℕ}
    → Reached w x t n h c e → Reached w x t n h' c' e' → (h ≡ h') × (c ≡ c') × (e ≡ e')
reached_unique w x t n {h} {h'} {c} {e} {c'} {e'} r r' = (
  same,
  r.counted ∙ ap count_of same ∙ sym r'.counted,
  r.first ∙ ap earliest_of same ∙ sym r'.first,
)
  where
    same : h ≡ h'
    same = fun_ext (λ q. same_truth (h q) (h' q) (λ a. (r'.holds q).1 ((r.holds q).0 a)) (λ a. (r.holds q).1 ((r'.holds q).0 a)))

pub reached_as_unique :
    (w : World) (x : Walk) (t n : ℕ) {s c e s' c' e' : ℕ}
    → ReachedAs w x t n s c e → ReachedAs w x t n s' c' e' → (s ≡ s') × (c ≡ c') × (e ≡ e')
reached_as_unique w x t n {s} {c} {e} {s'} {c'} {e'} r r' =
    let same = reached_unique w x t n r.reached r'.reached in
    (word_unique (subst (λ h. SetWord h s) same.0 r.written) r'.written, same.1, same.2)
