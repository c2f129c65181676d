-- What a rule names stands in its text: behind an `a`, an `r` or an `f`, where no name is a sum. Knows the text of a rule; no mask.
use mathlib.Core.Path.{◌≡◌, refl}
use mathlib.Core.Logic.{inl, inr}
use mathlib.Core.List.{List}
use Prim.Native.Nat.{ℕ, ◌+◌, ◌<◌}
use native.Mathlib.Omega.{arith}
use lib.ListN.{length, get_or}
use Rattle.meaning.specs.Rule.{Walk, Test, Rule, act, undo, next, prev, seq, alt, star, check, conv, pick, always, fluent, neg, both, diamond, exists, Name, plain}
use Rattle.meaning.specs.Rule.{of_test, of_walk, walk_text, test_text, walk_names, test_names}
use Rattle.grammar.specs.Standing.{Stands}
use Rattle.grammar.proofs.Spread.{Spread, spread, within, act_at, undo_at, next_part_at, prev_at, seq_at, alt_at, star_at, check_at, conv_at}
use Rattle.grammar.proofs.Spread.{always_at, fluent_at, neg_at, both_at, diamond_at, sum_act_at, sum_undo_at, pick_at, sum_fluent_at, exists_at}
use Rattle.standins.specs.Worth.{Behind, Sum}

module _ (bytes : List ℕ) (f g : Name → ℕ) (acts : (at n : ℕ) → at < length bytes → Behind bytes 97 114 at n → f (plain n) ≡ 0)
    (shows : (at n : ℕ) → at < length bytes → Behind bytes 102 102 at n → g (plain n) ≡ 0) (unsummed : (at : ℕ) → at < length bytes → Sum (get_or bytes at 0) → ⊥) where
  -- a walk and a test at a place of the text
  abbrev W : ℕ → Walk → Type 0
  W at x = Stands bytes at (of_walk x)

  abbrev T : ℕ → Test → Type 0
  T at x = Stands bytes at (of_test x)

  -- what stands at a place: a name, or parts behind its sign
  abbrev Parts : ℕ → Rule → Type 0
  Parts at (of_walk (act a)) = f a ≡ 0
  Parts at (of_walk (undo a)) = f a ≡ 0
  Parts at (of_walk next) = Unit {0}
  Parts at (of_walk prev) = Unit {0}
  Parts at (of_walk (seq v x)) = W (at + 1) v × W (at + 1 + length (walk_text v)) x
  Parts at (of_walk (alt v x)) = W (at + 1) v × W (at + 1 + length (walk_text v)) x
  Parts at (of_walk (star x)) = W (at + 1) x
  Parts at (of_walk (check t)) = T (at + 1) t
  Parts at (of_walk (conv x)) = W (at + 1) x
  Parts at (of_walk (pick v x)) = W (at + 2) x
  Parts at (of_test always) = Unit {0}
  Parts at (of_test (fluent i)) = g i ≡ 0
  Parts at (of_test (neg t)) = T (at + 1) t
  Parts at (of_test (both t u)) = T (at + 1) t × T (at + 1 + length (test_text t)) u
  Parts at (of_test (diamond x t)) = W (at + 1) x × T (at + 1 + length (walk_text x)) t
  Parts at (of_test (exists v t)) = T (at + 2) t

  parts : (at : ℕ) → at < length bytes → {b : ℕ} {r : Rule} → Spread bytes at b r → get_or bytes at 0 ≡ b → Parts at r
  parts at low (act_at a digits) e = acts at a low (inl e, digits)
  parts at low (undo_at a digits) e = acts at a low (inr e, digits)
  parts at low next_part_at e = tt
  parts at low prev_at e = tt
  parts at low (seq_at v x p q) e = (p, q)
  parts at low (alt_at v x p q) e = (p, q)
  parts at low (star_at x p) e = p
  parts at low (check_at t p) e = p
  parts at low (conv_at x p) e = p
  parts at low always_at e = tt
  parts at low (fluent_at i digits) e = shows at i low (inl e, digits)
  parts at low (neg_at t p) e = p
  parts at low (both_at t u p q) e = (p, q)
  parts at low (diamond_at x t p q) e = (p, q)
  parts at low (sum_act_at a v digits letter) e = absurd (unsummed at low (inl e))
  parts at low (sum_undo_at a v digits letter) e = absurd (unsummed at low (inr (inr e)))
  parts at low (pick_at v x letter p) e = p
  parts at low (sum_fluent_at i v digits letter) e = absurd (unsummed at low (inr (inl e)))
  parts at low (exists_at v t letter p) e = p

  there : (at : ℕ) (r : Rule) → Stands bytes at r → Parts at r
  there at r h = parts at (within h) (spread h (get_or bytes at 0) refl) refl

  -- so a rule of which the functions give 0 to every name that stands in its text has 0
  mutual
    unfolding walk_names

    pub names_none : (at : ℕ) (x : Walk) → Stands bytes at (of_walk x) → walk_names f g x ≡ 0
    names_none at (act a) h = there at (of_walk (act a)) h
    names_none at (undo a) h = there at (of_walk (undo a)) h
    names_none at next h = refl
    names_none at prev h = refl
    names_none at (seq v x) h =
        let p = there at (of_walk (seq v x)) h in
        omega (arith, names_none (at + 1) v p.0, names_none (at + 1 + length (walk_text v)) x p.1)
    names_none at (alt v x) h =
        let p = there at (of_walk (alt v x)) h in
        omega (arith, names_none (at + 1) v p.0, names_none (at + 1 + length (walk_text v)) x p.1)
    names_none at (star x) h = names_none (at + 1) x (there at (of_walk (star x)) h)
    names_none at (check t) h = test_none (at + 1) t (there at (of_walk (check t)) h)
    names_none at (conv x) h = names_none (at + 1) x (there at (of_walk (conv x)) h)
    names_none at (pick v x) h = names_none (at + 2) x (there at (of_walk (pick v x)) h)

    test_none : (at : ℕ) (x : Test) → Stands bytes at (of_test x) → test_names f g x ≡ 0
    test_none at always h = refl
    test_none at (fluent i) h = there at (of_test (fluent i)) h
    test_none at (neg t) h = test_none (at + 1) t (there at (of_test (neg t)) h)
    test_none at (both t u) h =
        let p = there at (of_test (both t u)) h in
        omega (arith, test_none (at + 1) t p.0, test_none (at + 1 + length (test_text t)) u p.1)
    test_none at (diamond x t) h =
        let p = there at (of_test (diamond x t)) h in
        omega (arith, names_none (at + 1) x p.0, test_none (at + 1 + length (walk_text x)) t p.1)
    test_none at (exists v t) h = test_none (at + 2) t (there at (of_test (exists v t)) h)
