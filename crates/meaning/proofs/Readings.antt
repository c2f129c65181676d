-- Document 02, Q-7: a test has no `?T` of its own, for each of its walks is within a `<`; so how a walk's own tests are read has no bearing on it. And where these are read
-- as those inside a `<` are, a `<` changes nothing. Knows the two tables.
use mathlib.Core.Path.{◌≡◌, refl, sym, ◌∙◌, ap, ap₂, fun_ext}
use Prim.Native.Nat.{ℕ}
use Rattle.meaning.specs.Theory.{Reading, now_step, now_end, World, bind, inside, owning}
use Rattle.meaning.specs.Rule.{Test, always, fluent, neg, both, diamond, exists}
use Rattle.meaning.specs.Leads.{Leads, Holds, Not, Both, Some, Exists, own_now}

pub holds_owning : (w : World) (r : Reading) (t : Test) → Holds (owning w r) t ≡ Holds w t
unfolding Leads
holds_owning w r always = refl
holds_owning w r (fluent i) = refl
holds_owning w r (neg t) = ap Not (holds_owning w r t)
holds_owning w r (both t u) = ap₂ Both (holds_owning w r t) (holds_owning w r u)
holds_owning w r (diamond x t) = ap (Some (Leads (inside w) x)) (holds_owning w r t)
holds_owning w r (exists v t) = ap (Exists w.domain) (fun_ext (λ k. holds_owning (bind w v k) r t))

pub inside_same : (w : World) → w.own ≡ w.inner → inside w ≡ w
inside_same w e = ap (owning w) (sym e)

-- there a test has inside a `<` the now that it has outside, where the `<` has the now of some test of the walk
pub inside_now : (w : World) (q n own : ℕ) → w.own ≡ w.inner → own_now w q n ≡ own → (p : ℕ) → own_now w p n ≡ own_now (inside w) p own
unfolding own_now
inside_now w q n own same e p = go w.own refl
  where
    go : (r : Reading) → w.own ≡ r → own_now w p n ≡ own_now (inside w) p own
    go now_step k = rw (k, sym same ∙ k) refl
    go now_end k = let now : n ≡ own = rw k at e in rw (k, sym same ∙ k) now
