-- Demand 3, second half: the normal form means the same. Knows the definitions of document 01 alone, nothing of the rewriter.
use mathlib.Core.Path.{◌≡◌, refl, ap, ap₂, subst, subst⁻¹, fun_ext}
use mathlib.Core.Logic.{◌↔◌}
use Prim.Native.Nat.{ℕ}
use Rattle.meaning.specs.Theory.{World, bind, inside}
use Rattle.meaning.specs.Rule.{Walk, Test, act, undo, next, prev, seq, alt, star, check, conv, pick, always, fluent, neg, both, diamond, exists}
use Rattle.meaning.specs.Leads.{Rel, Truth, Leads, Back, Holds, Then, Or, Many, Here, Pick, Not, Both, Some, Exists}
use Rattle.meaning.specs.Normal.{normal, turned, normal_test}

-- one relation, one truth: sign by sign
mutual
  unfolding Leads normal

  pub normal_leads : (w : World) (x : Walk) → Leads w (normal x) ≡ Leads w x
  normal_leads w (act a) = refl
  normal_leads w (undo a) = refl
  normal_leads w next = refl
  normal_leads w prev = refl
  normal_leads w (seq v x) = ap₂ Then (normal_leads w v) (normal_leads w x)
  normal_leads w (alt v x) = ap₂ Or (normal_leads w v) (normal_leads w x)
  normal_leads w (star x) = ap Many (normal_leads w x)
  normal_leads w (check t) = ap (Here w) (normal_holds w t)
  normal_leads w (conv x) = turned_leads w x
  normal_leads w (pick v x) = ap (Pick w.domain) (fun_ext (λ k. normal_leads (bind w v k) x))

  pub turned_leads : (w : World) (x : Walk) → Leads w (turned x) ≡ Back w x
  turned_leads w (act a) = refl
  turned_leads w (undo a) = refl
  turned_leads w next = refl
  turned_leads w prev = refl
  turned_leads w (seq v x) = ap₂ Then (turned_leads w x) (turned_leads w v)
  turned_leads w (alt v x) = ap₂ Or (turned_leads w v) (turned_leads w x)
  turned_leads w (star x) = ap Many (turned_leads w x)
  turned_leads w (check t) = ap (Here w) (normal_holds w t)
  turned_leads w (conv x) = normal_leads w x
  turned_leads w (pick v x) = ap (Pick w.domain) (fun_ext (λ k. turned_leads (bind w v k) x))

  pub normal_holds : (w : World) (t : Test) → Holds w (normal_test t) ≡ Holds w t
  normal_holds w always = refl
  normal_holds w (fluent i) = refl
  normal_holds w (neg t) = ap Not (normal_holds w t)
  normal_holds w (both t u) = ap₂ Both (normal_holds w t) (normal_holds w u)
  normal_holds w (diamond x t) = ap₂ Some (normal_leads (inside w) x) (normal_holds w t)
  normal_holds w (exists v t) = ap (Exists w.domain) (fun_ext (λ k. normal_holds (bind w v k) t))

-- so at every place
pub at_places : {r s : Rel} → r ≡ s → (p q n : ℕ) → r p q n ↔ s p q n
at_places e p q n = (subst (λ (x : Rel). x p q n) e, subst⁻¹ (λ (x : Rel). x p q n) e)

pub at_times : {x y : Truth} → x ≡ y → (then now : ℕ) → x then now ↔ y then now
at_times e then now = (subst (λ (x : Truth). x then now) e, subst⁻¹ (λ (x : Truth). x then now) e)

pub normal_leads_at : (w : World) (x : Walk) (p q n : ℕ) → Leads w (normal x) p q n ↔ Leads w x p q n
normal_leads_at w x = at_places (normal_leads w x)

pub turned_leads_at : (w : World) (x : Walk) (p q n : ℕ) → Leads w (turned x) p q n ↔ Back w x p q n
turned_leads_at w x = at_places (turned_leads w x)

pub normal_holds_at : (w : World) (t : Test) (then now : ℕ) → Holds w (normal_test t) then now ↔ Holds w t then now
normal_holds_at w t = at_times (normal_holds w t)
