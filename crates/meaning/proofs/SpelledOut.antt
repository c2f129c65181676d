-- Document 02, Q-2: a rule means what it means with every binder written out, whatever stands above the binder. Knows the two tables.
use mathlib.Core.Path.{◌≡◌}
use mathlib.Core.Logic.Iff
use mathlib.Core.Logic.{◌↔◌, inl, inr}
use Prim.Native.Nat.{ℕ, suc}
use Rattle.meaning.specs.Theory.{World, bind, inside}
use Rattle.meaning.specs.Rule.{Walk, Test, act, undo, next, prev, seq, alt, star, check, conv, pick, always, fluent, neg, both, diamond, exists}
use Rattle.meaning.specs.Leads.{Rel, Truth, Leads, Back, Holds, Then, Or, Many, Here, Pick, Both, Some, Exists}
use Rattle.meaning.specs.Written.{spelled_out, test_out}
use Rattle.meaning.proofs.Chain.{chain_map}
use Rattle.meaning.proofs.Written.{pick_is_choice, back_is_choice, exists_is_choice}

-- two relations, two truths that say the same everywhere; each sign keeps that
abbrev Alike : Rel → Rel → Type 0
Alike r s = (p q n : ℕ) → r p q n ↔ s p q n

abbrev AsTrue : Truth → Truth → Type 0
AsTrue x y = (t n : ℕ) → x t n ↔ y t n

then_alike : {r r' s s' : Rel} → Alike r r' → Alike s s' → Alike (Then r s) (Then r' s')
then_alike f g p q n = (
  λ h. (h.0, (f p h.0 n).0 h.1, (g h.0 q n).0 h.2),
  λ h. (h.0, (f p h.0 n).1 h.1, (g h.0 q n).1 h.2),
)

or_alike : {r r' s s' : Rel} → Alike r r' → Alike s s' → Alike (Or r s) (Or r' s')
or_alike f g p q n = (
  elim [ inl h ↦ inl ((f p q n).0 h) | inr h ↦ inr ((g p q n).0 h) ],
  elim [ inl h ↦ inl ((f p q n).1 h) | inr h ↦ inr ((g p q n).1 h) ],
)

many_alike : {r s : Rel} → Alike r s → Alike (Many r) (Many s)
many_alike f p q n = (chain_map (λ i j. (f i j n).0), chain_map (λ i j. (f i j n).1))

here_alike : (w : World) {x y : Truth} → AsTrue x y → Alike (Here w x) (Here w y)
here_alike w f p q n = (λ h. (h.0, h.1, (f p _).0 h.2), λ h. (h.0, h.1, (f p _).1 h.2))

pick_alike : {d : ℕ} {r s : ℕ → Rel} → ((k : ℕ) → Alike (r k) (s k)) → Alike (Pick d r) (Pick d s)
pick_alike f p q n = (λ h. (h.0, h.1, (f h.0 p q n).0 h.2), λ h. (h.0, h.1, (f h.0 p q n).1 h.2))

both_true : {x x' y y' : Truth} → AsTrue x x' → AsTrue y y' → AsTrue (Both x y) (Both x' y')
both_true f g t n = (λ h. ((f t n).0 h.0, (g t n).0 h.1), λ h. ((f t n).1 h.0, (g t n).1 h.1))

some_true : {r s : Rel} {x y : Truth} → Alike r s → AsTrue x y → AsTrue (Some r x) (Some s y)
some_true f g t n = (
  λ h. (h.0, (f t h.0 n).0 h.1, (g h.0 n).0 h.2),
  λ h. (h.0, (f t h.0 n).1 h.1, (g h.0 n).1 h.2),
)

exists_true : {d : ℕ} {x y : ℕ → Truth} → ((k : ℕ) → AsTrue (x k) (y k)) → AsTrue (Exists d x) (Exists d y)
exists_true f t n = (λ h. (h.0, h.1, (f h.0 t n).0 h.2), λ h. (h.0, h.1, (f h.0 t n).1 h.2))

-- one after the other
join : {X Y Z : Type 0} → X ↔ Y → Y ↔ Z → X ↔ Z
join f g = (λ x. g.0 (f.0 x), λ z. f.1 (g.1 z))

-- "the rule with values written in", where there are values 0 to d
mutual
  unfolding Leads spelled_out

  pub leads_out : (d : ℕ) (w : World) (x : Walk) → w.domain ≡ suc d → (p q n : ℕ) → Leads w x p q n ↔ Leads w (spelled_out d x) p q n
  leads_out d w (act a) e = λ p q n. Iff.rfl
  leads_out d w (undo a) e = λ p q n. Iff.rfl
  leads_out d w next e = λ p q n. Iff.rfl
  leads_out d w prev e = λ p q n. Iff.rfl
  leads_out d w (seq v x) e = then_alike (leads_out d w v e) (leads_out d w x e)
  leads_out d w (alt v x) e = or_alike (leads_out d w v e) (leads_out d w x e)
  leads_out d w (star x) e = many_alike (leads_out d w x e)
  leads_out d w (check t) e = here_alike w (holds_out d w t e)
  leads_out d w (conv x) e = back_out d w x e
  leads_out d w (pick v x) e = λ p q n. join (pick_alike (λ k. leads_out d (bind w v k) x e) p q n) (pick_is_choice w v d e (spelled_out d x) p q n)

  pub back_out : (d : ℕ) (w : World) (x : Walk) → w.domain ≡ suc d → (p q n : ℕ) → Back w x p q n ↔ Back w (spelled_out d x) p q n
  back_out d w (act a) e = λ p q n. Iff.rfl
  back_out d w (undo a) e = λ p q n. Iff.rfl
  back_out d w next e = λ p q n. Iff.rfl
  back_out d w prev e = λ p q n. Iff.rfl
  back_out d w (seq v x) e = then_alike (back_out d w x e) (back_out d w v e)
  back_out d w (alt v x) e = or_alike (back_out d w v e) (back_out d w x e)
  back_out d w (star x) e = many_alike (back_out d w x e)
  back_out d w (check t) e = here_alike w (holds_out d w t e)
  back_out d w (conv x) e = leads_out d w x e
  back_out d w (pick v x) e = λ p q n. join (pick_alike (λ k. back_out d (bind w v k) x e) p q n) (back_is_choice w v d e (spelled_out d x) p q n)

  pub holds_out : (d : ℕ) (w : World) (t : Test) → w.domain ≡ suc d → (then now : ℕ) → Holds w t then now ↔ Holds w (test_out d t) then now
  holds_out d w always e = λ t n. Iff.rfl
  holds_out d w (fluent i) e = λ t n. Iff.rfl
  holds_out d w (neg x) e = λ t n. (λ h y. h ((holds_out d w x e t n).1 y), λ h y. h ((holds_out d w x e t n).0 y))
  holds_out d w (both x y) e = both_true (holds_out d w x e) (holds_out d w y e)
  holds_out d w (diamond v x) e = some_true (leads_out d (inside w) v e) (holds_out d w x e)
  holds_out d w (exists v x) e = λ t n. join (exists_true (λ k. holds_out d (bind w v k) x e) t n) (exists_is_choice w v d e (test_out d x) t n)
