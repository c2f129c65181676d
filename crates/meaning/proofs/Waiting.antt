-- What a job waits for, with variables: with a value given and with it written in, where a variable does not stand free, and with every binder written out.
-- Knows the table of walks.
use mathlib.Core.Path.{◌≡◌, refl, ap, ap₂, subst, subst⁻¹, ◌∙◌, fun_ext}
use mathlib.Core.Logic.Iff
use mathlib.Core.Logic.{◌⊎◌, ◌↔◌, inl, inr}
use mathlib.Core.Bool.{false}
use Prim.Native.Nat.{ℕ, zero, suc, ◌≤◌, ◌<◌}
use native.Mathlib.Decide.{dec_le}
use native.Mathlib.Omega.{arith}
use Rattle.meaning.specs.Theory.{World, bind}
use Rattle.meaning.specs.Rule.{Walk, Variable, act, undo, next, prev, seq, alt, star, check, conv, pick, walk_free}
use Rattle.meaning.specs.Leads.{Rel, Leads, Many}
use Rattle.meaning.specs.Asks.{Asks}
use Rattle.meaning.specs.Written.{written, choice_to, spelled_out}
use Rattle.meaning.proofs.Chain.{chain_map}
use Rattle.meaning.proofs.Written.{number_written, under, leads_written, written_idle}
use Rattle.meaning.proofs.SpelledOut.{leads_out}

-- what is waited for: from p, at k, action a; and the signs over it
abbrev Wait : Type 1
Wait = ℕ → ℕ → ℕ → Type 0

abbrev Named : ℕ → Wait
Named b p k a = (p ≡ k) × (a ≡ b)

abbrev First : Wait → Rel → Wait → Wait
First x r y p k a = x p k a ⊎ ((m : ℕ) × r p m k × y m k a)

abbrev Either : Wait → Wait → Wait
Either x y p k a = x p k a ⊎ y p k a

abbrev Again : Rel → Wait → Wait
Again r x p k a = (m : ℕ) × Many r p m k × x m k a

abbrev Any : ℕ → (ℕ → Wait) → Wait
Any d x p k a = (i : ℕ) × (i < d) × x i p k a

pub asks_written : (w : World) (v : Variable) (j : ℕ) (x : Walk) → Asks (bind w v j) x ≡ Asks w (written v j x)
unfolding Asks written
asks_written w v j (act b) = ap Named (number_written w.values v j b)
asks_written w v j (undo b) = refl
asks_written w v j next = refl
asks_written w v j prev = refl
asks_written w v j (seq y x) =
    ap₂ (λ (f : Wait) (g : Wait). First f (Leads (bind w v j) y) g) (asks_written w v j y) (asks_written w v j x)
    ∙ ap (λ (r : Rel). First (Asks w (written v j y)) r (Asks w (written v j x))) (leads_written w v j y)
asks_written w v j (alt y x) = ap₂ Either (asks_written w v j y) (asks_written w v j x)
asks_written w v j (star x) = ap₂ Again (leads_written w v j x) (asks_written w v j x)
asks_written w v j (check t) = refl
asks_written w v j (conv x) = refl
asks_written w v j (pick u x) = ap (Any w.domain) (fun_ext (λ i. under Asks w v u j i x (written v j x) (asks_written (bind w u i) v j x)))

-- a variable that does not stand free does not matter
pub asks_idle : (w : World) (v : Variable) (j : ℕ) (x : Walk) → walk_free v x ≡ false → Asks (bind w v j) x ≡ Asks w x
asks_idle w v j x e = asks_written w v j x ∙ ap (Asks w) (written_idle v j x e)

-- a choice waits as one of its walks does
choice_asks : (w : World) (walk : ℕ → Walk) (d p k a : ℕ) → Asks w (choice_to walk d) p k a ↔ ((i : ℕ) × (i ≤ d) × Asks w (walk i) p k a)
unfolding Asks
choice_asks w walk d p k a = (onward d, back d)
  where
    onward : (d : ℕ) → Asks w (choice_to walk d) p k a → (i : ℕ) × (i ≤ d) × Asks w (walk i) p k a
    onward zero h = (0, omega arith, h)
    onward (suc d) (inl h) = let (i, low, asks) = onward d h in (i, omega arith, asks)
    onward (suc d) (inr h) = (suc d, omega arith, h)

    back : (d : ℕ) → ((i : ℕ) × (i ≤ d) × Asks w (walk i) p k a) → Asks w (choice_to walk d) p k a
    back zero h = let none : h.0 ≡ 0 = omega (arith, h.1) in subst (λ (i : ℕ). Asks w (walk i) p k a) none h.2
    back (suc d) h = elim (dec_le h.0 d) [
      | yes low ↦ inl (back d (h.0, low, h.2))
      | no high ↦ let last : h.0 ≡ suc d = omega (arith, h.1) in inr (subst (λ (i : ℕ). Asks w (walk i) p k a) last h.2)
    ]

pub asks_is_choice : (w : World) (v : Variable) (d : ℕ) → w.domain ≡ suc d → (x : Walk) (p k a : ℕ)
    → Asks w (pick v x) p k a ↔ Asks w (choice_to (λ i. written v i x) d) p k a
unfolding Asks
asks_is_choice w v d values x p k a =
    let of = choice_asks w (λ i. written v i x) d p k a in (
      λ h.
          let low : h.0 < w.domain = h.1 in
          of.1 (h.0, omega arith, subst (λ (f : Wait). f p k a) (asks_written w v h.0 x) h.2),
      λ h. let (i, low, asks) = of.0 h in (i, omega arith, subst⁻¹ (λ (f : Wait). f p k a) (asks_written w v i x) asks),
    )

-- with every binder written out
pub asks_out : (d : ℕ) (w : World) (x : Walk) → w.domain ≡ suc d → (p k a : ℕ) → Asks w x p k a ↔ Asks w (spelled_out d x) p k a
unfolding Asks spelled_out
asks_out d w (act b) e p k a = Iff.rfl
asks_out d w (undo b) e p k a = Iff.rfl
asks_out d w next e p k a = Iff.rfl
asks_out d w prev e p k a = Iff.rfl
asks_out d w (seq v x) e p k a =
    let leads = leads_out d w v e in (
      elim [ inl h ↦ inl ((asks_out d w v e p k a).0 h) | inr h ↦ inr (h.0, (leads p h.0 k).0 h.1, (asks_out d w x e h.0 k a).0 h.2) ],
      elim [ inl h ↦ inl ((asks_out d w v e p k a).1 h) | inr h ↦ inr (h.0, (leads p h.0 k).1 h.1, (asks_out d w x e h.0 k a).1 h.2) ],
    )
asks_out d w (alt v x) e p k a = (
  elim [ inl h ↦ inl ((asks_out d w v e p k a).0 h) | inr h ↦ inr ((asks_out d w x e p k a).0 h) ],
  elim [ inl h ↦ inl ((asks_out d w v e p k a).1 h) | inr h ↦ inr ((asks_out d w x e p k a).1 h) ],
)
asks_out d w (star x) e p k a =
    let leads = leads_out d w x e in (
      λ h. (h.0, chain_map (λ i j. (leads i j k).0) h.1, (asks_out d w x e h.0 k a).0 h.2),
      λ h. (h.0, chain_map (λ i j. (leads i j k).1) h.1, (asks_out d w x e h.0 k a).1 h.2),
    )
asks_out d w (check t) e p k a = Iff.rfl
asks_out d w (conv x) e p k a = Iff.rfl
asks_out d w (pick v x) e p k a =
    let of = asks_is_choice w v d e (spelled_out d x) p k a in (
      λ h. of.0 (h.0, h.1, (asks_out d (bind w v h.0) x e p k a).0 h.2),
      λ h. let found = of.1 h in (found.0, found.1, (asks_out d (bind w v found.0) x e p k a).1 found.2),
    )
