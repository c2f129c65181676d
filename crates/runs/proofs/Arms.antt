-- The evaluator's arms, sign by sign: what its parts' answers make of the answer for the whole sign, forwards and backwards. Opens the meaning's table;
-- knows no text and no code.
use mathlib.Core.Path.{◌≡◌, sym, subst⁻¹, ◌∙◌}
use mathlib.Core.Logic.{◌↔◌}
use mathlib.Core.Bool.{Bool, true, false, not, ◌&&◌}
use Prim.Native.Nat.{ℕ, ◌+◌, ◌≤◌, ◌<◌}
use native.Mathlib.Omega.{arith}
use Rattle.meaning.specs.Theory.{World, bind, number_in, state_before}
use Rattle.meaning.specs.Rule.{Variable, Name, Walk, Test, act, undo, next, prev, alt, star, check, conv, pick, always, fluent, neg, both, diamond, walk_free}
use Rattle.laws.specs.Bit.{on}
use Rattle.meaning.specs.Leads.{Leads, Holds, Some, Step, AnyStep, Or, Many, Chain, stay, link, Here, Pick}
use Rattle.meaning.proofs.Chain.{Within, chain_append, chain_one}
use Rattle.meaning.proofs.Bounds.{leads_within, back_within}
use Rattle.meaning.proofs.Converse.{back_exchanged}
use Rattle.meaning.proofs.Readings.{inside_same}
use Rattle.meaning.proofs.Normal.{at_places}
use Rattle.meaning.proofs.Written.{leads_idle, back_idle}
use Rattle.tables.specs.Tables.{TakenAt}
use Rattle.runs.specs.Image.{Set, UpTo, Image, Sifted, Turn, Way, Crossing}
use Rattle.laws.proofs.Truth.{and_iff}
use Rattle.runs.proofs.Image.{image_same, always_sifted, not_sifted, both_sifted, some_sifted}

pub way_within : (w : World) (x : Walk) (back : Bool) → Within (Way w x back)
way_within w x false = leads_within w x
way_within w x true = back_within w x

-- `aNN`, `rNN`, `bNNv`, `sNNv`: of the positions before now, those whose step is what the name stands for and was possible
abbrev pub Done : World → ℕ → ℕ → Set → Type 0
Done w a n c = (p : ℕ) → p < n → (c p ≡ true) ↔ TakenAt w p a

step_crossing : (w : World) (a n : ℕ) (c : Set) → Done w a n c → (p q : ℕ) → Crossing c p q n ↔ Step w a p q n
step_crossing w a n c done p q = (
  λ h. let onward : q ≡ p + 1 = h.0 in
      let within : q ≤ n = h.1 in
      let u = (done p (omega arith)).0 h.2 in
      record { onward = onward; within = within; logged = u.0; able = u.1 },
  λ h. (h.onward, h.within, (done p (omega arith)).1 (h.logged, h.able)),
)

pub act_image : (w : World) (a : Name) (back : Bool) {n : ℕ} {c s r : Set} → Done w (number_in w a) n c → Image (Turn back (Crossing c)) n s r → Image (Way w (act a) back) n s r
unfolding Leads
act_image w a false {n} {c} done i = image_same (step_crossing w (number_in w a) n c done) i
act_image w a true {n} {c} done i = image_same (λ p q. step_crossing w (number_in w a) n c done q p) i

pub undo_image : (w : World) (a : Name) (back : Bool) {n : ℕ} {c s r : Set} → Done w (number_in w a) n c → Image (Turn (not back) (Crossing c)) n s r → Image (Way w (undo a) back) n s r
unfolding Leads
undo_image w a false {n} {c} done i = image_same (λ p q. step_crossing w (number_in w a) n c done q p) i
undo_image w a true {n} {c} done i = image_same (step_crossing w (number_in w a) n c done) i

-- `n`, `u`: of the positions before now, those whose step was possible
abbrev pub AnyDone : World → ℕ → Set → Type 0
AnyDone w n c = (p : ℕ) → p < n → (c p ≡ true) ↔ ((a : ℕ) × TakenAt w p a)

any_crossing : (w : World) (n : ℕ) (c : Set) → AnyDone w n c → (p q : ℕ) → Crossing c p q n ↔ AnyStep w p q n
any_crossing w n c able p q = (
  λ h. let onward : q ≡ p + 1 = h.0 in
      let within : q ≤ n = h.1 in
      let u = (able p (omega arith)).0 h.2 in
      (u.0, record { onward = onward; within = within; logged = u.1.0; able = u.1.1 }),
  λ h. let step = h.1 in (step.onward, step.within, (able p (omega arith)).1 (h.0, (step.logged, step.able))),
)

pub next_image : (w : World) (back : Bool) {n : ℕ} {c s r : Set} → AnyDone w n c → Image (Turn back (Crossing c)) n s r → Image (Way w next back) n s r
unfolding Leads
next_image w false {n} {c} able i = image_same (any_crossing w n c able) i
next_image w true {n} {c} able i = image_same (λ p q. any_crossing w n c able q p) i

pub prev_image : (w : World) (back : Bool) {n : ℕ} {c s r : Set} → AnyDone w n c → Image (Turn (not back) (Crossing c)) n s r → Image (Way w prev back) n s r
unfolding Leads
prev_image w false {n} {c} able i = image_same (λ p q. any_crossing w n c able q p) i
prev_image w true {n} {c} able i = image_same (any_crossing w n c able) i

-- `|VW`, `*W`, `?T`, `-W`: either way, by the parts the same way; `-W` the other way
pub alt_way : (w : World) (v x : Walk) (back : Bool) (p q n : ℕ) → Way w (alt v x) back p q n ↔ Or (Way w v back) (Way w x back) p q n
unfolding Leads
alt_way w v x false p q n = (λ h. h, λ h. h)
alt_way w v x true p q n = (λ h. h, λ h. h)

pub star_way : (w : World) (x : Walk) (back : Bool) (p q n : ℕ) → Way w (star x) back p q n ↔ Many (Way w x back) p q n
unfolding Leads
star_way w x false p q n = (λ h. h, λ h. h)
star_way w x true p q n = (λ h. h, λ h. h)

pub check_way : (w : World) (x : Test) (back : Bool) (p q n : ℕ) → Way w (check x) back p q n ↔ Here w (Holds w x) p q n
unfolding Leads
check_way w x false p q n = (λ h. h, λ h. h)
check_way w x true p q n = (λ h. h, λ h. h)

pub conv_way : (w : World) (x : Walk) (back : Bool) (p q n : ℕ) → Way w (conv x) back p q n ↔ Way w x (not back) p q n
unfolding Leads
conv_way w x false p q n = (λ h. h, λ h. h)
conv_way w x true p q n = (λ h. h, λ h. h)

-- `pvW`: with some value, the same way
pub pick_way : (w : World) (v : Variable) (x : Walk) (back : Bool) (p q n : ℕ) → Way w (pick v x) back p q n ↔ Pick w.domain (λ k. Way (bind w v k) x back) p q n
unfolding Leads
pick_way w v x false p q n = (λ h. h, λ h. h)
pick_way w v x true p q n = (λ h. h, λ h. h)

-- a variable that does not stand free in it: its value does not matter
pub way_idle : (w : World) (v : Variable) (k : ℕ) (x : Walk) (back : Bool) → walk_free v x ≡ false → (p q n : ℕ) → Way (bind w v k) x back p q n ↔ Way w x back p q n
way_idle w v k x false e p q n = at_places (leads_idle w v k x e) p q n
way_idle w v k x true e p q n = at_places (back_idle w v k x e) p q n

-- a chain with one more link; `**W` is `*W`
pub star_more : (w : World) (x : Walk) (back : Bool) (p m q n : ℕ) → Way w (star x) back p m n → Way w x back m q n → Way w (star x) back p q n
star_more w x back p m q n chain step =
    (star_way w x back p q n).1 (chain_append ((star_way w x back p m n).0 chain) (chain_one step (way_within w x back m q n step).1))

pub stars_flat : (w : World) (x : Walk) (back : Bool) (p q n : ℕ) → Way w (star (star x)) back p q n → Way w (star x) back p q n
stars_flat w x back p q n h = (star_way w x back p q n).1 (flat ((star_way w (star x) back p q n).0 h))
  where
    flat : {p q : ℕ} → Chain (Way w (star x) back) n p q → Chain (Way w x back) n p q
    flat (stay e low) = stay e low
    flat (link {p = p} {m = m} chain rest) = chain_append ((star_way w x back p m n).0 chain) (flat rest)

-- `1`, `fNN` and `gNNv`, `!T`, `&TU`
pub always_keeps : (w : World) {n : ℕ} {s : Set} → Sifted (Holds w always) n s s
unfolding Leads
always_keeps w = always_sifted

pub fluent_keeps : (w : World) (i : Name) {n : ℕ} {s l r : Set} → UpTo n s → ((q : ℕ) → q ≤ n → (l q ≡ true) ↔ (on (state_before w q) (number_in w i) ≡ true))
    → ((q : ℕ) → r q ≡ (s q && l q)) → Sifted (Holds w (fluent i)) n s r
unfolding Leads
fluent_keeps w i {n} {s} {l} low lit meet = record {
  each = λ q. (
    λ h. let u = (and_iff (s q) (l q)).0 (sym (meet q) ∙ h) in (u.0, (lit q (low q u.0)).0 u.1),
    λ h. meet q ∙ (and_iff (s q) (l q)).1 (h.0, (lit q (low q h.0)).1 h.1),
  );
}

pub neg_keeps : (w : World) (x : Test) {n : ℕ} {s t r : Set} → ((q : ℕ) → r q ≡ (s q && not (t q))) → Sifted (Holds w x) n s t → Sifted (Holds w (neg x)) n s r
unfolding Leads
neg_keeps w x rest i = not_sifted rest i

pub both_keeps : (w : World) (x y : Test) {n : ℕ} {s t r : Set} → Sifted (Holds w x) n s t → Sifted (Holds w y) n t r → Sifted (Holds w (both x y)) n s r
unfolding Leads
both_keeps w x y f g = both_sifted f g

-- `<WT`, where a `<` changes no reading: by the converse theorem
pub diamond_keeps : (w : World) → w.own ≡ w.inner → (v : Walk) (x : Test) {n : ℕ} {s all t m r : Set} → ((q : ℕ) → q ≤ n → all q ≡ true) → Sifted (Holds w x) n all t
    → Image (Way w v true) n t m → ((q : ℕ) → r q ≡ (s q && m q)) → Sifted (Holds w (diamond v x)) n s r
unfolding Leads
diamond_keeps w same v x {n} {s} {r = r} all f i meet =
    subst⁻¹ (λ (u : World). Sifted (Some (Leads u v) (Holds w x)) n s r) (inside_same w same)
    (some_sifted (leads_within w v) (λ p q. back_exchanged w v p q n) all f i meet)
