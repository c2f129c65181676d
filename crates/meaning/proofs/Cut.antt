-- The first law of cutting a log, and document 02, Q-13: "an answer at (then, now) is the same whichever actions follow position now in the log, for every accepted walk
-- and test under both readings", and with any values of the variables. Knows the two tables, not how a state is made.
use mathlib.Core.Path.{◌≡◌, refl, sym, ◌∙◌, subst}
use mathlib.Core.Logic.{inl, inr, ◌↔◌}
use mathlib.Core.Bool.{true}
use mathlib.Core.List.{List, ◌++◌}
use Prim.Native.Nat.{ℕ, ◌≤◌}
use native.Mathlib.Omega.{arith}
use lib.ListN.{length, take}
use Rattle.laws.specs.Bit.{on}
use Rattle.meaning.specs.Theory.{Possible, World, bind, inside, number_in, relog, state_before}
use Rattle.meaning.specs.Rule.{Walk, Test, act, undo, next, prev, seq, alt, star, check, conv, pick, always, fluent, neg, both, diamond, exists}
use Rattle.meaning.specs.Stands.{Agree}
use Rattle.meaning.specs.Leads.{Rel, Truth, Leads, Back, Holds, Step, AnyStep, Then, Or, Many, Here, Some, Pick, Exists, own_now}
use Rattle.meaning.proofs.Chain.{Within, chain_map}
use Rattle.meaning.proofs.Bounds.{own_within, leads_within}
use Rattle.meaning.proofs.Converse.{back_exchanged}
use Rattle.meaning.proofs.Theory.{get_elem_take, get_elem_append, same_front, state_cut}

-- a log and its first n steps; a log that has grown and the log before; two logs that have grown from one
pub agree_take : (l : List ℕ) (n : ℕ) → Agree l (take n l) n
agree_take l n p h = sym (get_elem_take n l p (omega arith))

pub agree_append : (l more : List ℕ) (n : ℕ) → n ≤ length l → Agree (l ++ more) l n
agree_append l more n h p low = get_elem_append l more p (omega arith)

pub agree_since : (l more other : List ℕ) (n : ℕ) → n ≤ length l → Agree (l ++ more) (l ++ other) n
agree_since l more other n h p low = agree_append l more n h p low ∙ sym (agree_append l other n h p low)

-- the other way round; and up to a position before
pub agree_turned : (l l' : List ℕ) (n : ℕ) → Agree l l' n → Agree l' l n
agree_turned l l' n e p h = sym (e p h)

agree_before : (l l' : List ℕ) (m n : ℕ) → m ≤ n → Agree l l' n → Agree l l' m
agree_before l l' m n h e p low = e p (omega arith)

-- so the two logs have the same states up to now
pub same_state : (w : World) (l l' : List ℕ) (p n : ℕ) → Agree l l' n → p ≤ n → state_before (relog w l) p ≡ state_before (relog w l') p
same_state w l l' p n e h = state_cut w l l' p p (same_front p l l' (λ i low. e i (omega arith))) (omega arith)

-- where c holds of now, what r relates s relates; what x says of a position up to now, y says
abbrev pub Kept : (ℕ → Type 0) → Rel → Rel → Type 0
Kept c r s = (p q n : ℕ) → c n → r p q n → s p q n

abbrev pub Stays : (ℕ → Type 0) → Truth → Truth → Type 0
Stays c x y = (t n : ℕ) → c n → t ≤ n → x t n → y t n

pub then_kept : {c : ℕ → Type 0} {r r' s s' : Rel} → Kept c r r' → Kept c s s' → Kept c (Then r s) (Then r' s')
then_kept f g p q n e h = (h.0, f p h.0 n e h.1, g h.0 q n e h.2)

pub or_kept : {c : ℕ → Type 0} {r r' s s' : Rel} → Kept c r r' → Kept c s s' → Kept c (Or r s) (Or r' s')
or_kept f g p q n e (inl h) = inl (f p q n e h)
or_kept f g p q n e (inr h) = inr (g p q n e h)

pub many_kept : {c : ℕ → Type 0} {r s : Rel} → Kept c r s → Kept c (Many r) (Many s)
many_kept f p q n e h = chain_map (λ i j. f i j n e) h

pub some_stays : {c : ℕ → Type 0} {r s : Rel} {x y : Truth} → Within r → Kept c r s → Stays c x y → Stays c (Some r x) (Some s y)
some_stays low f g t n e l h = (h.0, f t h.0 n e h.1, g h.0 n e (low t h.0 n h.1).1 h.2)

-- a test inside a walk, under either reading: its own now is from its position up to the walk's, so what is so of a now must be so of those before it
pub here_kept : {c : ℕ → Type 0} {x y : Truth} (w w' : World) → ((p n : ℕ) → own_now w p n ≡ own_now w' p n) → ((m n : ℕ) → m ≤ n → c n → c m) → Stays c x y
    → Kept c (Here w x) (Here w' y)
here_kept {y = y} w w' same earlier f p q n e h =
    let own = own_now w p n in
    let between = own_within w p n h.1 in
    (h.0, h.1, subst (y p) (same p n) (f p own (earlier own n between.1 e) between.0 h.2))

pick_kept : {c : ℕ → Type 0} {d : ℕ} {r s : ℕ → Rel} → ((k : ℕ) → Kept c (r k) (s k)) → Kept c (Pick d r) (Pick d s)
pick_kept f p q n e h = (h.0, h.1, f h.0 p q n e h.2)

exists_stays : {c : ℕ → Type 0} {d : ℕ} {x y : ℕ → Truth} → ((k : ℕ) → Stays c (x k) (y k)) → Stays c (Exists d x) (Exists d y)
exists_stays f t n e l h = (h.0, h.1, f h.0 t n e l h.2)

-- what the converse relates is what the walk relates from q to p
pub turned_kept : {c : ℕ → Type 0} {r r' s s' : Rel} → ((p q n : ℕ) → r' p q n ↔ r q p n) → ((p q n : ℕ) → s' p q n ↔ s q p n) → Kept c r s → Kept c r' s'
turned_kept turn turn' f p q n e h = (turn' p q n).1 (f q p n e ((turn p q n).0 h))

-- a step of two worlds whose logs agree before now
step_kept : (w : World) (l l' : List ℕ) (a : ℕ) → Kept (Agree l l') (Step (relog w l) a) (Step (relog w l') a)
step_kept w l l' a p q n e h = record {
  onward = h.onward;
  within = h.within;
  logged = sym (e p (omega arith)) ∙ h.logged;
  able = subst (Possible _) (same_state w l l' p n e (omega arith)) h.able;
}

any_kept : (w : World) (l l' : List ℕ) → Kept (Agree l l') (AnyStep (relog w l)) (AnyStep (relog w l'))
any_kept w l l' p q n e h = (h.0, step_kept w l l' h.0 p q n e h.1)

-- for every walk and every test, in any world: its readings and its values are whatever they are
mutual
  unfolding Leads own_now

  leads_kept : (w : World) (x : Walk) (l l' : List ℕ) → Kept (Agree l l') (Leads (relog w l) x) (Leads (relog w l') x)
  leads_kept w (act a) = λ l l'. step_kept w l l' (number_in w a)
  leads_kept w (undo a) = λ l l' p q. step_kept w l l' (number_in w a) q p
  leads_kept w next = λ l l'. any_kept w l l'
  leads_kept w prev = λ l l' p q. any_kept w l l' q p
  leads_kept w (seq v x) = λ l l'. then_kept (leads_kept w v l l') (leads_kept w x l l')
  leads_kept w (alt v x) = λ l l'. or_kept (leads_kept w v l l') (leads_kept w x l l')
  leads_kept w (star x) = λ l l'. many_kept (leads_kept w x l l')
  leads_kept w (check t) = λ l l'. here_kept (relog w l) (relog w l') (λ p n. refl) (agree_before l l') (holds_stays w t l l')
  leads_kept w (conv x) = λ l l'. turned_kept (back_exchanged (relog w l) x) (back_exchanged (relog w l') x) (leads_kept w x l l')
  leads_kept w (pick v x) = λ l l'. pick_kept (λ k. leads_kept (bind w v k) x l l')

  holds_stays : (w : World) (x : Test) (l l' : List ℕ) → Stays (Agree l l') (Holds (relog w l) x) (Holds (relog w l') x)
  holds_stays w always = λ l l' t n e h x. x
  holds_stays w (fluent i) = λ l l' t n e h x. subst (λ (s : ℕ). on s (number_in w i) ≡ true) (same_state w l l' t n e h) x
  holds_stays w (neg x) = λ l l' t n e h no-x y. no-x (holds_stays w x l' l t n (agree_turned l l' n e) h y)
  holds_stays w (both x y) = λ l l' t n e h z. (holds_stays w x l l' t n e h z.0, holds_stays w y l l' t n e h z.1)
  holds_stays w (diamond v x) = λ l l'. some_stays (leads_within (inside (relog w l)) v) (leads_kept (inside w) v l l') (holds_stays w x l l')
  holds_stays w (exists v x) = λ l l'. exists_stays (λ k. holds_stays (bind w v k) x l l')

pub leads_cut : (w : World) (x : Walk) (l l' : List ℕ) (p q n : ℕ) → Agree l l' n → Leads (relog w l) x p q n ↔ Leads (relog w l') x p q n
leads_cut w x l l' p q n e = (leads_kept w x l l' p q n e, leads_kept w x l' l p q n (agree_turned l l' n e))

pub back_cut : (w : World) (x : Walk) (l l' : List ℕ) (p q n : ℕ) → Agree l l' n → Back (relog w l) x p q n ↔ Back (relog w l') x p q n
unfolding Leads
back_cut w x l l' p q n e = leads_cut w (conv x) l l' p q n e

pub holds_cut : (w : World) (x : Test) (l l' : List ℕ) (t n : ℕ) → Agree l l' n → t ≤ n → Holds (relog w l) x t n ↔ Holds (relog w l') x t n
holds_cut w x l l' t n e h = (holds_stays w x l l' t n e h, holds_stays w x l' l t n (agree_turned l l' n e) h)
