-- Grids: a relation between positions as rows of tests that compute. The signs of the table of walks on grids (turned, then, or, many, pick), each with the
-- proof that it draws what the table says. Many is Warshall's closure, one position after another. Knows of relations only, not of walks.
use mathlib.Core.Path.{◌≡◌, refl, ap, subst, subst⁻¹}
use mathlib.Core.Logic.Iff
use mathlib.Core.Logic.{◌⊎◌, inl, inr, ⊎_elim}
use mathlib.Core.Bool.{Bool, true, false, ◌&&◌, ◌||◌, cond}
use mathlib.Core.List.{List, [], ◌∷◌}
use Prim.Native.Nat.{ℕ, zero, suc, ◌≤◌, ◌<◌}
use native.Mathlib.Nat.{eq-or-lt_of_le, le_of_suc-le-suc}
use native.Mathlib.Omega.{arith}
use lib.Dec.{eqb, leb, ltb, leb-zero, leb-suc-zero, leb-suc-suc}
use lib.ListN.{get_or}
use Rattle.meaning.specs.Leads.{Rel, Chain, Many, Turned, Then, Or, Pick, stay, link}
use Rattle.meaning.proofs.Chain.{Within, chain_one, chain_append, many_within}
use Rattle.meaning.proofs.Tells.{Tells, eq_tells, le_tells, lt_tells, and_tells, or_tells, tells_as, any_below, any_tells}

-- does it lead from here to there, with one now; and with each now
abbrev pub Rows : Type 0
Rows = ℕ → ℕ → Bool

abbrev pub Grid : Type 0
Grid = ℕ → Rows

-- the grid is true exactly where the relation holds
abbrev pub Draws : Grid → Rel → Type 0
Draws g r = (p q n : ℕ) → Tells (g n p q) (r p q n)

-- Each answer once: rows are written down for the positions up to now and are false elsewhere, which changes nothing for a relation that keeps to them.

unfoldable pub tab : {A : Type 0} → ℕ → (ℕ → A) → List A
tab zero f = []
tab (suc k) f = f zero ∷ tab k (λ i. f (suc i))

tab_at : {A : Type 0} (k i : ℕ) (f : ℕ → A) (d : A) → get_or (tab k f) i d ≡ cond (ltb i k) (f i) d
unfolding tab
tab_at zero i f d = rw leb-suc-zero
tab_at (suc k) zero f d = rw (leb-suc-suc, leb-zero)
tab_at (suc k) (suc i) f d = rw (leb-suc-suc, tab_at k i (λ j. f (suc j)) d)

unfoldable pub drawn : ℕ → Rows → Rows
unfolding tab
drawn n here = let rows = tab (suc n) (λ p. tab (suc n) (here p)) in λ p q. get_or (get_or rows p []) q false

drawn_is : (n : ℕ) (here : Rows) (p q : ℕ) → drawn n here p q ≡ (ltb p (suc n) && (ltb q (suc n) && here p q))
unfolding drawn
drawn_is n here p q = rw (tab_at (suc n) p (λ i. tab (suc n) (here i)) []) (row (ltb p (suc n)))
  where
    cell : (b : Bool) → cond b (here p q) false ≡ (b && here p q)
    cell true = refl
    cell false = refl

    row : (b : Bool) → get_or (cond b (tab (suc n) (here p)) []) q false ≡ (b && (ltb q (suc n) && here p q))
    row true = rw tab_at (cell (ltb q (suc n)))
    row false = refl

drawn_tells : {X : Type 0} (n : ℕ) (here : Rows) (p q : ℕ) → (X → (p ≤ n) × (q ≤ n)) → Tells (here p q) X → Tells (drawn n here p q) X
drawn_tells n here p q low f =
    rw drawn_is
    (tells_as (and_tells (lt_tells p (suc n)) (and_tells (lt_tells q (suc n)) f)) (λ h. h.1.1)
    (λ x. (omega (arith, low x), (omega (arith, low x), x))))

unfoldable pub kept : Grid → Grid
unfolding drawn
kept g n = drawn n (g n)

pub kept_draws : {r : Rel} {g : Grid} → Within r → Draws g r → Draws (kept g) r
unfolding kept
kept_draws {g = g} low f p q n = drawn_tells n (g n) p q (low p q n) (f p q n)

-- The signs. A grid's rows are made once for its now, before any position is asked for.

unfoldable pub turned_grid : Grid → Grid
turned_grid g n = let here = g n in λ p q. here q p

pub turned_draws : {r : Rel} {g : Grid} → Draws g r → Draws (turned_grid g) (Turned r)
unfolding turned_grid
turned_draws f p q n = f q p n

unfoldable pub then_grid : Grid → Grid → Grid
unfolding drawn any_below
then_grid g h n = let first = g n in let second = h n in drawn n (λ p q. any_below (suc n) (λ m. first p m && second m q))

pub then_draws : {r s : Rel} {g h : Grid} → Within r → Within s → Draws g r → Draws h s → Draws (then_grid g h) (Then r s)
unfolding then_grid
then_draws {g = g} {h = h} low low' f k p q n =
    drawn_tells n (λ i j. any_below (suc n) (λ m. g n i m && h n m j)) p q (λ x. ((low p x.0 n x.1).0, (low' x.0 q n x.2).1))
    (tells_as (any_tells (λ m. and_tells (f p m n) (k m q n)) (suc n)) (λ x. (x.0, x.2.0, x.2.1))
    (λ x. (x.0, omega (arith, low p x.0 n x.1), (x.1, x.2))))

unfoldable pub or_grid : Grid → Grid → Grid
or_grid g h n = let one = g n in let other = h n in λ p q. one p q || other p q

pub or_draws : {r s : Rel} {g h : Grid} → Draws g r → Draws h s → Draws (or_grid g h) (Or r s)
unfolding or_grid
or_draws f k p q n = or_tells (f p q n) (k p q n)

-- the grid of each value, of so many
unfoldable pub pick_grid : ℕ → (ℕ → Grid) → Grid
pick_grid zero g n = λ p q. false
pick_grid (suc d) g n = let one = g d n in let others = pick_grid d g n in λ p q. one p q || others p q

pub pick_draws : {d : ℕ} {r : ℕ → Rel} {g : ℕ → Grid} → ((k : ℕ) → Draws (g k) (r k)) → Draws (pick_grid d g) (Pick d r)
unfolding pick_grid any_below
pick_draws {d} {r} {g} f p q n = subst⁻¹ (λ (b : Bool). Tells b (Pick d r p q n)) (grid_is d)
    (tells_as (any_tells (λ k. f k p q n) d) (λ h. (h.0, omega arith, h.2)) (λ h. (h.0, omega arith, h.2)))
  where
    grid_is : (k : ℕ) → pick_grid k g n p q ≡ any_below k (λ i. g i n p q)
    grid_is zero = refl
    grid_is (suc k) = ap (λ (b : Bool). g k n p q || b) (grid_is k)

-- chains that pass, between their ends, through positions below k only
unfoldable pub through : ℕ → Rows → ℕ → Rows
unfolding drawn
through n step zero = drawn n (λ p q. (eqb q p && leb p n) || step p q)
through n step (suc k) = let c = through n step k in drawn n (λ p q. c p q || (c p k && c k q))

unfoldable pub many_grid : Grid → Grid
unfolding through
many_grid g n = through n (g n) (suc n)

-- such rows are chains, they have each stay and each step, and they join at each position below k
record Closed (r : Rel) (n k : ℕ) (c : Rows) : Type 0 where
  sound : (p q : ℕ) → c p q ≡ true → Chain r n p q
  stays : (p : ℕ) → p ≤ n → c p p ≡ true
  steps : (p q : ℕ) → r p q n → c p q ≡ true
  joins : (p m q : ℕ) → m < k → c p m ≡ true → c m q ≡ true → c p q ≡ true

module _ (r : Rel) (n : ℕ) (low : Within r) where
  closed_first : (step : Rows) → ((p q : ℕ) → Tells (step p q) (r p q n)) → Closed r n 0 (through n step 0)
  unfolding through
  closed_first step f = record {
    sound = λ p q e. ⊎_elim (λ h. stay h.0 h.1) (λ x. chain_one x (low p q n x).1) ((tells p q).0 e);
    stays = λ p h. (tells p p).1 (inl (refl, h));
    steps = λ p q x. (tells p q).1 (inr x);
    joins = λ p m q l. absurd (omega arith);
  }
    where
      tells : (p q : ℕ) → Tells (through n step 0 p q) (((q ≡ p) × (p ≤ n)) ⊎ r p q n)
      tells p q =
          drawn_tells n (λ i j. (eqb j i && leb i n) || step i j) p q (⊎_elim (λ h. omega arith) (low p q n))
          (or_tells (and_tells (eq_tells q p) (le_tells p n)) (f p q))

  closed_next : (k : ℕ) (c : Rows) → Closed r n k c → Closed r n (suc k) (drawn n (λ p q. c p q || (c p k && c k q)))
  closed_next k c old = record {
    sound = λ p q e. ⊎_elim (old.sound p q) (λ h. chain_append (old.sound p k h.0) (old.sound k q h.1)) ((tells p q).0 e);
    stays = λ p h. (tells p p).1 (inl (old.stays p h));
    steps = λ p q x. (tells p q).1 (inl (old.steps p q x));
    joins = λ p m q l a b. (tells p q).1 (join p m q l ((tells p m).0 a) ((tells m q).0 b));
  }
    where
      Via : ℕ → ℕ → Type 0
      Via p q = (c p q ≡ true) ⊎ ((c p k ≡ true) × (c k q ≡ true))

      low-via : (p q : ℕ) → Via p q → (p ≤ n) × (q ≤ n)
      low-via p q (inl e) = many_within low p q n (old.sound p q e)
      low-via p q (inr h) = ((many_within low p k n (old.sound p k h.0)).0, (many_within low k q n (old.sound k q h.1)).1)

      tells : (p q : ℕ) → Tells (drawn n (λ i j. c i j || (c i k && c k j)) p q) (Via p q)
      tells p q = drawn_tells n (λ i j. c i j || (c i k && c k j)) p q (low-via p q) (or_tells Iff.rfl (and_tells Iff.rfl Iff.rfl))

      at-k : (p q : ℕ) → Via p k → Via k q → Via p q
      at-k p q a b = inr (⊎_elim (λ e. e) (λ h. h.0) a, ⊎_elim (λ e. e) (λ h. h.1) b)

      below : (p m q : ℕ) → m < k → Via p m → Via m q → Via p q
      below p m q l (inl a) (inl b) = inl (old.joins p m q l a b)
      below p m q l (inl a) (inr b) = inr (old.joins p m k l a b.0, b.1)
      below p m q l (inr a) (inl b) = inr (a.0, old.joins k m q l a.1 b)
      below p m q l (inr a) (inr b) = inr (a.0, b.1)

      join : (p m q : ℕ) → m < suc k → Via p m → Via m q → Via p q
      join p m q l a b =
          ⊎_elim (λ e. at-k p q (subst (Via p) e a) (subst (λ (i : ℕ). Via i q) e b)) (λ h. below p m q h a b)
          (eq-or-lt_of_le (le_of_suc-le-suc l))

  closed : (step : Rows) → ((p q : ℕ) → Tells (step p q) (r p q n)) → (k : ℕ) → Closed r n k (through n step k)
  unfolding through
  closed step f zero = closed_first step f
  closed step f (suc k) = closed_next k (through n step k) (closed step f k)

  complete : (c : Rows) → Closed r n (suc n) c → (p q : ℕ) → Chain r n p q → c p q ≡ true
  complete c all p q (stay e h) = subst⁻¹ (λ (i : ℕ). c p i ≡ true) e (all.stays p h)
  complete c all p q (link {m = m} step rest) = all.joins p m q (omega (arith, low p m n step)) (all.steps p m step) (complete c all m q rest)

pub many_draws : {r : Rel} {g : Grid} → Within r → Draws g r → Draws (many_grid g) (Many r)
unfolding many_grid
many_draws {r} {g} low f p q n = (all.sound p q, complete r n low (through n (g n) (suc n)) all p q)
  where
    all : Closed r n (suc n) (through n (g n) (suc n))
    all = closed r n low (g n) (λ i j. f i j n) (suc n)
