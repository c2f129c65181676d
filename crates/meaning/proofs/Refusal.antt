-- Laws of the refusals: the number given is one, none is given beside an acceptance, how a call's checks make either, a line for each row of its list, how two
-- lists, one after the other, are settled, when two lists settle the same, and that an answer is one. What a row says stays shut.
use mathlib.Core.Path.{◌≡◌, refl, sym, subst, ◌∙◌}
use mathlib.Core.Logic.{◌⊎◌, ◌↔◌, inl, inr, ⊎_elim}
use mathlib.Core.Bool.{Bool, true, false, cond}
use mathlib.Core.List.{List, [], ◌∷◌, ◌++◌, cons≢nil}
use mathlib.Core.Option.{Option}
use Prim.Native.Nat.{ℕ, ◌≤◌}
use native.Mathlib.Omega.{arith}
use lib.Dec.{T, leb, leb→le}
use Rattle.meaning.specs.Refusal.{Row, ◌when◌, FirstHolding, Refused, Accepted, falls_from, falls, Answered, YesOrNo}

-- the first row that holds is one
first_unique : (rows : List {1} Row) (n m : ℕ) → FirstHolding rows n → FirstHolding rows m → n ≡ m
first_unique [] n m h k = elim h [ ]
first_unique (row ∷ rows) n m (inl h) (inl k) = h.0 ∙ sym k.0
first_unique (row ∷ rows) n m (inl h) (inr k) = absurd (k.0 h.1)
first_unique (row ∷ rows) n m (inr h) (inl k) = absurd (h.0 k.1)
first_unique (row ∷ rows) n m (inr h) (inr k) = first_unique rows n m h.1 k.1

pub refused_unique : {rows : List {1} Row} {N M : ℕ} → Refused rows N → Refused rows M → N ≡ M
refused_unique {rows} {N} {M} r s = first_unique rows N M r.first s.first

-- a call refuses or accepts, never both
not_both : (rows : List {1} Row) (n : ℕ) → FirstHolding rows n → Accepted rows → ⊥
not_both [] n h a = elim h [ ]
not_both (row ∷ rows) n (inl h) a = a.0 h.1
not_both (row ∷ rows) n (inr h) a = not_both rows n h.1 a.1

pub refused_not_accepted : {rows : List {1} Row} {N : ℕ} → Refused rows N → Accepted rows → ⊥
refused_not_accepted {rows} {N} r a = not_both rows N r.first a

-- A call's proof goes down its list. A row that does not hold is passed over.
pub past : {row : Row} {rows : List {1} Row} {N : ℕ} → (row.given → ⊥) → Refused rows N → Refused (row ∷ rows) N
past not r = record { first = inr (not, r.first) }

-- and back: it gave no number
pub rest_refused : {row : Row} {rows : List {1} Row} {N : ℕ} → (row.given → ⊥) → Refused (row ∷ rows) N → Refused rows N
rest_refused not r = record { first = ⊎_elim (λ h. absurd (not h.1)) (λ h. h.1) r.first }

-- a row that holds, with none before it, gives its number
pub here : {k : ℕ} {given : Type 0} {rows : List {1} Row} → given → Refused ((k when given) ∷ rows) k
here h = record { first = inl (refl, h) }

-- A call that passes every row accepts: `passes h (passes h' accepts)` is of `Accepted (row ∷ row' ∷ [])`.
pub accepts : Unit {0}
accepts = tt

pub passes : {given rest : Type 0} → (given → ⊥) → rest → (given → ⊥) × rest
passes not a = (not, a)

-- What an acceptance tells: the first row does not hold, and the rest accepts.
pub not_first : {given rest : Type 0} → (given → ⊥) × rest → given → ⊥
not_first a = a.0

pub not_rest : {given rest : Type 0} → (given → ⊥) × rest → rest
not_rest a = a.1

-- Two lists, one after the other: where the first refuses, its number stands; where it accepts, the second decides.
first_in : (xs ys : List {1} Row) (n : ℕ) → FirstHolding xs n → FirstHolding (xs ++ ys) n
first_in [] ys n h = elim h [ ]
first_in (row ∷ xs) ys n (inl h) = inl h
first_in (row ∷ xs) ys n (inr h) = inr (h.0, first_in xs ys n h.1)

pub refused_first : (xs ys : List {1} Row) {N : ℕ} → Refused xs N → Refused (xs ++ ys) N
refused_first xs ys {N} r = record { first = first_in xs ys N r.first }

first_behind : (xs ys : List {1} Row) (n : ℕ) → Accepted xs → FirstHolding ys n → FirstHolding (xs ++ ys) n
first_behind [] ys n a h = h
first_behind (row ∷ xs) ys n a h = inr (a.0, first_behind xs ys n a.1 h)

pub refused_second : (xs ys : List {1} Row) {N : ℕ} → Accepted xs → Refused ys N → Refused (xs ++ ys) N
refused_second xs ys {N} a r = record { first = first_behind xs ys N a r.first }

pub accepted_both : (xs ys : List {1} Row) → Accepted xs → Accepted ys → Accepted (xs ++ ys)
accepted_both [] ys a b = b
accepted_both (row ∷ xs) ys a b = (a.0, accepted_both xs ys a.1 b)

-- and back: both accept; where the first accepts, what is refused is refused by the second
pub accepted_parts : (xs ys : List {1} Row) → Accepted (xs ++ ys) → Accepted xs × Accepted ys
accepted_parts [] ys a = (tt, a)
accepted_parts (row ∷ xs) ys a = let parts = accepted_parts xs ys a.1 in ((a.0, parts.0), parts.1)

behind : (xs ys : List {1} Row) (n : ℕ) → Accepted xs → FirstHolding (xs ++ ys) n → FirstHolding ys n
behind [] ys n a h = h
behind (row ∷ xs) ys n a (inl h) = absurd (a.0 h.1)
behind (row ∷ xs) ys n a (inr h) = behind xs ys n a.1 h.1

pub refused_behind : (xs ys : List {1} Row) {N : ℕ} → Accepted xs → Refused (xs ++ ys) N → Refused ys N
refused_behind xs ys {N} a r = record { first = behind xs ys N a r.first }

-- Two lists whose rows have the same numbers and hold together: they give the same number, and both accept or neither. So what one call answers the other may, where
-- what is right for the one is right for the other.
abbrev pub Alike : List {1} Row → List {1} Row → Type 0
Alike [] [] = Unit {0}
Alike [] (row ∷ rows) = ⊥
Alike (row ∷ rows) [] = ⊥
Alike (row ∷ rows) (row' ∷ rows') = (row.number ≡ row'.number) × (row.given ↔ row'.given) × Alike rows rows'

alike_first : (xs ys : List {1} Row) (n : ℕ) → Alike xs ys → FirstHolding xs n → FirstHolding ys n
alike_first [] [] n a h = h
alike_first [] (y ∷ ys) n a h = absurd a
alike_first (x ∷ xs) [] n a h = absurd a
alike_first (x ∷ xs) (y ∷ ys) n a (inl h) = inl (h.0 ∙ a.0, a.1.0 h.1)
alike_first (x ∷ xs) (y ∷ ys) n a (inr h) = inr (λ k. h.0 (a.1.1 k), alike_first xs ys n a.2 h.1)

alike_accepted : (xs ys : List {1} Row) → Alike xs ys → Accepted xs → Accepted ys
alike_accepted [] [] a h = h
alike_accepted [] (y ∷ ys) a h = absurd a
alike_accepted (x ∷ xs) [] a h = absurd a
alike_accepted (x ∷ xs) (y ∷ ys) a h = (λ k. h.0 (a.1.1 k), alike_accepted xs ys a.2 h.1)

pub answered_as : (xs ys : List {1} Row) {N : ℕ} {B R R' : Type 0} → Alike xs ys → (Accepted xs → R → R') → Answered xs N B R → Answered ys N B R'
answered_as xs ys {N} a right (inl r) = inl (record { refused = record { first = alike_first xs ys N a r.refused.first }; blank = r.blank })
answered_as xs ys {N} a right (inr r) = inr (record { none = r.none; accepted = alike_accepted xs ys a r.accepted; right = right r.accepted r.right })

-- Two answers of one call have one number, and both are refused or both are right: what follows from either follows.
pub answered_determined :
    {rows : List {1} Row} {N M : ℕ} {B B' R R' X : Type 0}
    → Answered rows N B R → Answered rows M B' R' → (N ≡ M → B → B' → X) → (N ≡ M → R → R' → X) → X
answered_determined (inl r) (inl s) blank right = blank (refused_unique r.refused s.refused) r.blank s.blank
answered_determined (inl r) (inr s) blank right = absurd (refused_not_accepted r.refused s.accepted)
answered_determined (inr r) (inl s) blank right = absurd (refused_not_accepted s.refused r.accepted)
answered_determined (inr r) (inr s) blank right = right (r.none ∙ sym s.none) r.right s.right

-- Where the numbers of a list fall nowhere, the number given is the smallest of those whose rows hold: "smallest number first".
abbrev pub Applies : List {1} Row → ℕ → Type 0
Applies [] k = ⊥
Applies (row ∷ rows) k = ((k ≡ row.number) × row.given) ⊎ Applies rows k

no_fall : (b : Bool) (fall : ℕ × ℕ) (xs : List (ℕ × ℕ)) → cond b xs (fall ∷ xs) ≡ [] → (b ≡ true) × (xs ≡ [])
no_fall true fall xs e = (refl, e)
no_fall false fall xs e = absurd (cons≢nil e)

rising : (b k : ℕ) (rows : List {1} Row) → falls_from b rows ≡ [] → Applies rows k → b ≤ k
rising b k [] e a = elim a [ ]
rising b k (row ∷ rows) e a =
    let up = no_fall (leb b row.number) (b, row.number) (falls_from row.number rows) e in
    let low : b ≤ row.number = leb→le b row.number (subst (λ x. T x) (sym up.0) tt) in
    ⊎_elim (λ h. omega (arith, low, h.0)) (λ h. omega (arith, low, rising row.number k rows up.1 h)) a

smallest : (b n k : ℕ) (rows : List {1} Row) → falls_from b rows ≡ [] → FirstHolding rows n → Applies rows k → n ≤ k
smallest b n k [] e h a = elim h [ ]
smallest b n k (row ∷ rows) e (inl h) a =
    let up = no_fall (leb b row.number) (b, row.number) (falls_from row.number rows) e in
    ⊎_elim (λ j. omega (arith, h.0, j.0)) (λ j. omega (arith, h.0, rising row.number k rows up.1 j)) a
smallest b n k (row ∷ rows) e (inr h) a =
    let up = no_fall (leb b row.number) (b, row.number) (falls_from row.number rows) e in
    ⊎_elim (λ j. absurd (h.0 j.1)) (smallest row.number n k rows up.1 h.1) a

pub smallest_is_first : {rows : List {1} Row} {N k : ℕ} → falls rows ≡ [] → Refused rows N → Applies rows k → N ≤ k
smallest_is_first {rows} {N} {k} e r = smallest 0 N k rows e r.first

-- and there is one verdict
pub one_verdict : {So : Type 0} {v v' : Option Bool} → YesOrNo So v → YesOrNo So v' → v ≡ v'
one_verdict (inl x) (inl y) = x.0 ∙ sym y.0
one_verdict (inl x) (inr y) = absurd (y.1 x.1)
one_verdict (inr x) (inl y) = absurd (x.1 y.1)
one_verdict (inr x) (inr y) = x.0 ∙ sym y.0
