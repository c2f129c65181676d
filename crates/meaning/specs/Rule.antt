-- Document 01, "Rule text": walks and tests, how they are written, their depth, what they name, and what a job may not have. Document 02, Q-2, "Some
-- carton": variables, the signs that have one, and which of them stand free.
use Rattle.std.specs.Prelude.{◌≡◌, Bool, true, false, not, ◌&&◌, ◌||◌, List, [], ◌∷◌, ◌++◌, ℕ, suc, ◌+◌, ◌/◌, ◌%◌, ◌≤◌, max, eqb}
use Rattle.meaning.specs.Limits.{number_limit}

-- "Variables are `v`, `w`, `x`, `y`."
pub data Variable : Type 0 where
  var_v : Variable
  var_w : Variable
  var_x : Variable
  var_y : Variable

abbrev pub letter : Variable → ℕ
letter var_v = 118  -- v
letter var_w = 119  -- w
letter var_x = 120  -- x
letter var_y = 121  -- y

-- What a leaf names: a number, or "NN plus the value" of a variable.
pub data Name : Type 0 where
  plain : ℕ → Name
  plus : ℕ → Variable → Name

-- The signs of the two tables, in their order, and the two that bind a variable. "A walk's grammar needs tests and a test's grammar needs walks."
mutual
  pub data Walk : Type 0 where
    -- aNN and bNNv, rNN and sNNv, n, u
    act : Name → Walk
    undo : Name → Walk
    next : Walk
    prev : Walk
    -- ;VW, |VW, *W, ?T, -W
    seq : Walk → Walk → Walk
    alt : Walk → Walk → Walk
    star : Walk → Walk
    check : Test → Walk
    conv : Walk → Walk
    -- pvW
    pick : Variable → Walk → Walk

  pub data Test : Type 0 where
    -- 1, fNN and gNNv, !T, &TU, <WT
    always : Test
    fluent : Name → Test
    neg : Test → Test
    both : Test → Test → Test
    diamond : Walk → Test → Test
    -- evT
    exists : Variable → Test → Test

-- The text of a rule: "Prefix notation, ASCII, no spaces". NN is two decimal digits.
abbrev pub digits : ℕ → List ℕ
digits n = (48 + n / 10) ∷ (48 + n % 10) ∷ []

-- Each sign stands as its ASCII number, beside the sign itself.
unfoldable mutual
  pub walk_text : Walk → List ℕ
  walk_text (act (plain a)) = 97 ∷ digits a  -- a
  walk_text (act (plus a v)) = 98 ∷ digits a ++ letter v ∷ []  -- b
  walk_text (undo (plain a)) = 114 ∷ digits a  -- r
  walk_text (undo (plus a v)) = 115 ∷ digits a ++ letter v ∷ []  -- s
  walk_text next = 110 ∷ []  -- n
  walk_text prev = 117 ∷ []  -- u
  walk_text (seq v w) = 59 ∷ walk_text v ++ walk_text w  -- ;
  walk_text (alt v w) = 124 ∷ walk_text v ++ walk_text w  -- |
  walk_text (star w) = 42 ∷ walk_text w  -- *
  walk_text (check t) = 63 ∷ test_text t  -- ?
  walk_text (conv w) = 45 ∷ walk_text w  -- -
  walk_text (pick v w) = 112 ∷ letter v ∷ walk_text w  -- p

  pub test_text : Test → List ℕ
  test_text always = 49 ∷ []  -- 1
  test_text (fluent (plain i)) = 102 ∷ digits i  -- f
  test_text (fluent (plus i v)) = 103 ∷ digits i ++ letter v ∷ []  -- g
  test_text (neg t) = 33 ∷ test_text t  -- !
  test_text (both t u) = 38 ∷ test_text t ++ test_text u  -- &
  test_text (diamond w t) = 60 ∷ walk_text w ++ test_text t  -- <
  test_text (exists v t) = 101 ∷ letter v ∷ test_text t  -- e

-- "Depth: a leaf is 1, any other sign is one more than its deepest part." A variable's letter is no sign.
unfoldable mutual
  pub walk_depth : Walk → ℕ
  walk_depth (act a) = 1
  walk_depth (undo a) = 1
  walk_depth next = 1
  walk_depth prev = 1
  walk_depth (seq v w) = suc (max (walk_depth v) (walk_depth w))
  walk_depth (alt v w) = suc (max (walk_depth v) (walk_depth w))
  walk_depth (star w) = suc (walk_depth w)
  walk_depth (check t) = suc (test_depth t)
  walk_depth (conv w) = suc (walk_depth w)
  walk_depth (pick v w) = suc (walk_depth w)

  pub test_depth : Test → ℕ
  test_depth always = 1
  test_depth (fluent i) = 1
  test_depth (neg t) = suc (test_depth t)
  test_depth (both t u) = suc (max (test_depth t) (test_depth u))
  test_depth (diamond w t) = suc (max (walk_depth w) (test_depth t))
  test_depth (exists v t) = suc (test_depth t)

-- What a rule names: the largest value that the two functions give to an action or a fluent named in it, 0 if none is named.
unfoldable mutual
  pub walk_names : (Name → ℕ) → (Name → ℕ) → Walk → ℕ
  walk_names f g (act a) = f a
  walk_names f g (undo a) = f a
  walk_names f g next = 0
  walk_names f g prev = 0
  walk_names f g (seq v w) = max (walk_names f g v) (walk_names f g w)
  walk_names f g (alt v w) = max (walk_names f g v) (walk_names f g w)
  walk_names f g (star w) = walk_names f g w
  walk_names f g (check t) = test_names f g t
  walk_names f g (conv w) = walk_names f g w
  walk_names f g (pick v w) = walk_names f g w

  pub test_names : (Name → ℕ) → (Name → ℕ) → Test → ℕ
  test_names f g always = 0
  test_names f g (fluent i) = g i
  test_names f g (neg t) = test_names f g t
  test_names f g (both t u) = max (test_names f g t) (test_names f g u)
  test_names f g (diamond w t) = max (walk_names f g w) (test_names f g t)
  test_names f g (exists v t) = test_names f g t

-- how many a theory must have to know what is named, with so many values, where the name is of that sort, and where it is not: "a number plus the
-- largest value", and one more
abbrev pub up_to : ℕ → Name → ℕ
up_to domain (plain n) = n + 1
up_to domain (plus n v) = n + domain

abbrev pub other : Name → ℕ
other n = 0

-- the numbers as they are written are those named where 0 is the only value
abbrev pub as_written : ℕ
as_written = 1

-- "In a job `-`, `r` and `u` may stand only inside the walk of a `<`": one of them stands outside. All walks in a test are inside its `<`. "9 covers `s`."
unfoldable pub backward : Walk → Bool
backward (act a) = false
backward (undo a) = true
backward next = false
backward prev = true
backward (seq v w) = backward v || backward w
backward (alt v w) = backward v || backward w
backward (star w) = backward w
backward (check t) = false
backward (conv w) = true
backward (pick v w) = backward w

-- one variable is another: they have one letter
abbrev pub is_variable : Variable → Variable → Bool
is_variable u v = eqb (letter u) (letter v)

-- a name has this variable
abbrev pub has_name : Variable → Name → Bool
has_name v (plain n) = false
has_name v (plus n u) = is_variable u v

-- A variable stands free: in a name outside every part that binds it.
unfoldable mutual
  pub walk_free : Variable → Walk → Bool
  walk_free v (act a) = has_name v a
  walk_free v (undo a) = has_name v a
  walk_free v next = false
  walk_free v prev = false
  walk_free v (seq x w) = walk_free v x || walk_free v w
  walk_free v (alt x w) = walk_free v x || walk_free v w
  walk_free v (star w) = walk_free v w
  walk_free v (check t) = test_free v t
  walk_free v (conv w) = walk_free v w
  walk_free v (pick u w) = not (is_variable u v) && walk_free v w

  pub test_free : Variable → Test → Bool
  test_free v always = false
  test_free v (fluent i) = has_name v i
  test_free v (neg t) = test_free v t
  test_free v (both t u) = test_free v t || test_free v u
  test_free v (diamond w t) = walk_free v w || test_free v t
  test_free v (exists u t) = not (is_variable u v) && test_free v t

-- "the new signs", `b`, `s`, `g`, `p` and `e`: one of them stands somewhere
abbrev pub is_sum : Name → Bool
is_sum (plain n) = false
is_sum (plus n v) = true

unfoldable mutual
  pub walk_varies : Walk → Bool
  walk_varies (act a) = is_sum a
  walk_varies (undo a) = is_sum a
  walk_varies next = false
  walk_varies prev = false
  walk_varies (seq v w) = walk_varies v || walk_varies w
  walk_varies (alt v w) = walk_varies v || walk_varies w
  walk_varies (star w) = walk_varies w
  walk_varies (check t) = test_varies t
  walk_varies (conv w) = walk_varies w
  walk_varies (pick v w) = true

  pub test_varies : Test → Bool
  test_varies always = false
  test_varies (fluent i) = is_sum i
  test_varies (neg t) = test_varies t
  test_varies (both t u) = test_varies t || test_varies u
  test_varies (diamond w t) = walk_varies w || test_varies t
  test_varies (exists v t) = true

-- "A rule is used as a *test*, as a *walk* (questions only) or as a *job* (a walk to be carried out)."
pub data Kind : Type 0 where
  test_kind : Kind
  walk_kind : Kind
  job_kind : Kind

pub data Rule : Type 0 where
  of_test : Test → Rule
  of_walk : Walk → Rule

-- a rule can be used as this kind
abbrev pub Fits : Kind → Rule → Type 0
Fits test_kind (of_test t) = Unit {0}
Fits test_kind (of_walk w) = ⊥
Fits walk_kind (of_test t) = ⊥
Fits walk_kind (of_walk w) = Unit {0}
Fits job_kind (of_test t) = ⊥
Fits job_kind (of_walk w) = Unit {0}

abbrev pub text : Rule → List ℕ
text (of_test t) = test_text t
text (of_walk w) = walk_text w

abbrev pub depth : Rule → ℕ
depth (of_test t) = test_depth t
depth (of_walk w) = walk_depth w

abbrev pub names_in : (Name → ℕ) → (Name → ℕ) → Rule → ℕ
names_in f g (of_test t) = test_names f g t
names_in f g (of_walk w) = walk_names f g w

-- how many actions a theory must have to know every action that the rule names, with so many values, and how many fluents
abbrev pub actions_in : ℕ → Rule → ℕ
actions_in domain r = names_in (up_to domain) other r

abbrev pub fluents_in : ℕ → Rule → ℕ
fluents_in domain r = names_in other (up_to domain) r

-- a backward sign outside every `<` walk
abbrev pub backward_in : Rule → Bool
backward_in (of_test t) = false
backward_in (of_walk w) = backward w

-- a variable stands free in the rule; a sign of variables stands in it
abbrev pub free_in : Variable → Rule → Bool
free_in v (of_test t) = test_free v t
free_in v (of_walk w) = walk_free v w

abbrev pub varies_in : Rule → Bool
varies_in (of_test t) = test_varies t
varies_in (of_walk w) = walk_varies w

-- these bytes open with this rule of this kind, and the rest follows it: "NN is two decimal digits"
pub record Opens (kind : Kind) (bytes : List ℕ) (rule : Rule) (rest : List ℕ) : Type 0 where
  pub fits : Fits kind rule
  pub spells : bytes ≡ text rule ++ rest
  pub short_actions : actions_in as_written rule ≤ number_limit
  pub short_fluents : fluents_in as_written rule ≤ number_limit
