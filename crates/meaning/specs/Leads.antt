-- Document 01, the two tables: where a walk leads, and when a test is true; document 02, Q-2: for some value; Q-7: with the now of the step or of the end. The
-- world is an explicit argument of each definition, so that a rule may be read in a changed world.
use Rattle.std.specs.Prelude.{◌≡◌, ◌⊎◌, true, ℕ, ◌+◌, ◌≤◌, ◌<◌}
use Rattle.std.proofs.Math.Option.{Option, some}
use Rattle.laws.specs.Bit.{on}
use Rattle.meaning.specs.Theory.{Masks, Possible, now_step, now_end, World, bind, inside, number_in, state_before, step_at}
use Rattle.meaning.specs.Rule.{Walk, Test, act, undo, next, prev, seq, alt, star, check, conv, pick, always, fluent, neg, both, diamond, exists}

-- "means, from p to q, with now = n"
abbrev pub Rel : Type 1
Rel = ℕ → ℕ → ℕ → Type 0

-- "true with then = t, now = n"
abbrev pub Truth : Type 1
Truth = ℕ → ℕ → Type 0

-- `aNN`: "q = p+1 ≤ n, step p of the log is NN and NN is possible at p"
pub record Taken (step : Option ℕ) (m : Masks) (state a p q n : ℕ) : Type 0 where
  pub onward : q ≡ p + 1
  pub within : q ≤ n
  pub logged : step ≡ some a
  pub able : Possible m state

abbrev pub Step : World → ℕ → Rel
Step w a p q n = Taken (step_at w p) (w.masks a) (state_before w p) a p q n

-- `n`: the paper's *any*, "the choice over all actions", so that "a step counts only if that action was possible": some action, as `aNN` means it
abbrev pub AnyStep : World → Rel
AnyStep w p q n = (a : ℕ) × Step w a p q n

-- "the same with p and q exchanged"
abbrev pub Turned : Rel → Rel
Turned r p q n = r q p n

-- `;VW`: "V to some position, W from there"
abbrev pub Then : Rel → Rel → Rel
Then r s p q n = (m : ℕ) × r p m n × s m q n

-- `|VW`: "V or W"
abbrev pub Or : Rel → Rel → Rel
Or r s p q n = r p q n ⊎ s p q n

-- `*W`: "a finite chain of W steps, perhaps none"; "All positions are at most n."
pub data Chain (r : Rel) (n : ℕ) : ℕ → ℕ → Type 0 where
  stay : {p q : ℕ} → q ≡ p → p ≤ n → Chain r n p q
  link : {p m q : ℕ} → r p m n → Chain r n m q → Chain r n p q

abbrev pub Many : Rel → Rel
Many r p q n = Chain r n p q

-- `?T`: "q = p and T is true with then = p and now = p". "Under `end`, a `?T` .. has the outer now." The now that a test inside a walk has, from its position and
-- the walk's now:
unfoldable pub own_now : World → ℕ → ℕ → ℕ
own_now w p n = elim w.own [ now_step ↦ p | now_end ↦ n ]

abbrev pub Here : World → Truth → Rel
Here w x p q n = (q ≡ p) × (p ≤ n) × x p (own_now w p n)

-- `pvW`: "W for some value of v", where "Values are 0 to NN-1": what W relates with each value, and how many there are
abbrev pub Pick : ℕ → (ℕ → Rel) → Rel
Pick domain r p q n = (k : ℕ) × (k < domain) × r k p q n

-- `1`: "always"
abbrev pub Always : Truth
Always t n = Unit {0}

-- `fNN`: "fluent NN is on in state t"
abbrev pub On : World → ℕ → Truth
On w i t n = on (state_before w t) i ≡ true

-- `!T`: "T is not"
abbrev pub Not : Truth → Truth
Not x t n = ¬ x t n

-- `&TU`: "both are"
abbrev pub Both : Truth → Truth → Truth
Both x y t n = x t n × y t n

-- `<WT`: "W leads from t to some q, and T is true with then = q, now = n"
abbrev pub Some : Rel → Truth → Truth
Some r x t n = (q : ℕ) × r t q n × x q n

-- `evT`: "T for some value"
abbrev pub Exists : ℕ → (ℕ → Truth) → Truth
Exists domain x t n = (k : ℕ) × (k < domain) × x k t n

-- Leads w W p q n: W leads from p to q with now = n. Back is the converse "by the paper's inward rules", sign by sign, and not "W from q to p".
-- Holds w T t n: T is true with then = t, now = n.
unfoldable mutual
  pub Leads : World → Walk → Rel
  Leads w (act a) = Step w (number_in w a)
  Leads w (undo a) = Turned (Step w (number_in w a))
  Leads w next = AnyStep w
  Leads w prev = Turned (AnyStep w)
  Leads w (seq v x) = Then (Leads w v) (Leads w x)
  Leads w (alt v x) = Or (Leads w v) (Leads w x)
  Leads w (star x) = Many (Leads w x)
  Leads w (check t) = Here w (Holds w t)
  Leads w (conv x) = Back w x
  Leads w (pick v x) = Pick w.domain (λ k. Leads (bind w v k) x)

  pub Back : World → Walk → Rel
  Back w (act a) = Turned (Step w (number_in w a))
  Back w (undo a) = Step w (number_in w a)
  Back w next = Turned (AnyStep w)
  Back w prev = AnyStep w
  Back w (seq v x) = Then (Back w x) (Back w v)
  Back w (alt v x) = Or (Back w v) (Back w x)
  Back w (star x) = Many (Back w x)
  Back w (check t) = Here w (Holds w t)
  Back w (conv x) = Leads w x
  Back w (pick v x) = Pick w.domain (λ k. Back (bind w v k) x)

  pub Holds : World → Test → Truth
  Holds w always = Always
  Holds w (fluent i) = On w (number_in w i)
  Holds w (neg x) = Not (Holds w x)
  Holds w (both x y) = Both (Holds w x) (Holds w y)
  Holds w (diamond v x) = Some (Leads (inside w) v) (Holds w x)
  Holds w (exists v x) = Exists w.domain (λ k. Holds (bind w v k) x)
