-- The facts of a rule, and how they come from those of its parts: what the readers' contracts cite.
use Rattle.std.specs.Prelude.{Option, Some, None, Bool, true, false, ◌||◌, ℕ, ◌+◌, ◌-◌, ◌^◌, ◌≤◌, ◌<◌, max, length}
use Rattle.std.specs.Int.Bits.{bit_and, bit_or}
use Rattle.laws.specs.Bit.{gather}
use Rattle.meaning.specs.Limits.{text_limit, number_limit, domain_limit}
use Rattle.meaning.specs.Rule.{Rule, depth, actions_in, fluents_in, backward_in, free_in, varies_in}
use Rattle.rule.specs.declared.answer.Facts.{Facts}
use Rattle.grammar.specs.Letters.{variables, variable_meant}

-- the variables that stand free: a bit each, in the order of their letters
abbrev pub free_set : Rule → ℕ
free_set rule = gather (length variables) (λ i. free_in (variable_meant i) rule)

-- the facts of a rule that ends there, where a variable has so many values
abbrev pub facts_of : ℕ → ℕ → Rule → Facts
facts_of domain end rule = record {
  end = end;
  depth = depth rule;
  actions = actions_in domain rule;
  fluents = fluents_in domain rule;
  backward = backward_in rule;
  free = free_set rule;
  varies = varies_in rule;
}

abbrev pub depth_in : Option Facts → ℕ
depth_in None = 0
depth_in (Some f) = f.depth

abbrev pub end_in : Option Facts → ℕ
end_in None = 0
end_in (Some f) = f.end

-- where a number stands: two digits write it, so much may be added to it, and what it ends ends within a text
abbrev pub NamedWithin : Option ℕ → ℕ → ℕ → Type 0
NamedWithin None more end = Unit {0}
NamedWithin (Some n) more end = (n < number_limit) × (more ≤ domain_limit) × (end ≤ text_limit)

-- where a letter stands: it is that of a variable; and if it stands at a text's place, that one ends within the text
abbrev pub PlaceWithin : Option ℕ → Type 0
PlaceWithin None = Unit {0}
PlaceWithin (Some k) = k < length variables

abbrev pub LetterWithin : Option ℕ → ℕ → Type 0
LetterWithin None at = Unit {0}
LetterWithin (Some k) at = (k < length variables) × (at < text_limit)

abbrev pub leaf_of : ℕ → Bool → Facts
leaf_of end turn = record { end = end; depth = 1; actions = 0; fluents = 0; backward = turn; free = 0; varies = false }

-- a name, of which the theory must have so many more than its number: one more, or with a variable behind it as many as that has values
abbrev pub step_of : Option ℕ → ℕ → ℕ → Bool → Option Facts
step_of None more end turn = None
step_of (Some n) more end turn = Some (record (leaf_of end turn) { actions = n + more })

abbrev pub fluent_of : Option ℕ → ℕ → ℕ → Option Facts
fluent_of None more end = None
fluent_of (Some n) more end = Some (record (leaf_of end false) { fluents = n + more })

-- a name with a variable's letter behind it: that one stands free
abbrev pub lettered_of : Option Facts → Option ℕ → Option Facts
lettered_of part None = None
lettered_of None (Some k) = None
lettered_of (Some f) (Some k) = Some (record f { end = f.end + 1; free = 2 ^ k; varies = true })

abbrev pub above_of : Option Facts → Bool → Option Facts
above_of None turn = None
above_of (Some f) turn = Some (record f { depth = f.depth + 1; backward = turn || f.backward })

-- a sign that binds a variable in its part: that one stands free there no more
abbrev pub bound_of : Option ℕ → Option Facts → Option Facts
bound_of None part = None
bound_of (Some k) None = None
bound_of (Some k) (Some f) =
    Some (record f { depth = f.depth + 1; free = bit_and f.free (2 ^ 8 - 1 - 2 ^ k); varies = true })

abbrev pub beside_of : Facts → Option Facts → Option Facts
beside_of first None = None
beside_of first (Some s) =
    Some (record {
      end = s.end;
      depth = max first.depth s.depth + 1;
      actions = max first.actions s.actions;
      fluents = max first.fluents s.fluents;
      backward = first.backward || s.backward;
      free = bit_or first.free s.free;
      varies = first.varies || s.varies;
    })

abbrev pub inside_of : Facts → Facts
inside_of f = record f { backward = false }
