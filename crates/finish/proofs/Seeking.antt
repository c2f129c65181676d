-- From the arguments of a checked call to the search, and from what it finds to the answer: the log copied to the trail, the sequence copied to the output.
use Rattle.std.specs.Prelude.{Some, None, Ok, Err}
use mathlib.Core.Path.{◌≡◌, refl, sym, ap, subst, ◌∙◌}
use mathlib.Core.List.{List, ◌++◌}
use Prim.Native.Nat.{ℕ, ◌+◌, ◌-◌}
use native.Mathlib.Omega.{arith}
use lib.ListN.{length, take, drop, length-append, length-drop}
use lib.Seq.{length-take-le, take-append_seam}
use Rattle.refusal.specs.declared.Refusal.{Refusal}
use Rattle.meaning.specs.Limits.{places}
use Rattle.meaning.specs.Finish.{First}
use Rattle.meaning.specs.Finish.{None as NoneOfAll}
use Rattle.theory.specs.Subject.{subject_of, world_of}
use Rattle.theory.specs.declared.Setting.{Setting}
use Rattle.grammar.specs.Standing.{Ends}
use Rattle.finish.specs.Sound.{Ready, Wanted}
use Rattle.finish.specs.Found.{FinishTold, SoughtTold}

-- what the search asks, of a trail that has the log in front
pub ready_first : (actions : ℕ) (masks log blank job ends : List ℕ) (more room : ℕ) → Wanted actions masks log job more room → Ends job ends → length blank ≡ places
    → Ready actions masks job ends (log ++ drop (length log) blank) (length log) 0
ready_first actions masks log blank job ends more room w marked long = record {
  node = record {
    logged = rw (take-append_seam log (drop (length log) blank)) w.logged;
    stands = record { walk = w.walk; stands = w.spelled.there; marked = marked };
  };
  room = simp (length-append, length-drop) (omega (arith, long, w.logged.short));
  fits = omega (arith, w.logged.short);
}

module _ (s : Setting) (masks log job trail last : List ℕ) (n more : ℕ) (same : take n trail ≡ log) (before : List ℕ) where
  -- "no such sequence": nothing is written
  pub nothing_sought : FinishTold s masks job trail n more last None
      → SoughtTold (subject_of s masks log) job more before before (Err Refusal.NoFinish)
  nothing_sought told = record {
    each = λ x j. (refl, subst (λ (l : List ℕ). NoneOfAll (world_of (subject_of s masks l)) x more) same (told.each x j), refl);
  }

  -- what stands behind the log goes to the front of the output
  pub written_sought : (k : ℕ) (part : List ℕ) → length last ≡ places → part ≡ take (n + k - n) (drop n last) → FinishTold s masks job trail n more last (Some k)
      → SoughtTold (subject_of s masks log) job more before (part ++ drop k before) (Ok k)
  written_sought k part long e told = record {
    each = λ x j.
        record {
          ending = part;
          first = rw here (subst (λ (l : List ℕ). First (world_of (subject_of s masks l)) x more (take k (drop n last))) same (told.each x j));
          counted = sym many;
          written = rw many refl;
        };
  }
    where
      back : n + k - n ≡ k
      back = omega arith

      here : part ≡ take k (drop n last)
      here = rw back at e

      many : length part ≡ k
      many = ap length here ∙ length-take-le k (drop n last) (simp length-drop (omega (arith, told.fits.1)))
