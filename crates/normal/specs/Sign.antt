-- What a converse makes of a sign: which sign it turns into, and whether its two parts are exchanged.
use Rattle.std.specs.Prelude.{Bool, true, false, cond, ◌&&◌, ℕ, eqb}
use Rattle.normal.specs.declared.rewrite.Parts.{Parts}

-- "`a` and `r` turn into each other, so do `n` and `u`"; "Normal form turns `b` and `s` into each other"
abbrev pub turned_sign : ℕ → ℕ
turned_sign b = cond (eqb b 97) 114 (cond (eqb b 114) 97 (cond (eqb b 110) 117 (cond (eqb b 117) 110 (cond (eqb b 98) 115 (cond (eqb b 115) 98 b)))))

abbrev pub facing_sign : Bool → ℕ → ℕ
facing_sign false b = b
facing_sign true b = turned_sign b

-- "Converse of `;VW` is the converse of W, then of V; of a choice, the choice of converses in the same order"
abbrev pub swaps : Bool → ℕ → Bool
swaps back b = back && eqb b 59

abbrev pub signs_in_order : Bool → ℕ → ℕ → Parts
signs_in_order false from middle = record { first = from; second = middle }
signs_in_order true from middle = record { first = middle; second = from }
