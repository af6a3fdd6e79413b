-- The fields of formulas by their tags: those without formulas in them, and how the others are put
-- together.
use Rattle.std.specs.Prelude.{ℕ, List, Bool, nat_le, ◌==◌, ◌&&◌, ◌||◌, if◌then◌else◌, Ok}
use Rattle.bl_syntax.specs.declared.terms.Sort.{Sort}
use Rattle.bl_syntax.specs.declared.terms.StatePred.TheVariants.{Owner, HasXattr, InDir}
use Rattle.bl_syntax.specs.Formula.{FormulaView, compare, state, both, either, implies, truth, falsity, forall_, exists_}
use Rattle.bl_syntax.specs.Reading.{map_reading}
use Rattle.bl_syntax.specs.FormulaReading.{Counted, two_terms_at, three_terms_at, atom_at}

-- a formula with this tag has no formulas in it
abbrev pub is_leaf_tag : ℕ → Bool
is_leaf_tag tag = nat_le 16 tag && nat_le tag 20 || tag == 24 || tag == 25

-- the fields of such a formula
unfoldable pub leaf_at : ℕ → ℕ → ℕ → List ℕ → Counted FormulaView
leaf_at input left tag rest =
    if tag == 16 then atom_at input left rest else
    if tag == 17 then map_reading (λ t. compare (record { low = t.0; high = t.1 })) (two_terms_at input left rest) else
    if tag == 18 then map_reading (λ t. state (Owner t.0 t.1)) (two_terms_at input left rest) else
    if tag == 19 then map_reading (λ t. state (HasXattr t.0 t.1.0 t.1.1)) (three_terms_at input left rest) else
    if tag == 20 then map_reading (λ t. state (InDir t.0 t.1)) (two_terms_at input left rest) else
    if tag == 24 then Ok (truth, (left, rest)) else
    Ok (falsity, (left, rest))

-- two formulas under the connective of this tag, 21 to 23
abbrev pub join_formulas : ℕ → FormulaView → FormulaView → FormulaView
join_formulas tag a b = if tag == 21 then both a b else if tag == 22 then either a b else implies a b

-- a formula under the binder of this tag, 26 or 27
abbrev pub bind_formula : ℕ → Sort → FormulaView → FormulaView
bind_formula tag sort a = if tag == 26 then forall_ sort a else exists_ sort a
