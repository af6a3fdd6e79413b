-- The fields of a formula without formulas in it do not depend on how formulas are read.
use Rattle.std.proofs.Common.{◌≡◌, ◌≤◌, ℕ, true, eqb, leb, List, refl, sym, subst, arith, inl, inr}
use Rattle.std.specs.Prelude.{◌&&◌, ◌||◌}
use Rattle.std.proofs.lemmas.Bool.{cases_eq, or_cases, and_parts, leb-true, eqb-true}
use Rattle.bl_syntax.specs.Formula.{FormulaView}
use Rattle.bl_syntax.specs.FormulaReading.{Counted, fields_at}
use Rattle.bl_codec.specs.Leaves.{is_leaf_tag, leaf_at}

abbrev Same : (ℕ → List ℕ → Counted FormulaView) → ℕ → ℕ → List ℕ → ℕ → Type 0
Same inner input left rest tag = fields_at inner input left tag rest ≡ leaf_at input left tag rest

first_leaves : (inner : ℕ → List ℕ → Counted FormulaView) (input left tag : ℕ) (rest : List ℕ) → 16 ≤ tag → tag ≤ 20 → Same inner input left rest tag
unfolding fields_at leaf_at
first_leaves inner input left tag rest low high =
    elim (cases_eq tag 16) [
      | inl e ↦ subst (Same inner input left rest) (sym e) refl
      | inr n16 ↦
          elim (cases_eq tag 17) [
            | inl e ↦ subst (Same inner input left rest) (sym e) refl
            | inr n17 ↦
                elim (cases_eq tag 18) [
                  | inl e ↦ subst (Same inner input left rest) (sym e) refl
                  | inr n18 ↦
                      elim (cases_eq tag 19) [
                        | inl e ↦ subst (Same inner input left rest) (sym e) refl
                        | inr n19 ↦
                            let e : tag ≡ 20 = omega arith in subst (Same inner input left rest) (sym e) refl
                      ]
                ]
          ]
    ]

pub leaf_is : (inner : ℕ → List ℕ → Counted FormulaView) (input left tag : ℕ) (rest : List ℕ) → is_leaf_tag tag ≡ true → Same inner input left rest tag
unfolding fields_at leaf_at
leaf_is inner input left tag rest is =
    elim (or_cases (leb 16 tag && leb tag 20 || eqb tag 24) (eqb tag 25) is) [
      | inl a ↦ elim (or_cases (leb 16 tag && leb tag 20) (eqb tag 24) a) [
        | inl b ↦ let parts = and_parts (leb 16 tag) (leb tag 20) b in first_leaves inner input left tag rest (leb-true 16 tag parts.0) (leb-true tag 20 parts.1)
        | inr b ↦ subst (Same inner input left rest) (sym (eqb-true tag 24 b)) refl
      ]
      | inr a ↦ subst (Same inner input left rest) (sym (eqb-true tag 25 a)) refl
    ]
