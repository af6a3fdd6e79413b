-- Lines come to one end.
use Rattle.std.proofs.Common.{◌≡◌, inl, inr, ℕ, List, length, refl, ap, subst, arith}
use Rattle.std.proofs.lemmas.Bool.{cases_lt}
use Rattle.bl_syntax.specs.declared.terms.TimePoint.{TimePoint}
use Rattle.mode_policy.specs.declared.fault.ModeFault.TheVariants.{BadLine, Twice, TooMany}
use Rattle.mode_policy.specs.Laws.{IsFaulty}
use Rattle.mode_policy.specs.Lines.{IsBad, IsFirst, IsTwice}
use Rattle.mode_policy.specs.Statements.{statements_of}
use Rattle.mode_policy.specs.Table.{TableView}
use Rattle.mode_policy.proofs.LawLemmas as tables
use Rattle.pcfs_modes.specs.Answers.{ComesTo, StatesTable, bad_line, of_table, stated, too_many, twice}
use Rattle.pcfs_modes.specs.Laws.{HasAnEnd}
use Rattle.pcfs_modes.specs.ModesText.{fault_line, register_lines}

module _ (from to : TimePoint) where
  -- ---- at most one

  one_stated : (t : TableView) (status other : ℕ) (written another : List ℕ) → StatesTable from to t status written → StatesTable from to t other another → (status ≡ other) × (written ≡ another)
  one_stated t _ _ _ _ (stated few) (stated again) = (refl, refl)
  one_stated t _ _ _ _ (too_many over) (too_many again) = (refl, refl)
  one_stated t _ _ _ _ (stated few) (too_many over) = absurd (omega (arith, few, over))
  one_stated t _ _ _ _ (too_many over) (stated few) = absurd (omega (arith, few, over))

  one_table : (t u : TableView) (status other : ℕ) (written another : List ℕ) → t ≡ u → StatesTable from to t status written → StatesTable from to u other another → (status ≡ other) × (written ≡ another)
  one_table t u status other written another same states again =
      one_stated u status other written another (subst (λ (x : TableView). StatesTable from to x status written) same states) again

  module _ (lines : List (List ℕ)) where
    same_number : (m n : ℕ) → IsFaulty lines m → IsFaulty lines n → m ≡ n
    same_number m n first second = tables.one_first_fault.one_line lines m n first second

    one_way : (m n : ℕ) → IsFirst IsBad lines m → IsFirst IsTwice lines n → ⊥
    one_way m n first second =
        tables.one_first_fault.one_way lines n (subst (λ (k : ℕ). IsFirst IsBad lines k) (same_number m n (inl first) (inr second)) first) second

    same_ends : (status : ℕ) (line : ℕ → List ℕ) (m n : ℕ) → m ≡ n → (status ≡ status) × (line m ≡ line n)
    same_ends status line m n same = (refl, ap line same)

    pub one_end : (status other : ℕ) (written another : List ℕ) → ComesTo from to lines status written → ComesTo from to lines other another → (status ≡ other) × (written ≡ another)
    one_end status other written another (of_table t _ _ are states) (of_table u _ _ are_too again) = one_table t u status other written another (tables.one_reading lines t u are are_too) states again
    one_end status _ written _ (of_table t _ _ are states) (bad_line number first) = absurd (tables.never_both lines t number are (inl first))
    one_end status _ written _ (of_table t _ _ are states) (twice number first) = absurd (tables.never_both lines t number are (inr first))
    one_end _ other _ another (bad_line number first) (of_table t _ _ are states) = absurd (tables.never_both lines t number are (inl first))
    one_end _ other _ another (twice number first) (of_table t _ _ are states) = absurd (tables.never_both lines t number are (inr first))
    one_end _ _ _ _ (bad_line m first) (bad_line n second) = same_ends 15 (λ (k : ℕ). fault_line (BadLine k)) m n (same_number m n (inl first) (inl second))
    one_end _ _ _ _ (twice m first) (twice n second) = same_ends 15 (λ (k : ℕ). fault_line (Twice k)) m n (same_number m n (inr first) (inr second))
    one_end _ _ _ _ (bad_line m first) (twice n second) = absurd (one_way m n first second)
    one_end _ _ _ _ (twice m first) (bad_line n second) = absurd (one_way n m second first)

-- ---- at least one

a_stated : (from to : TimePoint) (t : TableView) → (status : ℕ) × (written : List ℕ) × StatesTable from to t status written
a_stated from to t = elim (cases_lt 4096 (length (statements_of t from to))) [
  | inl over ↦ (15, fault_line TooMany, too_many over)
  | inr few ↦ (0, register_lines (statements_of t from to), stated few)
]

pub an_end : HasAnEnd
an_end from to lines = elim (tables.one_or_the_other lines) [
  | inl is ↦ let states = a_stated from to is.0 in (states.0, states.1, of_table is.0 states.0 states.1 is.1 states.2)
  | inr wrong ↦ elim wrong.1 [
    | inl first ↦ (15, fault_line (BadLine wrong.0), bad_line wrong.0 first)
    | inr first ↦ (15, fault_line (Twice wrong.0), twice wrong.0 first)
  ]
]
