-- Laws of the reading of tables.
use Rattle.std.specs.Prelude.{◌≡◌, ◌⊎◌, ℕ, List}
use Rattle.mode_policy.specs.Lines.{AreOfTable, IsBad, IsTwice, IsFirst}
use Rattle.mode_policy.specs.Table.{TableView}

-- the line of this number is the first that is wrong
abbrev pub IsFaulty : List (List ℕ) → ℕ → Type 0
IsFaulty lines number = IsFirst IsBad lines number ⊎ IsFirst IsTwice lines number

-- lines are those of one table at most
abbrev pub HasOneReading : Type 0
HasOneReading = (lines : List (List ℕ)) (a b : TableView) → AreOfTable lines a →
    AreOfTable lines b → a ≡ b

-- no two lines are the first that is wrong, and no line is wrong in two ways
pub record HasOneFirstFault : Type 0 where
  pub one_line : (lines : List (List ℕ)) (m n : ℕ) → IsFaulty lines m → IsFaulty lines n → m ≡ n
  pub one_way : (lines : List (List ℕ)) (n : ℕ) → IsFirst IsBad lines n → IsFirst IsTwice lines n →
      ⊥

-- no line of a table is a first that is wrong
abbrev pub IsNeverBoth : Type 0
IsNeverBoth = (lines : List (List ℕ)) (t : TableView) (number : ℕ) → AreOfTable lines t →
    IsFaulty lines number → ⊥

-- lines are those of a table, or one of them is the first that is wrong
abbrev pub IsOneOrTheOther : Type 0
IsOneOrTheOther = (lines : List (List ℕ)) → ((t : TableView) × AreOfTable lines t) ⊎
    ((number : ℕ) × IsFaulty lines number)
