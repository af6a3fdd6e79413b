-- What becomes of an operation: its first refusal, or its reply and the state after it.
use Rattle.std.specs.Prelude.{◌≡◌, List, [], ◌∷◌, ◌++◌, Bool, true, false, Option, Some, None, if◌then◌else◌}
use Rattle.std.specs.List.{AllByRecursion}
use Rattle.file_world.specs.declared.refusal.Refusal.{Refusal}

-- tests in their order, each with the refusal that it leads to if it holds
abbrev pub Tests : Type 0
Tests = List (Bool × Refusal)

-- the first test that holds
abbrev pub first_of : Tests → Option Refusal
first_of [] = None
first_of (test ∷ tests) = if test.0 then Some test.1 else first_of tests

-- no test holds
abbrev pub NoneHolds : Tests → Type 0
NoneHolds tests = AllByRecursion (λ test. test.0 ≡ false) tests

-- the first test that holds leads to the refusal
pub record IsFirst (tests : Tests) (refusal : Refusal) : Type 0 where
  pub earlier : Tests
  pub later : Tests
  pub whole : tests ≡ earlier ++ (true, refusal) ∷ later
  pub none_earlier : NoneHolds earlier

pub data Outcome (Reply State : Type 0) : Type 0 where
  refused : Refusal → Outcome Reply State
  replied : Reply → State → Outcome Reply State

abbrev pub outcome : {Reply State : Type 0} → Option Refusal → Reply → State → Outcome Reply State
outcome (Some refusal) reply state = refused refusal
outcome None reply state = replied reply state
