-- Canonical bytes of grants: the one spelling of each. The format is this project's own. Its
-- numbers are big-endian.
use Rattle.std.specs.Prelude.{ℕ, ◌<◌, ◌^◌, List, [], ◌∷◌, ◌++◌, length, IsTrue}
use Rattle.std.specs.List.{flat_map, AllByRecursion}
use Rattle.std.specs.Int.{w32, w64, to_be_bytes}
use Rattle.bl_syntax.specs.declared.terms.Constraint.{Constraint}
use Rattle.bl_syntax.specs.declared.terms.StatePred.{StatePred}
use Rattle.bl_syntax.specs.declared.grant.Goal.{Goal}
use Rattle.bl_syntax.specs.Names.{is_principal_name}
use Rattle.bl_syntax.specs.WellSorted.{terms_of_state}
use Rattle.bl_syntax.specs.Grant.{GrantView, IsGrant}
use Rattle.bl_syntax.specs.Spelling.{with_length, permission_code, term_spelling, IsSpellable}
use Rattle.bl_syntax.specs.FormulaSpelling.{state_spelling}

-- who may do it, the number of the file, and the permission
unfoldable pub goal_spelling : Goal → List ℕ
goal_spelling goal = with_length goal.who ++ (to_be_bytes w64 goal.file.0 ++ permission_code goal.perm ∷ [])

-- a condition on time: the time that is not after the other, and the other
unfoldable pub time_condition_spelling : Constraint → List ℕ
time_condition_spelling c = term_spelling c.low ++ term_spelling c.high

-- how many there are, in one byte, and each
abbrev pub list_spelling : {A : Type 0} → (A → List ℕ) → List A → List ℕ
list_spelling spelling items = length items ∷ flat_map spelling items

-- the version of a grant: 2 if it names statements
abbrev pub version_of : List ℕ → ℕ
version_of [] = 1
version_of (number ∷ numbers) = 2

-- the number of a statement
abbrev pub name_spelling : ℕ → List ℕ
name_spelling number = to_be_bytes w32 number

-- the statements that a grant names: how many, and the number of each; nothing at all if it names
-- none
abbrev pub names_spelling : List ℕ → List ℕ
names_spelling [] = []
names_spelling (number ∷ numbers) = list_spelling name_spelling (number ∷ numbers)

-- the conditions on time and on the server's state, and the statements that it names
abbrev pub parts_spelling : GrantView → List ℕ
parts_spelling g = list_spelling time_condition_spelling g.times ++ (list_spelling state_spelling g.states ++ names_spelling g.cited)

-- the byte `G`, the version, the goal, and all others
unfoldable pub grant_spelling : GrantView → List ℕ
grant_spelling g = 71 ∷ version_of g.cited ∷ (goal_spelling g.goal ++ parts_spelling g)

-- the goal has a spelling
pub record IsSpellableGoal (goal : Goal) : Type 0 where
  pub who : IsTrue (is_principal_name goal.who)
  pub file : goal.file.0 < 2 ^ 64

-- the condition on time has a spelling
pub record IsSpellableTime (c : Constraint) : Type 0 where
  pub low : IsSpellable c.low
  pub high : IsSpellable c.high

-- the condition on the server's state has a spelling
abbrev pub IsSpellableState : StatePred → Type 0
IsSpellableState s = AllByRecursion IsSpellable (terms_of_state s)

-- the number of a statement has a spelling
abbrev pub IsSpellableName : ℕ → Type 0
IsSpellableName number = number < 2 ^ 32

-- the grant has a spelling: its parts have one, and it keeps the rules of grants
pub record IsSpellableGrant (g : GrantView) : Type 0 where
  pub goal : IsSpellableGoal g.goal
  pub times : AllByRecursion IsSpellableTime g.times
  pub states : AllByRecursion IsSpellableState g.states
  pub names : AllByRecursion IsSpellableName g.cited
  pub grant : IsGrant g
