-- What a verified proof grants: a goal, and the conditions on time and on the server's state that
-- the proof left open (after procaps: Garg and Pfenning, A proof-carrying
-- file system, 2010). The grammar and the limit of conditions are this project's own.
use Rattle.std.specs.Prelude.{◌≡◌, ◌≤◌, ◌+◌, ◌⊎◌, ℕ, ℤ, List, [], ◌∷◌, length, Contains}
use Rattle.std.specs.List.{AllByRecursion}
use Rattle.bl_syntax.specs.declared.terms.Term.{Term}
use Rattle.bl_syntax.specs.declared.terms.Term.TheVariants.{Ctime}
use Rattle.bl_syntax.specs.declared.terms.Constraint.{Constraint}
use Rattle.bl_syntax.specs.declared.terms.StatePred.{StatePred}
use Rattle.bl_syntax.specs.declared.grant.Goal.{Goal}
use Rattle.bl_syntax.specs.declared.limits.TheConstants.{MOST_CONDITIONS}
use Rattle.bl_syntax.specs.Citable.{AreNamed}
use Rattle.bl_syntax.specs.Terms.{IsConstant, HasTimeInRange, AreInOrder, constraint_at}
use Rattle.bl_syntax.specs.WellSorted.{terms_of_state}

-- the goal, the conditions in the order in which they came up, and the numbers of the statements
-- that it names
pub record GrantView : Type 0 where
  pub goal : Goal
  pub times : List Constraint
  pub states : List StatePred
  pub cited : List ℕ

-- the current time, or a constant
abbrev pub IsCtimeOrConstant : Term → Type 0
IsCtimeOrConstant t = (t ≡ Ctime) ⊎ IsConstant t

-- it names the current time on at least one side, and otherwise constants
pub record IsTimeCondition (c : Constraint) : Type 0 where
  pub low : IsCtimeOrConstant c.low
  pub high : IsCtimeOrConstant c.high
  pub of_ctime : (c.low ≡ Ctime) ⊎ (c.high ≡ Ctime)
  pub low_in_range : HasTimeInRange c.low
  pub high_in_range : HasTimeInRange c.high

-- it holds constants alone
pub record IsStateCondition (s : StatePred) : Type 0 where
  pub constants : AllByRecursion IsConstant (terms_of_state s)
  pub times_in_range : AllByRecursion HasTimeInRange (terms_of_state s)

-- no two are the same
abbrev pub AreDistinct : {A : Type 0} → List A → Type 0
AreDistinct [] = Unit {0}
AreDistinct (x ∷ xs) = (Contains xs x → ⊥) × AreDistinct xs

-- which statements a grant may name: none, or those that its proof cites
abbrev pub MayName : List ℕ → Type 0
MayName numbers = (numbers ≡ []) ⊎ AreNamed numbers

-- what a grant keeps: conditions of these forms, each once, at most 64 together, and numbers that
-- it may name
pub record IsGrant (g : GrantView) : Type 0 where
  pub time_conditions : AllByRecursion IsTimeCondition g.times
  pub state_conditions : AllByRecursion IsStateCondition g.states
  pub distinct_times : AreDistinct g.times
  pub distinct_states : AreDistinct g.states
  pub count : length g.times + length g.states ≤ MOST_CONDITIONS
  pub names : MayName g.cited

-- the condition on time holds at a moment
abbrev pub HoldsAt : ℤ → Constraint → Type 0
HoldsAt moment c = let now = constraint_at moment c in AreInOrder now.low now.high

-- the grant's conditions hold at a moment over these facts of the state
pub record Holds (g : GrantView) (moment : ℤ) (facts : List StatePred) : Type 0 where
  pub times : AllByRecursion (HoldsAt moment) g.times
  pub states : AllByRecursion (Contains facts) g.states
