-- Conditions as they come up: each is kept once, in the order of its first appearance (this
-- project's own).
use Rattle.std.specs.Prelude.{◌≡◌, ◌+◌, List, [], ◌∷◌, ◌++◌, length, Contains}
use Rattle.bl_syntax.specs.declared.limits.TheConstants.{MOST_CONDITIONS}
use Rattle.bl_syntax.specs.declared.terms.Constraint.{Constraint}
use Rattle.bl_syntax.specs.declared.terms.StatePred.{StatePred}
use Rattle.bl_syntax.specs.declared.grant.Goal.{Goal}
use Rattle.bl_syntax.specs.Grant.{GrantView}

-- the goal without conditions
abbrev pub without_conditions : Goal → GrantView
without_conditions goal = record { goal = goal; times = []; states = []; cited = [] }

-- it holds as many conditions as a grant may, those on time and those on the state together
abbrev pub IsFull : GrantView → Type 0
IsFull g = length g.times + length g.states ≡ MOST_CONDITIONS

-- what a list of things, each kept once, becomes when one comes up: it stays where that one is
-- there, and else has it at its end
pub data KeepsOnce {A : Type 0} (old : List A) (x : A) (new : List A) : Type 0 where
  known : Contains old x → new ≡ old → KeepsOnce old x new
  unknown : (Contains old x → ⊥) → new ≡ old ++ x ∷ [] → KeepsOnce old x new

-- a condition on time came up
pub record AddsTime (old : GrantView) (c : Constraint) (new : GrantView) : Type 0 where
  pub same_goal : new.goal ≡ old.goal
  pub times : KeepsOnce old.times c new.times
  pub same_states : new.states ≡ old.states
  pub same_cited : new.cited ≡ old.cited

-- a condition on the state came up
pub record AddsState (old : GrantView) (s : StatePred) (new : GrantView) : Type 0 where
  pub same_goal : new.goal ≡ old.goal
  pub same_times : new.times ≡ old.times
  pub states : KeepsOnce old.states s new.states
  pub same_cited : new.cited ≡ old.cited
