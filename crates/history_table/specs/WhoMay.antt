-- Which issues would admit their principals (this project's own).
use Rattle.std.specs.Prelude.{◌≡◌, ◌+◌, ◌⊎◌, ℕ, ℤ, List, [], ◌∷◌, ◌++◌, true, Contains}
use Rattle.std.specs.List.{AllByRecursion}
use Rattle.bl_syntax.specs.declared.terms.NodeId.{NodeId}
use Rattle.bl_syntax.specs.declared.terms.Perm.{Perm}
use Rattle.bl_syntax.specs.Grant.{HoldsAt}
use Rattle.file_world.specs.Facts.{facts}
use Rattle.access_history.specs.declared.event.Issue.{Issue}
use Rattle.access_history.specs.Base.{BaseView}
use Rattle.history_table.specs.Issues.{does_stand}

-- the procap of the issue would admit its principal to the permission on the file at that moment:
-- it stands, and its conditions hold
pub record WouldAdmit (state : BaseView) (file : NodeId) (permission : Perm) (moment : ℤ) (issue : Issue) : Type 0 where
  pub file_is : issue.grant.goal.file ≡ file
  pub permission_is : issue.grant.goal.perm ≡ permission
  pub stands : does_stand state.statements issue ≡ true
  pub times_hold : AllByRecursion (HoldsAt moment) issue.grant.times
  pub states_hold : AllByRecursion (Contains (facts state.world)) issue.grant.states

-- the numbers of such issues among these, the first of which has that number, in order: none is
-- missing
pub data AreAdmittingFrom (state : BaseView) (file : NodeId) (permission : Perm) (moment : ℤ) : ℕ →
    List Issue → List ℕ → Type 0 where
  no_issue : (number : ℕ) → AreAdmittingFrom state file permission moment number [] []
  admitting : (number : ℕ) (issue : Issue) (issues : List Issue) (numbers : List ℕ) →
      WouldAdmit state file permission moment issue →
      AreAdmittingFrom state file permission moment (number + 1) issues numbers →
      AreAdmittingFrom state file permission moment number (issue ∷ issues) (number ∷ numbers)
  passed_over : (number : ℕ) (issue : Issue) (issues : List Issue) (numbers : List ℕ) →
      (WouldAdmit state file permission moment issue → ⊥) →
      AreAdmittingFrom state file permission moment (number + 1) issues numbers →
      AreAdmittingFrom state file permission moment number (issue ∷ issues) numbers

-- these are the numbers of all such issues, in order
abbrev pub AreAdmitting : BaseView → NodeId → Perm → ℤ → List ℕ → Type 0
AreAdmitting state file permission moment numbers = AreAdmittingFrom state file permission moment 1 state.issues numbers

-- the number of an issue was added to these, if it would admit its principal
abbrev pub AddsAdmitting : BaseView → NodeId → Perm → ℤ → ℕ → Issue → List ℕ → List ℕ → Type 0
AddsAdmitting state file permission moment number issue before after =
    (WouldAdmit state file permission moment issue × (after ≡ before ++ number ∷ [])) ⊎
    ((WouldAdmit state file permission moment issue → ⊥) × (after ≡ before))
