-- Issues by their numbers (this project's own).
use Rattle.std.specs.Prelude.{◌≡◌, ℕ, List}
use Rattle.bl_syntax.specs.Grant.{GrantView}
use Rattle.access_history.specs.declared.event.Issue.{Issue}
use Rattle.access_history.specs.Numbered.{IsNumbered}

-- the grant is that of the issue of that number
pub record IsIssued (issues : List Issue) (number : ℕ) (g : GrantView) : Type 0 where
  pub issue : Issue
  pub numbered : IsNumbered issues number issue
  pub grant_is : g ≡ issue.grant
