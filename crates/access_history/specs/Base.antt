-- A state of the server, as plain data (this project's own).
use Rattle.std.specs.Prelude.{ℕ, ℤ, List}
use Rattle.policy_statement.specs.Registered.{RegisteredView}
use Rattle.file_world.specs.World.{World}
use Rattle.access_history.specs.declared.event.Issue.{Issue}

-- the world, the statements and issues under their numbers from 1, the greatest moment so far, and
-- how many events led to it
pub record BaseView : Type 0 where
  pub world : World
  pub statements : List RegisteredView
  pub issues : List Issue
  pub moment : ℤ
  pub count : ℕ
