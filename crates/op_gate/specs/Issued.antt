-- The procaps of issues (this project's own).
use Rattle.std.specs.Prelude.{◌≡◌, ℕ, List}
use Rattle.procap.specs.declared.procap.Procap.{Procap}
use Rattle.access_history.specs.declared.event.Issue.{Issue}
use Rattle.access_history.specs.Authority.{procap_of}
use Rattle.access_history.specs.Numbered.{IsNumbered}

-- the procap is the one of the issue of that number, sealed under the key
pub record IsProcapOf (key : List ℕ) (issues : List Issue) (number : ℕ) (p : Procap) : Type 0 where
  pub issue : Issue
  pub numbered : IsNumbered issues number issue
  pub procap_is : p ≡ procap_of key issue.grant
