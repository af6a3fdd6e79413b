-- Which states have an image, beyond what their type says. This project's own.
use Rattle.std.specs.Prelude.{◌≡◌, ℕ, ℤ, List, ◌∷◌, ◌++◌}
use Rattle.bl_syntax.specs.TimeOrder.{IsMoment}
use Rattle.policy_statement.specs.Registered.{RegisteredView}
use Rattle.file_world.specs.World.{World}
use Rattle.access_history.specs.declared.event.Issue.{Issue}
use Rattle.access_history.specs.Base.{BaseView}
use Rattle.checkpoint_image.specs.ImageSpelling.{head_spelling, statements_spelling, issues_spelling, image_spelling, AreSpelledIn, HasFittingSignature, HasFewCited}
use Rattle.checkpoint.specs.Reading.{IsImageOf}

-- the moment is in its range, and the statements with their signatures, and the issues with the
-- numbers that they cite, fit their fields
pub record FitsImage (base : BaseView) : Type 0 where
  pub moment : IsMoment base.moment
  pub statements : AreSpelledIn HasFittingSignature base.statements
  pub issues : AreSpelledIn HasFewCited base.issues

-- The bytes are the image that is written of a state. Other images of it may be read.
pub record IsWrittenImageOf (base : BaseView) (image : List ℕ) : Type 0 where
  pub is_image : IsImageOf base image
  pub written : image ≡ image_spelling base

-- the state of these parts
abbrev pub state_with : World → List RegisteredView → List Issue → ℤ → ℕ → BaseView
state_with world statements issues moment count = record { world = world; statements = statements; issues = issues; moment = moment; count = count }

-- what stands before the nodes in the image of a state
abbrev pub front_spelling : List RegisteredView → List Issue → ℤ → ℕ → ℕ → List ℕ
front_spelling statements issues moment count next = 2 ∷ (head_spelling moment count next ++ (statements_spelling statements ++ issues_spelling issues))
