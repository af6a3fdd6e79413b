-- What a checked proof keeps: the cited statements, the goal, the proof and the grant, which is the
-- verdict on them and sound for the statements.
use Rattle.std.specs.Prelude.{◌≡◌, List, Ok}
use Rattle.bl_syntax.specs.declared.grant.Goal.{Goal}
use Rattle.bl_syntax.specs.Statement.{StatementView}
use Rattle.bl_syntax.specs.Grant.{GrantView, IsGrant}
use Rattle.bl_rules.specs.Allowed.{SoundGrant}
use Rattle.proof_term.specs.Proof.{ProofView}
use Rattle.proof_verifier.specs.declared.cites.Cite.{Cite}
use Rattle.proof_verifier.specs.Cited.{statements_of}
use Rattle.proof_verifier.specs.Verdict.{verdict}

-- the grant is the verdict on the proof of the goal from the statements, and sound for them; it
-- grants that goal, by conditions that a grant may have
pub record IsGranted (statements : List StatementView) (goal : Goal) (proof : ProofView) (granted : GrantView) : Type 0 where
  pub verdict_is : verdict statements goal proof ≡ Ok granted
  pub sound : SoundGrant statements granted
  pub same_goal : granted.goal ≡ goal
  pub is_grant : IsGrant granted

-- a checked proof
pub record CheckedView : Type 0 where
  pub cited : List Cite
  pub goal : Goal
  pub proof : ProofView
  pub grant : GrantView

abbrev pub checked_view : List Cite → Goal → ProofView → GrantView → CheckedView
checked_view cited goal proof grant = record { cited = cited; goal = goal; proof = proof; grant = grant }

-- its grant is the verdict on the others, and sound for the cited statements
abbrev pub IsChecked : CheckedView → Type 0
IsChecked c = IsGranted (statements_of c.cited) c.goal c.proof c.grant
