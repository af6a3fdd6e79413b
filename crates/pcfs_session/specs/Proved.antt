-- What a proof from cited statements comes to (this project's own).
use Rattle.std.specs.Prelude.{◌≡◌, ℕ, List, Ok, Err}
use Rattle.bl_syntax.specs.declared.grant.Goal.{Goal}
use Rattle.bl_syntax.specs.Grant.{GrantView}
use Rattle.proof_term.specs.Proof.{ProofView}
use Rattle.proof_verifier.specs.declared.cites.Cite.{Cite}
use Rattle.proof_verifier.specs.declared.fault.CheckFault.{CheckFault}
use Rattle.proof_verifier.specs.Cited.{statements_of}
use Rattle.proof_verifier.specs.Verdict.{verdict}
use Rattle.access_history.specs.Books.{Book}
use Rattle.access_history.specs.Citing.{AreFound, IsAbsent}
use Rattle.access_history.specs.declared.reply.StepReply.TheVariants.{Absent}
use Rattle.line_wire.specs.declared.reply.LineReply.{LineReply}
use Rattle.line_wire.specs.declared.reply.LineReply.TheVariants as replies

-- why the proof of a goal from the statements of these numbers proves nothing: a statement is not
-- there, or the proof has a fault
pub data IsUnproved (book : Book) (goal : Goal) (numbers : List ℕ) (proof : ProofView) : LineReply →
    Type 0 where
  cites_none : (number : ℕ) → IsAbsent book numbers number →
      IsUnproved book goal numbers proof (replies.Step (Absent number))
  proves_none : (cites : List Cite) (fault : CheckFault) → AreFound book numbers cites →
      verdict (statements_of cites) goal proof ≡ Err fault →
      IsUnproved book goal numbers proof (replies.Unproved fault)

-- the statements of these numbers, and the grant that is the verdict on the proof of the goal from
-- them
pub record IsProved (book : Book) (goal : Goal) (numbers : List ℕ) (proof : ProofView) (cites : List Cite) (g : GrantView) : Type 0 where
  pub found : AreFound book numbers cites
  pub verdict_is : verdict (statements_of cites) goal proof ≡ Ok g
