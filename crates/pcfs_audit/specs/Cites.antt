-- What is cited by numbers, as an audit finds it (this project's own).
use Rattle.std.specs.Prelude.{ℕ, List}
use Rattle.bl_syntax.specs.Grant.{GrantView}
use Rattle.bl_syntax.specs.Statement.{StatementView}
use Rattle.proof_term.specs.Proof.{ProofView}
use Rattle.proof_verifier.specs.Cited.{AreCited}
use Rattle.proof_verifier.specs.declared.cites.Cite.{Cite}
use Rattle.access_history.specs.Books.{whole_book}
use Rattle.access_history.specs.Citing.{AreFound, IsGoodIssue}

-- they are the statements of these numbers, and can be cited
pub record AreTheirs (statements : List StatementView) (numbers : List ℕ) (cites : List Cite) : Type 0 where
  pub found : AreFound (whole_book statements) numbers cites
  pub cited : AreCited cites

-- no good issue cites these numbers
abbrev pub HasNoIssue : List StatementView → List ℕ → Type 0
HasNoIssue statements numbers = (proof : ProofView) (g : GrantView) →
    IsGoodIssue statements (record { cited = numbers; proof = proof; grant = g }) → ⊥
