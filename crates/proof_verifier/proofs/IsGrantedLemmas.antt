-- What the verdict gives is a sound grant of the goal.
use Rattle.std.proofs.Common.{◌≡◌, List, sym, subst}
use Rattle.std.specs.Prelude.{Result, Ok, Err, MatchResult, IfOk}
use Rattle.std.specs.List.{AllByRecursion}
use Rattle.bl_syntax.specs.declared.grant.Goal.{Goal}
use Rattle.bl_syntax.specs.Statement.{StatementView, IsStatement}
use Rattle.bl_syntax.specs.Grant.{GrantView}
use Rattle.proof_term.specs.Proof.{ProofView}
use Rattle.proof_term.specs.Limits.{IsKeptProof}
use Rattle.proof_verifier.specs.declared.cites.Cite.{Cite}
use Rattle.proof_verifier.specs.declared.fault.CheckFault.{CheckFault}
use Rattle.proof_verifier.specs.CheckedView.{IsGranted}
use Rattle.proof_verifier.specs.Cited.{statements_of}
use Rattle.proof_verifier.specs.Run.{IsFault}
use Rattle.proof_verifier.specs.Verdict.{verdict, computed_verdict}
use Rattle.proof_verifier.proofs.AgreementLemmas.{verdict-computed}
use Rattle.proof_verifier.proofs.SoundnessVerdict.{SoundGrant-verdict, goal-verdict, IsGrant-verdict}

pub granted : (found cited : List Cite) → found ≡ cited → (wanted : Goal) (proof : ProofView) (grant : GrantView)
    → verdict (statements_of found) wanted proof ≡ Ok grant → AllByRecursion IsStatement (statements_of found) → IsKeptProof proof
    → IsGranted (statements_of cited) wanted proof grant
granted found cited same wanted proof grant verdict_is are_statements kept =
    subst (λ (cites : List Cite). IsGranted (statements_of cites) wanted proof grant) same
    (record {
      verdict_is = verdict_is;
      sound = SoundGrant-verdict (statements_of found) wanted proof grant are_statements kept.times_in_range verdict_is;
      same_goal = goal-verdict (statements_of found) wanted proof grant verdict_is;
      is_grant = IsGrant-verdict (statements_of found) wanted proof grant are_statements kept.times_in_range verdict_is;
    })

-- so is the grant of an answer that follows the verdict
pub granted_if : (found cited : List Cite) → found ≡ cited → (wanted : Goal) (proof : ProofView) (result : Result GrantView CheckFault)
    → MatchResult result (λ grant. verdict (statements_of found) wanted proof ≡ Ok grant) (λ fault. IsFault fault (verdict (statements_of found) wanted proof))
    → IfOk result (λ _. AllByRecursion IsStatement (statements_of found)) → IfOk result (λ _. IsKeptProof proof)
    → IfOk result (λ grant. IsGranted (statements_of cited) wanted proof grant)
granted_if found cited same wanted proof (Ok grant) follows are_statements kept = granted found cited same wanted proof grant follows are_statements kept
granted_if found cited same wanted proof (Err fault) follows are_statements kept = tt

-- what follows the computed verdict on a proof that is kept, from statements, follows the verdict
pub as_verdict : (statements : List StatementView) (wanted : Goal) (proof : ProofView) (result : Result GrantView CheckFault) → AllByRecursion IsStatement statements → IsKeptProof proof
    → MatchResult result (λ grant. computed_verdict statements wanted proof ≡ Ok grant) (λ fault. IsFault fault (computed_verdict statements wanted proof))
    → MatchResult result (λ grant. verdict statements wanted proof ≡ Ok grant) (λ fault. IsFault fault (verdict statements wanted proof))
as_verdict statements wanted proof result are_statements kept follows =
    subst (λ (expected : Result GrantView CheckFault). MatchResult result (λ grant. expected ≡ Ok grant) (λ fault. IsFault fault expected))
    (sym (verdict-computed statements wanted proof are_statements kept.times_in_range)) follows
