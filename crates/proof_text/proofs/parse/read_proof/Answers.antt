-- The descent reads the proof, and nothing may stand after it. What it reads is within the limits.
use Rattle.std.proofs.Common.{sym, subst, rules}
use Rattle.bl_text.proofs.ReadLemmas.{passed}
use Rattle.proof_term.specs.Proof.{proof_view}
use Rattle.proof_text.specs.declared.cursor.ProofCursor.{ProofCursor}
use Rattle.proof_text.specs.Proofs.{IsProof}
use Rattle.proof_text.specs.FirstFaults.{ProofHasFirstFault}
use Rattle.proof_text.specs.Texts.{IsProofText, whole_proof, in_proof, behind_proof}
use Rattle.proof_text.proofs.parse.read_proof.Goals as goal

pub returns-in_err-p-clause-fault : goal.returns-in_err-p-clause-fault
returns-in_err-p-clause-fault c =
    passed c.from_residual.result c.in_err-p.field-0.0 _ (search rules)
    (in_proof _ (subst (λ (here : ProofCursor). ProofHasFirstFault c.args.text.now 200 here c.in_err-p.field-0.0) c.beginning.ensures c.in_err-p.ensures.fault))

pub returns-in_err-at_end-clause-fault : goal.returns-in_err-at_end-clause-fault
returns-in_err-at_end-clause-fault c =
    passed c.from_residual-in_err-at_end.result c.in_err-at_end.field-0.0 _ (search rules)
    (behind_proof c.in_ok-p.there (proof_view c.in_ok-p.p.value) _
    (subst (λ (here : ProofCursor). IsProof c.args.text.now 200 here c.in_ok-p.there (proof_view c.in_ok-p.p.value)) c.beginning.ensures c.in_ok-p.ensures.read.is_text) (sym c.in_err-at_end.ensures))

pub new-requires : goal.new-requires
new-requires c = c.in_ok-p.ensures.read.times

pub returns-clause-read : goal.returns-clause-read
returns-clause-read c =
    subst (IsProofText c.args.text.now) (sym c.in-Ok.ensures.same)
    (whole_proof c.in_ok-p.there
    (subst (λ (here : ProofCursor). IsProof c.args.text.now 200 here c.in_ok-p.there (proof_view c.in_ok-p.p.value)) c.beginning.ensures c.in_ok-p.ensures.read.is_text) (sym c.in_ok-at_end.ensures))
