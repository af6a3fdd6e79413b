-- The proof is checked again, and its grant compared.
use Rattle.std.proofs.Common.{sym, ap, subst, ◌∙◌, List}
use Rattle.std.specs.Prelude.{Err}
use Rattle.bl_syntax.specs.declared.grant.Goal.{Goal}
use Rattle.proof_term.specs.Proof.{ProofView}
use Rattle.proof_verifier.specs.declared.cites.Cite.{Cite}
use Rattle.proof_verifier.specs.Cited.{statements_of}
use Rattle.proof_verifier.specs.CheckedView.{CheckedView}
use Rattle.proof_verifier.specs.Run.{IsFault}
use Rattle.proof_verifier.specs.Verdict.{verdict}
use Rattle.access_history.specs.Citing.{numbers_of}
use Rattle.op_gate.specs.declared.damage.AdmitFault.{AdmitFault}
use Rattle.op_gate.specs.Admits.{GivesChecked}
use Rattle.op_gate.proofs.AdmitLemmas.{not_granted}
use Rattle.op_gate.proofs.admit.check_again.Goals as goal

pub granting-requires-clause-goal : goal.granting-requires-clause-goal
granting-requires-clause-goal c = ap (λ (k : CheckedView). k.goal) c.in-Ok.ensures.ok ∙ c.goal.ensures

pub granting-requires-clause-cited : goal.granting-requires-clause-cited
granting-requires-clause-cited c = ap (λ (k : CheckedView). numbers_of k.cited) c.in-Ok.ensures.ok ∙ c.requires.cited

pub returns-in-Ok : goal.returns-in-Ok
returns-in-Ok c =
    subst (λ (cs : List Cite). GivesChecked cs c.args.proof c.args.grant.now c.granting.result) (ap (λ (k : CheckedView). k.cited) c.in-Ok.ensures.ok)
    (subst (λ (p : ProofView). GivesChecked c.in-Ok.checked.cited p c.args.grant.now c.granting.result) (ap (λ (k : CheckedView). k.proof) c.in-Ok.ensures.ok) c.granting.ensures)

pub returns-in-Err : goal.returns-in-Err
returns-in-Err c =
    subst (λ (f : AdmitFault). GivesChecked c.args.cites c.args.proof c.args.grant.now (Err f)) (sym c.proof_damage.ensures)
    (not_granted c.args.cites c.args.proof c.args.grant.now c.in-Err.fault
    (subst (λ (w : Goal). IsFault c.in-Err.fault (verdict (statements_of c.args.cites) w c.args.proof)) c.goal.ensures c.in-Err.ensures.fault))
