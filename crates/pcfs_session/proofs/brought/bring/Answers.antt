-- The word's own procap, or that of the issue that it names.
use Rattle.op_gate.proofs.IssuedLemmas.{found_some}
use Rattle.pcfs_session.proofs.BroughtLemmas.{brings_own, brings_issued}
use Rattle.pcfs_session.proofs.brought.bring.Goals as goal

pub returns-in_ok-copy-in-Procap : goal.returns-in_ok-copy-in-Procap
returns-in_ok-copy-in-Procap c = brings_own _ _ _ c.in-Procap.procap c.in_ok-copy-in-Procap.field-0 c.in-Procap.is c.in_ok-copy-in-Procap.ensures

pub returns-in-Some : goal.returns-in-Some
returns-in-Some c = brings_issued _ _ _ c.in-Issue.number c.in-Some.procap c.in-Issue.is (found_some _ _ c.in-Issue.number c.in_ok-procap-in-Issue.field-0 c.in-Some.procap c.in-Some.is c.in_ok-procap-in-Issue.ensures)
