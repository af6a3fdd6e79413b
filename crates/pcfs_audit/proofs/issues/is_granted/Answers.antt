-- The verdict is this grant, naming what is cited or not; or it is another.
use Rattle.std.proofs.Common.{List, ℕ, sym, subst}
use Rattle.std.specs.Prelude.{◌↔◌, IsTrue}
use Rattle.access_history.specs.Citing.{IsGrantOf}
use Rattle.pcfs_audit.proofs.CitesLemmas.{granted_same}
use Rattle.pcfs_audit.proofs.issues.is_granted.Goals as goal

pub returns-in-Ok : goal.returns-in-Ok
returns-in-Ok c =
    granted_same c.args.cites.now c.goal-goal.result c.args.proof.now c.in-Ok.granted c.args.grant.now c.is_grant_of.result c.goal-goal.ensures c.in-Ok.ensures.granted
    (subst (λ (ns : List ℕ). IsTrue c.is_grant_of.result ↔ IsGrantOf c.in-Ok.granted ns c.args.grant.now) (sym c.requires.cited) c.is_grant_of.ensures)
