-- An issue is counted; nothing else makes one.
use Rattle.std.proofs.Common.{arith, refl, subst, sym}
use Rattle.journal_records.specs.declared.event.Event.{Event}
use Rattle.access_history.specs.Replay.{next_state}
use Rattle.pcfs_audit.specs.Supports.{FollowIssues}
use Rattle.pcfs_audit.proofs.PapersLemmas.{counted}
use Rattle.pcfs_audit.proofs.SupportsLemmas.{follow_same, follow_unmoved}
use Rattle.pcfs_audit.proofs.supports.Supports.follow.Goals as goal

pub overflow_add-self : goal.overflow_add-self
overflow_add-self c =
    omega (arith, c.requires.within, counted c.args.dossier.now.base.now c.args.dossier.now.events.now c.args.dossier.now.papers c.requires.dossier.papers_are, c.args.dossier.now.papers.before.ok.0)

pub returns-in-Registered-clause-follow : goal.returns-in-Registered-clause-follow
returns-in-Registered-clause-follow c state follow =
    follow_unmoved c.args.dossier.now state c.args.event.now _ c.args.self.now _ c.in-Registered.is refl refl follow

pub returns-in-Withdrawn-clause-follow : goal.returns-in-Withdrawn-clause-follow
returns-in-Withdrawn-clause-follow c state follow =
    follow_unmoved c.args.dossier.now state c.args.event.now _ c.args.self.now _ c.in-Withdrawn.is refl refl follow

pub returns-in-Issued-clause-follow : goal.returns-in-Issued-clause-follow
returns-in-Issued-clause-follow c state follow =
    subst (λ (e : Event). FollowIssues c.args.dossier.now (next_state state e).issues c.follow_issue.new.self) (sym c.in-Issued.is)
    (c.follow_issue.ensures.follow state.issues (record { cited = c.in-Issued.cited; proof = c.in-Issued.proof; grant = c.in-Issued.grant }) refl (sym c.as_slice.ensures) (follow_same c.args.dossier.now state.issues c.args.self.now _ refl follow))

pub returns-in-Acted-clause-follow : goal.returns-in-Acted-clause-follow
returns-in-Acted-clause-follow c state follow =
    follow_unmoved c.args.dossier.now state c.args.event.now _ c.args.self.now _ c.in-Acted.is refl refl follow
