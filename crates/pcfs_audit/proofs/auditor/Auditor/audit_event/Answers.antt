-- Nothing is found, or a row is added.
use Rattle.std.proofs.Common.{List, [], ap, refl, subst, ◌+◌, ◌++◌, ◌∙◌, ◌∷◌, ℕ, Option}
use Rattle.access_history.specs.Replay.{replay}
use Rattle.pcfs_audit.specs.declared.report.Finding.{Finding}
use Rattle.pcfs_audit.specs.declared.report.ReportRow.{ReportRow}
use Rattle.pcfs_audit.specs.Following.{Follows}
use Rattle.pcfs_audit.proofs.FollowingLemmas.{Follows-same, audited_clean, audits_some}
use Rattle.pcfs_audit.proofs.auditor.Auditor.audit_event.Goals as goal

pub returns-in-None-clause-audits : goal.returns-in-None-clause-audits
returns-in-None-clause-audits c authority base events is audited told has =
    let follows = subst (λ (o : Option Finding). Follows authority (replay base events) c.args.event.now o c.find.new.self) c.in-None.is (c.in_ok-found.ensures.found authority (replay base events) is audited.stands told has) in
    audited_clean authority base events c.args.event.now c.args.self.now _ audited (Follows-same authority (replay base events) c.args.event.now _ c.find.new.self _ refl refl follows) (ap (λ (n : ℕ). n + 1) c.in_ok-found.ensures.count) c.in_ok-found.ensures.rows

pub returns-in_ok-push-in-Some-clause-audits : goal.returns-in_ok-push-in-Some-clause-audits
returns-in_ok-push-in-Some-clause-audits c authority base events is audited told has =
    let follows = subst (λ (o : Option Finding). Follows authority (replay base events) c.args.event.now o c.find.new.self) c.in-Some.is (c.in_ok-found.ensures.found authority (replay base events) is audited.stands told has) in
    let rows = c.in_ok-push-in-Some.ensures.ok ∙ ap (λ (rs : List ReportRow). rs ++ record { event = c.find.new.self.count + 1; finding = c.in-Some.finding } ∷ []) c.in_ok-found.ensures.rows in
    audits_some authority base events c.args.event.now c.args.self.now _ audited c.in-Some.finding c.is_wrong.result c.is_wrong.ensures
    (Follows-same authority (replay base events) c.args.event.now _ c.find.new.self _ refl refl follows) (ap (λ (n : ℕ). n + 1) c.in_ok-found.ensures.count) rows
