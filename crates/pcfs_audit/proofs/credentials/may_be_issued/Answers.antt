-- What it cites stands, and it is good; or not.
use Rattle.std.proofs.Common.{List, Option, ap, subst, sym, take, ◌∙◌, ℕ}
use Rattle.std.specs.Borrow.{Bor}
use Rattle.std.specs.Prelude.{IsTrue, ◌↔◌}
use Rattle.bl_syntax.specs.Statement.{StatementView}
use Rattle.rayon.proofs.ListFacts.{IfOk-then}
use Rattle.access_history.specs.Citing.{IsGoodIssue}
use Rattle.pcfs_audit.specs.Ends.{first_end, is_past}
use Rattle.pcfs_audit.specs.Papers.{shown}
use Rattle.pcfs_audit.proofs.CitesLemmas.{is_false}
use Rattle.pcfs_audit.proofs.CredentialLemmas.{issued_past, issued_standing}
use Rattle.pcfs_audit.proofs.ReferenceLemmas.{shown_take}
use Rattle.pcfs_audit.proofs.credentials.may_be_issued.Goals as goal

pub returns-then-is_past : goal.returns-then-is_past
returns-then-is_past c state told_by =
    let ends = c.args.dossier.now.papers.ends.items in
    let told = c.is_past.ensures ∙ ap (λ (end : Option ℕ). is_past end c.args.place) (c.first_end.ensures ∙ ap (λ (es : List (Option ℕ)). first_end es c.args.cited.now) c.as_slice-ends.ensures.value) in
    is_false (issued_past state ends c.args.place told_by.ended (record { cited = c.args.cited.now; proof = c.args.proof.now; grant = c.args.grant.now }) (sym told ∙ c.if-is_past.true))

pub returns : goal.returns
returns c =
    let items = c.args.dossier.now.papers.statements.items in
    let ends = c.args.dossier.now.papers.ends.items in
    let told = c.is_past.ensures ∙ ap (λ (end : Option ℕ). is_past end c.args.place) (c.first_end.ensures ∙ ap (λ (es : List (Option ℕ)). first_end es c.args.cited.now) c.as_slice-ends.ensures.value) in
    IfOk-then c.is_good_issue.result _ _ c.is_good_issue.ensures (λ good decides state told_by.
    let sliced = subst (λ (rs : List (Bor StatementView)). IsTrue good ↔ IsGoodIssue (shown (take c.args.before.statements rs)) (record { cited = c.args.cited.now; proof = c.args.proof.now; grant = c.args.grant.now })) c.as_slice-statements.ensures.value decides in
    let taken = subst (λ (ss : List StatementView). IsTrue good ↔ IsGoodIssue ss (record { cited = c.args.cited.now; proof = c.args.proof.now; grant = c.args.grant.now })) (shown_take items c.args.before.statements ∙ sym told_by.said) sliced in
    issued_standing state ends c.args.place told_by.ended (record { cited = c.args.cited.now; proof = c.args.proof.now; grant = c.args.grant.now }) good (sym told ∙ c.if-is_past.false) taken)
