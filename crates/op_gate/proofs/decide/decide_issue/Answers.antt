-- The cited statements stand, or the first that does not is named.
use Rattle.std.proofs.Common.{List, length, ap, subst, ◌∙◌}
use Rattle.std.specs.List.{AllByRecursion}
use Rattle.policy_statement.specs.Registered.{RegisteredView}
use Rattle.proof_verifier.specs.declared.cites.Cite.{Cite}
use Rattle.access_history.specs.Books.{book_of, live_book}
use Rattle.access_history.specs.Citing.{StandsUnderNumber, IsMoved}
use Rattle.access_history.specs.History.{state_of}
use Rattle.access_history.specs.Answer.{moved}
use Rattle.access_history.proofs.CitingLemmas.{AreNamed-stand}
use Rattle.op_gate.proofs.DecisionLemmas.{issued_decided}
use Rattle.op_gate.proofs.decide.decide_issue.Goals as goal

pub returns-in-Some : goal.returns-in-Some
returns-in-Some c = λ clock.
    moved c.args.checked c.in-Some.number
    (subst (λ (cites : List Cite). IsMoved (book_of (state_of c.args.history.now)) cites c.in-Some.number) (c.as_slice.ensures.same ∙ c.cited.ensures.same)
    (subst (λ (es : List RegisteredView). IsMoved (live_book es) c.as_slice.result.now c.in-Some.number) c.statements.ensures.same c.in-Some.ensures))

pub keep_issue-requires : goal.keep_issue-requires
keep_issue-requires c =
    AreNamed-stand (live_book c.statements.result.now) c.args.checked.cited c.cited.ensures.are_cited
    (subst (λ (cites : List Cite). AllByRecursion (StandsUnderNumber (live_book c.statements.result.now)) cites) (c.as_slice.ensures.same ∙ c.cited.ensures.same) c.in-None.ensures)

pub returns-in-None : goal.returns-in-None
returns-in-None c = λ clock.
    issued_decided c.args.history.now c.args.pass clock c.args.checked (length c.issues.result.now) c.keep_issue.result c.cited.ensures.are_cited c.cited.ensures.kept
    (subst (λ (cites : List Cite). AllByRecursion (StandsUnderNumber (book_of (state_of c.args.history.now))) cites) (c.as_slice.ensures.same ∙ c.cited.ensures.same)
    (subst (λ (es : List RegisteredView). AllByRecursion (StandsUnderNumber (live_book es)) c.as_slice.result.now) c.statements.ensures.same c.in-None.ensures))
    (ap length c.issues.ensures) c.keep_issue.ensures
