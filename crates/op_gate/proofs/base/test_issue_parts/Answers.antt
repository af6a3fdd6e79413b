-- The statements are found and the proof is checked, or not.
use Rattle.std.proofs.Common.{ℕ, List, refl, sym, subst}
use Rattle.std.specs.Prelude.{Result}
use Rattle.bl_syntax.specs.Grant.{GrantView}
use Rattle.proof_term.specs.Proof.{ProofView}
use Rattle.access_history.specs.declared.event.Issue.{Issue}
use Rattle.policy_statement.specs.Registry.{sayings}
use Rattle.access_history.specs.Books.{whole_book}
use Rattle.access_history.specs.Citing.{IsGoodIssue}
use Rattle.access_history.proofs.CitingLemmas.{AreCited-found}
use Rattle.op_gate.specs.declared.damage.AdmitFault.{AdmitFault}
use Rattle.op_gate.specs.declared.damage.Damage.TheVariants.{Unproved}
use Rattle.op_gate.specs.BaseTests.{TellsTest}
use Rattle.op_gate.proofs.BaseDamageLemmas.{issue_good, issue_unchecked, issue_uncited}
use Rattle.op_gate.proofs.base.test_issue_parts.Goals as goal
use Rattle.op_gate.proofs.base.test_issue_parts.Goals.{in-Ok-check_again, in-Err-check_again}

abbrev issue_of : List ℕ → ProofView → GrantView → Issue
issue_of cited proof g = record { cited = cited; proof = proof; grant = g }

pub check_again-requires-clause-cited : goal.check_again-requires-clause-cited
check_again-requires-clause-cited c = c.in-Ok.ensures.1.numbers_are

pub check_again-requires-clause-rising : goal.check_again-requires-clause-rising
check_again-requires-clause-rising c = AreCited-found (whole_book (sayings c.args.entries.now)) c.args.cited.now c.in-Ok.cites c.in-Ok.ensures.1 c.in-Ok.ensures.0

pub returns-after-check_again : goal.returns-after-check_again
returns-after-check_again c =
    let statements = sayings c.args.entries.now in
    let issue = issue_of c.args.cited.now c.args.proof c.args.grant.now in
    elim c.match-check_again.branch [
      | in-Ok-check_again w ↦ subst (λ (r : Result (Unit {0}) AdmitFault). TellsTest (IsGoodIssue statements issue) Unproved r) (sym w.result-is)
          (issue_good statements issue c.args.cited.now c.args.proof c.in-Ok.cites w.in-Ok-check_again.field-0 refl refl c.in-Ok.ensures w.in-Ok-check_again.ensures)
      | in-Err-check_again w ↦ subst (λ (r : Result (Unit {0}) AdmitFault). TellsTest (IsGoodIssue statements issue) Unproved r) (sym w.result-is)
          (issue_unchecked statements issue c.args.cited.now c.args.proof c.in-Ok.cites w.in-Err-check_again.fault refl refl c.in-Ok.ensures w.in-Err-check_again.ensures)
    ]

pub returns-in-Err : goal.returns-in-Err
returns-in-Err c = issue_uncited (sayings c.args.entries.now) (issue_of c.args.cited.now c.args.proof c.args.grant.now) c.args.cited.now c.in-Err.uncited refl c.in-Err.ensures
