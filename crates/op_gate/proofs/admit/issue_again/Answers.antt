-- The proof is checked again and its grant is pending, or it is not.
use Rattle.std.proofs.Common.{◌≡◌, List, sym, subst, ◌∙◌}
use Rattle.std.specs.Prelude.{IfOk}
use Rattle.bl_syntax.specs.Grant.{MayName}
use Rattle.proof_verifier.specs.Cited.{AreCited}
use Rattle.op_gate.specs.declared.planned.Pending.{Pending}
use Rattle.op_gate.specs.Admits.{pending_issue}
use Rattle.access_history.specs.Citing.{issued_grant, numbers_of}
use Rattle.op_gate.proofs.AdmitLemmas.{issued_told, issued_unchecked}
use Rattle.op_gate.proofs.FittingLemmas.{numbers_few}
use Rattle.op_gate.proofs.admit.issue_again.Goals as goal

pub issue-requires-clause-few : goal.issue-requires-clause-few
issue-requires-clause-few c = numbers_few c.in-Ok.checked.cited (subst AreCited (sym c.in-Ok.ensures.cited_is) c.requires.rising)

pub issue-requires-clause-named : goal.issue-requires-clause-named
issue-requires-clause-named c = subst MayName (sym (c.in-Ok-copy_numbers.ensures ∙ c.cited.ensures.same)) c.cited.ensures.kept.names

pub returns-in-Ok-copy_numbers : goal.returns-in-Ok-copy_numbers
returns-in-Ok-copy_numbers c =
    let named_is = c.in-Ok-copy_numbers.ensures ∙ c.cited.ensures.same in
    issued_told c.args.pass c.args.cites c.args.proof c.args.grant.now c.in-Ok.checked c.issue.result c.in-Ok.ensures
    (subst (λ (ns : List _). IfOk c.issue.result (λ (pending : Pending). pending ≡ pending_issue c.args.pass (numbers_of c.in-Ok.checked.cited) c.in-Ok.checked.proof (issued_grant c.in-Ok.checked.grant ns))) named_is c.issue.ensures.ok)
    c.issue.ensures.err

pub returns-in-Err : goal.returns-in-Err
returns-in-Err c = issued_unchecked c.args.pass c.args.cites c.args.proof c.args.grant.now c.in-Err.fault c.in-Err.ensures
