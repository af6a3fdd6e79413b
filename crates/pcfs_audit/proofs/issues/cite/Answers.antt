-- Each number is looked up among the statements.
use Rattle.std.proofs.Common.{refl, arith, subst, List}
use Rattle.std.proofs.lemmas.List.{take_all}
use Rattle.access_history.specs.Books.{whole_book}
use Rattle.access_history.specs.Citing.{AreFound}
use Rattle.op_gate.proofs.CheckLemmas.{is_so, is_not_so}
use Rattle.pcfs_audit.specs.Papers.{shown}
use Rattle.pcfs_audit.proofs.CitesLemmas.{beyond_absent, found_more, no_statement, not_citable, theirs, zero_absent}
use Rattle.pcfs_audit.proofs.issues.cite.Goals as goal
use Rattle.pcfs_audit.proofs.issues.cite.Goals.{then-number-eq0-via-then-number-eq0, then-number-eq0-via-else-number-eq0+then-statements-number}

pub returns-then-not-are_citable : goal.returns-then-not-are_citable
returns-then-not-are_citable c = not_citable (shown c.args.statements.now) c.args.numbers.now (is_not_so _ _ c.are_citable.ensures c.if-not-are_citable.true)

pub returns-then-number-eq0 : goal.returns-then-number-eq0
returns-then-number-eq0 c =
    no_statement c.args.statements.now c.args.numbers.now c.loop-number.number-index _ c.loop-number.cites.items c.loop-number-test.true refl c.loop-number.invariant
    (elim c.then-number-eq0.branch [
      | then-number-eq0-via-then-number-eq0 w ↦ zero_absent c.args.statements.now _ w.if-number-eq0.true
      | then-number-eq0-via-else-number-eq0+then-statements-number w ↦ beyond_absent c.args.statements.now _ w.if-statements-number.true
    ])

pub loop-number-preserved : goal.loop-number-preserved
loop-number-preserved c =
    found_more c.args.statements.now c.args.numbers.now c.loop-number.number-index _ c.loop-number.cites.items c.push.new.self.items c.index-statements-number.result c.in_ok-copy.field-0 c.loop-number-test.true refl c.loop-number.invariant
    c.if-number-eq0.false (omega (arith, c.if-statements-number.false)) c.index-statements-number.is c.in_ok-copy.ensures c.in_ok-push.ensures.items

pub returns : goal.returns
returns c =
    theirs (shown c.args.statements.now) c.args.numbers.now c.loop-number.cites.items c.new.result c.new.ensures
    (subst (λ (ns : List _). AreFound (whole_book (shown c.args.statements.now)) ns c.loop-number.cites.items) (take_all c.loop-number.number-index c.args.numbers.now (omega (arith, c.loop-number-test.false))) c.loop-number.invariant)
    (is_so _ _ c.are_citable.ensures c.if-not-are_citable.false)
