-- Each line is added, up to the first that adds nothing.
use Rattle.std.proofs.Common.{arith, subst, sym}
use Rattle.line_text.specs.Lines.{lines_of}
use Rattle.mode_policy.specs.Table.{TableView}
use Rattle.mode_policy.proofs.ReadingLemmas.{HasAdded, HasAdded-nothing, HasAdded-more, fault_told, all_added}
use Rattle.mode_policy.proofs.table.ModeTable.parse.Goals as goal

pub loop-line-init : goal.loop-line-init
loop-line-init c = subst (λ (t : TableView). HasAdded c.args.text.now t c.args.text.now 0) (sym c.new-table.ensures) (HasAdded-nothing c.args.text.now)

pub returns-in-Err : goal.returns-in-Err
returns-in-Err c =
    rw c.fault_at.ensures
    (fault_told c.args.text.now c.loop-line.table c.add_line.new.table c.loop-line.rest.now c.in-Some.line.now (lines_of c.in-Some.others.now) c.loop-line.place c.in-Err.fault c.loop-line.invariant
    c.in-Some.ensures.lines c.in-Err.ensures)

pub loop-line-preserved : goal.loop-line-preserved
loop-line-preserved c =
    HasAdded-more c.args.text.now c.loop-line.table c.add_line.new.table c.loop-line.rest.now c.in-Some.line.now c.in-Some.others.now c.loop-line.place c.loop-line.invariant c.in-Some.ensures.lines
    (omega (arith, c.in-Some.ensures.shorter)) c.in-Ok.ensures

pub returns : goal.returns
returns c = all_added c.args.text.now c.loop-line.table c.loop-line.rest.now c.loop-line.place c.loop-line.invariant c.in_default.ensures.lines
