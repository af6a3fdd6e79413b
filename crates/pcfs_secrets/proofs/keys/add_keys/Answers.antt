-- Each line gives its key, up to the first that gives none.
use Rattle.std.proofs.Common.{refl, arith}
use Rattle.line_text.specs.Lines.{lines_of}
use Rattle.pcfs_secrets.proofs.RingLemmas.{HasAdded-more, bad_here}
use Rattle.pcfs_secrets.proofs.keys.add_keys.Goals as goal

pub returns-then-not-branch-clause-err : goal.returns-then-not-branch-clause-err
returns-then-not-branch-clause-err c =
    let none = rw c.if-not-branch.true at c.in_ok-add_key.ensures in
    (c.loop-line.place, bad_here c.args.ring.now c.args.text.now c.loop-line.ring c.loop-line.rest.now c.in-Some.line.now (lines_of c.in-Some.others.now) c.loop-line.place c.loop-line.invariant c.in-Some.ensures.lines none.0, refl)

pub loop-line-preserved : goal.loop-line-preserved
loop-line-preserved c =
    let added = rw c.if-not-branch.false at c.in_ok-add_key.ensures in
    HasAdded-more c.args.ring.now c.args.text.now c.loop-line.ring c.add_key.new.ring c.loop-line.rest.now c.in-Some.line.now c.in-Some.others.now added.0 c.loop-line.place
    c.loop-line.invariant c.in-Some.ensures.lines (omega (arith, c.in-Some.ensures.shorter)) added.1 added.2
