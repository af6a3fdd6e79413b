-- A line is signed, or it decides the status; or no line is left.
use Rattle.std.proofs.Common.{arith}
use Rattle.root_signing.proofs.SignLemmas.{HasSigned-more, all_are_signed, line_decides}
use Rattle.root_signing.proofs.signing.sign_lines.Goals as goal

pub returns-in-Some-2 : goal.returns-in-Some-2
returns-in-Some-2 c =
    let decides = rw c.in-Some-2.is at c.in_ok-status.ensures in
    line_decides c.args.signer.now c.args.lines.now c.args.out.now c.loop-line.signer c.sign_line.new.signer c.loop-line.rest.now c.loop-line.out c.in-Some.line.now c.in-Some.others.now c.sign_line.new.out c.loop-line.number c.in-Some-2.status
    c.loop-line.invariant c.in-Some.ensures.lines decides

pub loop-line-preserved : goal.loop-line-preserved
loop-line-preserved c =
    let signed = rw c.in_default-2.is at c.in_ok-status.ensures in
    HasSigned-more c.args.signer.now c.args.lines.now c.args.out.now c.loop-line.signer c.sign_line.new.signer c.loop-line.rest.now c.loop-line.out c.in-Some.line.now c.in-Some.others.now c.sign_line.new.out c.loop-line.number
    c.loop-line.invariant c.in-Some.ensures.lines (omega (arith, c.in-Some.ensures.shorter)) signed

pub returns : goal.returns
returns c = all_are_signed c.args.signer.now c.args.lines.now c.args.out.now c.loop-line.signer c.loop-line.rest.now c.loop-line.out c.loop-line.number c.loop-line.invariant c.in_default.ensures.lines
