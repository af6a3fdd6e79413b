use Rattle.std.proofs.Common.{arith}
use Rattle.pcfs_ports.specs.Stopped.{stopped_after}
use Rattle.pcfs_ports.proofs.StoppedLemmas.{stopped_more}
use Rattle.pcfs_ports.proofs.image.leave_stopped.Goals as goal

pub loop-call-preserved : goal.loop-call-preserved
loop-call-preserved c =
    let fill = c.args.fill in
    let kept = c.args.kept in
    let start = c.args.start.now in
    let made = c.args.made.now in
    stopped_more fill kept c.loop-call.image.items c.loop-call.left.items c.do_both.new.image.items c.do_both.new.left.items made c.loop-call.call-index c.call-item.result (stopped_after fill kept start start made)
    (omega arith) c.call-item.is c.in_ok-do_both.ensures.image c.in_ok-do_both.ensures.left c.loop-call.invariant
