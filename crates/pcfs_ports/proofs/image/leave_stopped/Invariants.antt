use Rattle.std.proofs.Common.{◌≡◌, drop}
use Rattle.pcfs_ports.specs.Stopped.{stopped_after}
use Rattle.pcfs_ports.proofs.image.leave_stopped.Given as goal

abbrev pub invariant-loop-call : goal.invariant-loop-call
invariant-loop-call l =
    stopped_after l.fill l.kept l.image.items l.left.items (drop l.call-index l.made)
    ≡ stopped_after l.fill l.kept l.start l.start l.made
