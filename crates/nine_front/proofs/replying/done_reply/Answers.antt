-- It is what an operation returns.
use Rattle.nine_front.proofs.ShortLemmas.{operation_known}
use Rattle.nine_front.proofs.replying.done_reply.Goals as goal

pub unreachable-requires : goal.unreachable-requires
unreachable-requires c = operation_known c.args.replied c.requires.operation c.in_default.not-Operation
