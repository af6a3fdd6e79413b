use Rattle.std.proofs.Common.{arith}
use Rattle.nine_messages.proofs.MessageLemmas.{read_as_spelled}
use Rattle.nine_messages.proofs.request_reading.read_message.Goals as goal

pub returns : goal.returns
returns c =
    let it = read_as_spelled c.args.bytes.now c.message_of.result (λ i. omega (arith, c.type_inv.bytes i)) c.message_of.ensures in
    record { found = it.found; none = it.none }
