use Rattle.std.proofs.Common.{arith}
use Rattle.nine_messages.proofs.NamesLemmas.{names_are}
use Rattle.nine_messages.proofs.names.names_of.Goals as goal

pub invariant_of-result : goal.invariant_of-result
invariant_of-result c = names_are c.in-Some.count c.args.bytes.now c.in-Some.rest.now (λ i. omega (arith, c.type_inv.bytes i)) c.in-Some.ensures (c.are_filling.ensures.0 c.if-are_filling.true)
