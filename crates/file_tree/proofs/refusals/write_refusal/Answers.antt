use Rattle.std.proofs.Common.{arith, length}
use Rattle.file_tree.proofs.WalkLemmas.{length_after_le}
use Rattle.file_tree.proofs.refusals.write_refusal.Goals as goal

pub size_refusal-requires-clause-within : goal.size_refusal-requires-clause-within
size_refusal-requires-clause-within c =
    omega (arith, length_after_le c.length_at.result c.args.offset (length c.args.bytes.now), c.written_length-after.ensures, c.length_at.ensures, c.in-Some-checked_add.ensures.1)
