-- No more passes were taken in than were made, and their count fits.
use Rattle.std.proofs.Common.{arith}
use Rattle.tree_lock.proofs.NumberLemmas.{retired-le}
use Rattle.nine_service.proofs.service.served_after.Goals as goal

pub overflow_add-result : goal.overflow_add-result
overflow_add-result g c = let few = retired-le c.args.door.now.made c.args.door.now.retired c.requires.numbers in omega (arith, few, c.requires.fewer, c.pass_count-made.ensures)
