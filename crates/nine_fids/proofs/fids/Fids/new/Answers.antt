use Rattle.std.proofs.Common.{sym, subst}
use Rattle.nine_fids.specs.Fids.{AreFids}
use Rattle.nine_fids.proofs.FidLemmas.{AreFids-none}
use Rattle.nine_fids.proofs.fids.Fids.new.Goals as goal

pub invariant_of-result : goal.invariant_of-result
invariant_of-result c = (subst AreFids (sym c.in_ok-with_capacity.ensures.items) AreFids-none, c.in_ok-with_capacity.ensures.capacity)
