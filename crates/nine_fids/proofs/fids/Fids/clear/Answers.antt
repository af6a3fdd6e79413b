use Rattle.std.proofs.Common.{sym, subst, arith}
use Rattle.nine_fids.specs.Fids.{AreFids}
use Rattle.nine_fids.proofs.FidLemmas.{AreFids-none}
use Rattle.nine_fids.proofs.fids.Fids.clear.Goals as goal

pub invariant_of-self : goal.invariant_of-self
invariant_of-self c = (subst AreFids (sym c.clear.ensures.items) AreFids-none, omega (arith, c.clear.ensures.capacity, c.self.invariant.1))
