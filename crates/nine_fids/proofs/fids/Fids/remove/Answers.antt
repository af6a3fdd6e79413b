use Rattle.std.proofs.Common.{sym, subst, arith}
use Rattle.nine_fids.specs.Fids.{AreFids}
use Rattle.nine_fids.proofs.FidLemmas.{AreFids-without}
use Rattle.nine_fids.proofs.fids.Fids.remove.Goals as goal

pub invariant_of-self : goal.invariant_of-self
invariant_of-self c =
    (subst AreFids (sym c.take_out.ensures.taken) (AreFids-without c.self.inside.entries.items c.args.number c.self.invariant.0), omega (arith, c.take_out.ensures.room, c.self.invariant.1))
