-- A number that is there keeps its place, and for another there is room.
use Rattle.std.proofs.Common.{sym, subst, arith}
use Rattle.nine_fids.specs.Fids.{FidList, AreFids, HasRoomFor}
use Rattle.nine_fids.proofs.FidLemmas.{fits_with, AreFids-with}
use Rattle.nine_fids.proofs.fids.Fids.put.Goals as goal

pub put-requires-clause-room : goal.put-requires-clause-room
put-requires-clause-room c =
    let room = subst (λ (fids : FidList). HasRoomFor fids c.args.number) (sym c.self.view_is) c.requires in
    let fits = fits_with c.self.inside.entries.items c.args.number c.args.fid c.self.invariant.0 room in
    omega (arith, fits, c.self.invariant.1)

pub invariant_of-self : goal.invariant_of-self
invariant_of-self c =
    let room = subst (λ (fids : FidList). HasRoomFor fids c.args.number) (sym c.self.view_is) c.requires in
    (subst AreFids (sym c.put.ensures.put) (AreFids-with c.self.inside.entries.items c.args.number c.args.fid c.self.invariant.0 room), omega (arith, c.put.ensures.room, c.self.invariant.1))
