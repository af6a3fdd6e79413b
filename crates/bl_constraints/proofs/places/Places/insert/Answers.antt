use Rattle.std.proofs.Common.{arith}
use Rattle.bl_constraints.proofs.PlaceLemmas.{insert_has}
use Rattle.bl_constraints.proofs.places.Places.insert.Goals as goal

pub returns : goal.returns
returns c = insert_has c.args.self.now.words c.args.place (omega arith) c.requires
