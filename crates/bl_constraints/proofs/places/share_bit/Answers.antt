use Rattle.std.proofs.Common.{arith}
use Rattle.bl_constraints.proofs.PlaceLemmas.{sharing_told, sharing_test}
use Rattle.bl_constraints.proofs.places.share_bit.Goals as goal

pub returns : goal.returns
returns c = (sharing_told c.args.word c.args.other (omega arith), sharing_test c.args.word c.args.other)
