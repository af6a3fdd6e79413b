use Rattle.bl_codec.proofs.StatementCodec.{statement_codec}
use Rattle.bl_codec.proofs.laws.statements_are_a_codec.Goals as goal

pub returns : goal.returns
returns c = statement_codec
