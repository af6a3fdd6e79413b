-- A call begins with a name.
use Rattle.bl_text.proofs.ReadLemmas.{is_call-name}
use Rattle.bl_text.proofs.formulas.call.Goals as goal

pub unreachable-requires : goal.unreachable-requires
unreachable-requires c = let named = is_call-name c.args.text.now c.args.here.now c.requires.call in c.in_default.not-Name named.0 named.1
