use Rattle.std.proofs.Common.{arith, sym, ◌∙◌}
use Rattle.node_rows.proofs.NameLengthLemmas.{short_name_or_none}
use Rattle.node_rows.proofs.names.node_name_or_none.Goals as goal

pub new-requires : goal.new-requires
new-requires c = (omega arith, (short_name_or_none c.args.name.now (sym c.is_name_or_none.ensures ∙ c.if-is_name_or_none.true), omega arith))
