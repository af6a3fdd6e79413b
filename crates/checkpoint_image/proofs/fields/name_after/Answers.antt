use Rattle.std.proofs.Common.{arith, sym, ◌∙◌}
use Rattle.node_rows.proofs.NameLengthLemmas.{short_attribute_name}
use Rattle.checkpoint_image.proofs.FieldLemmas.{name_after_parts}
use Rattle.checkpoint_image.proofs.fields.name_after.Goals as goal

pub new-requires : goal.new-requires
new-requires c = (omega arith, ((short_attribute_name c.args.name.now (name_after_parts c.args.previous.now c.args.name.now (sym c.is_name_after.ensures ∙ c.if-is_name_after.true)).0).not_above, omega arith))
