use Rattle.std.proofs.Common.{sym}
use Rattle.attr_state.proofs.NameLemmas.{value_at-found, value_at-missing}
use Rattle.attr_state.proofs.attributes.value_among.Goals as goal

pub returns-in-Ok : goal.returns-in-Ok
returns-in-Ok c = sym (value_at-found c.args.attributes.now c.args.name.now c.in-Ok.place c.index-attributes-place.result c.in-Ok.ensures.found)

pub returns-in-Err : goal.returns-in-Err
returns-in-Err c = sym (value_at-missing c.args.attributes.now c.args.name.now _ c.in-Err.ensures.absent)
