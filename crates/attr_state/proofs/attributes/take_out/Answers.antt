-- The attribute at the place of the name goes.
use Rattle.std.proofs.Common.{sym, ◌∙◌, subst}
use Rattle.file_world.specs.Attributes.{Attributes}
use Rattle.attr_state.specs.Index.{AreSorted, IsMarkAt, IsGap}
use Rattle.attr_state.proofs.NameLemmas.{without_value-found, without_value-missing, AreSorted-without}
use Rattle.attr_state.proofs.attributes.take_out.Goals as goal

pub returns-in-Ok-clause-taken : goal.returns-in-Ok-clause-taken
returns-in-Ok-clause-taken c =
    let at = subst (λ (items : Attributes). IsMarkAt items c.args.name.now c.in-Ok.place) c.as_slice.ensures.value c.in-Ok.ensures.found in
    c.remove.ensures.items ∙ sym (without_value-found c.args.attributes.now.items c.args.name.now c.in-Ok.place at)

pub returns-in-Ok-clause-sorted : goal.returns-in-Ok-clause-sorted
returns-in-Ok-clause-sorted c =
    let at = subst (λ (items : Attributes). IsMarkAt items c.args.name.now c.in-Ok.place) c.as_slice.ensures.value c.in-Ok.ensures.found in
    subst AreSorted (sym (c.remove.ensures.items ∙ sym (without_value-found c.args.attributes.now.items c.args.name.now c.in-Ok.place at)))
    (AreSorted-without c.args.attributes.now.items c.args.name.now c.requires)

pub returns-in_default-clause-taken : goal.returns-in_default-clause-taken
returns-in_default-clause-taken c = sym (without_value-missing c.args.attributes.now.items c.args.name.now c.in_default.field-0 (subst (λ (items : Attributes). IsGap items c.args.name.now c.in_default.field-0) c.as_slice.ensures.value c.in_default.ensures.absent))
