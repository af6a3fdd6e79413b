use Rattle.std.proofs.Common.{Option, sym, ap, ◌∙◌, subst}
use Rattle.file_world.specs.Attributes.{Attributes, Mark, value_at}
use Rattle.file_world.specs.AttributeEffect.{attributes_of}
use Rattle.attr_state.specs.Index.{AreSorted}
use Rattle.attr_state.proofs.MarkLemmas.{mark_at-kept, mark_at-missing}
use Rattle.attr_state.proofs.refusals.value_kept.Goals as goal

pub value_among-requires : goal.value_among-requires
value_among-requires c = subst AreSorted (sym c.as_slice.ensures.value) (c.requires.sorted c.args.number c.in-Some.mark.now (sym c.in-Some.ensures.value))

pub returns-in-None : goal.returns-in-None
returns-in-None c = sym (ap (λ (m : Option Mark). value_at (attributes_of m) c.args.name.now) (mark_at-missing c.args.marks.now.entries c.args.number (sym c.in-None.ensures.value)))

pub returns-in-Some : goal.returns-in-Some
returns-in-Some c =
    c.value_among.ensures
    ∙ (ap (λ (attributes : Attributes). value_at attributes c.args.name.now) c.as_slice.ensures.value
    ∙ sym (ap (λ (m : Option Mark). value_at (attributes_of m) c.args.name.now) (mark_at-kept c.args.marks.now.entries c.args.number c.in-Some.mark.now (sym c.in-Some.ensures.value))))
