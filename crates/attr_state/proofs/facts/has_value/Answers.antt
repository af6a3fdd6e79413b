use Rattle.std.proofs.Common.{List, ℕ, IsTrue, false, sym, ap, ◌∙◌, subst}
use Rattle.std.specs.Prelude.{◌↔◌, Contains}
use Rattle.bl_syntax.specs.declared.terms.Term.{Term}
use Rattle.bl_syntax.specs.declared.terms.StatePred.TheVariants.{HasXattr}
use Rattle.file_world.specs.Attributes.{Attributes, value_at}
use Rattle.file_world.specs.Facts.{facts_of_marks}
use Rattle.attr_state.specs.Index.{shown, marks_in}
use Rattle.attr_state.proofs.FactLemmas.{no_answer, name_no_answer, value_no_answer, value_answer, rising_in}
use Rattle.attr_state.proofs.facts.has_value.Goals as goal

pub returns-in-None : goal.returns-in-None
returns-in-None c =
    let marks = marks_in c.args.ready.now c.args.marks.now.entries in
    let mark = c.in-Some-Text.mark.now in
    subst (λ (name : Term). IsTrue false ↔ Contains (facts_of_marks marks) (HasXattr c.args.node.now name c.args.value.now)) (sym c.in-Some-Text.is-1)
    (value_no_answer marks c.args.node.now c.args.value.now c.in-Some-Text.name (shown mark) (rising_in c.args.ready.now c.args.marks.now.entries c.requires) c.in-Some-Text.ensures.sorted c.in-Some-Text.ensures.shown
    (c.in-None.ensures
    ∙ (ap (λ (attributes : Attributes). value_at attributes c.bytes.result.now) c.as_slice.ensures.value
    ∙ ap (λ (name : List ℕ). value_at mark.attributes.items name) c.bytes.ensures.same)))

pub returns-in-Some : goal.returns-in-Some
returns-in-Some c =
    let marks = marks_in c.args.ready.now c.args.marks.now.entries in
    let mark = c.in-Some-Text.mark.now in
    subst (λ (name : Term). IsTrue c.is_same.result ↔ Contains (facts_of_marks marks) (HasXattr c.args.node.now name c.args.value.now)) (sym c.in-Some-Text.is-1)
    (value_answer marks c.args.node.now c.args.value.now c.in-Some-Text.name c.in-Some.known (shown mark) c.is_same.result (rising_in c.args.ready.now c.args.marks.now.entries c.requires) c.in-Some-Text.ensures.sorted c.in-Some-Text.ensures.shown
    (c.in-Some.ensures
    ∙ (ap (λ (attributes : Attributes). value_at attributes c.bytes.result.now) c.as_slice.ensures.value
    ∙ ap (λ (name : List ℕ). value_at mark.attributes.items name) c.bytes.ensures.same))
    c.is_same.ensures)

pub returns-in_default : goal.returns-in_default
returns-in_default c =
    name_no_answer (marks_in c.args.ready.now c.args.marks.now.entries) c.args.node.now c.args.name.now c.args.value.now (shown c.in_default.field-0-0.now) (rising_in c.args.ready.now c.args.marks.now.entries c.requires) c.in_default.ensures.sorted c.in_default.ensures.shown c.in_default.not-Text-1

pub returns-in_default-2 : goal.returns-in_default-2
returns-in_default-2 c =
    no_answer (marks_in c.args.ready.now c.args.marks.now.entries) (HasXattr c.args.node.now c.args.name.now c.args.value.now) (rising_in c.args.ready.now c.args.marks.now.entries c.requires) c.in_default.ensures.shown
