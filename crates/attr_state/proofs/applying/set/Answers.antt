-- The mark after the reference has the value under the name.
use Rattle.std.proofs.Common.{◌≡◌, ◌≤◌, Option, Some, sym, ap, ◌∙◌, subst, length, vec_capacity}
use Rattle.file_world.specs.Attributes.{Attributes, Mark, mark_at}
use Rattle.file_world.specs.AttributeEffect.{attributes_of, with_value, with_attributes}
use Rattle.attr_state.specs.declared.mark.KeptMark.{KeptMark as Kept}
use Rattle.attr_state.specs.Index.{marks_of, kept_at, shown}
use Rattle.attr_state.proofs.MarkLemmas.{SetsMark-from_map, found_behind, mark_at-kept, Revises-from_set, room_at}
use Rattle.attr_state.proofs.applying.set.Goals as goal

pub put-requires-clause-sorted : goal.put-requires-clause-sorted
put-requires-clause-sorted c =
    let mark = c.unwrap-mark.result.now in
    c.requires.ordered.sorted c.args.number mark (found_behind c.get_mut.result _ c.unwrap-mark.result c.get_mut.ensures.value c.unwrap-mark.ensures)

pub put-requires-clause-room : goal.put-requires-clause-room
put-requires-clause-room c =
    let mark = c.unwrap-mark.result.now in
    let there : kept_at c.args.marks.now.entries c.args.number ≡ Some mark = found_behind c.get_mut.result _ c.unwrap-mark.result c.get_mut.ensures.value c.unwrap-mark.ensures in
    subst (λ (m : Option Mark). length (with_value (attributes_of m) c.args.name.now c.args.value) ≤ vec_capacity mark.attributes) (mark_at-kept c.args.marks.now.entries c.args.number mark there)
    (room_at c.args.marks.now.entries c.args.number _ mark c.requires.room there)

pub returns : goal.returns
returns c =
    let mark = c.unwrap-mark.result.now in
    let now : Kept = record mark { attributes = c.put.new.attributes } in
    let there : kept_at c.args.marks.now.entries c.args.number ≡ Some mark = found_behind c.get_mut.result _ c.unwrap-mark.result c.get_mut.ensures.value c.unwrap-mark.ensures in
    let sets = SetsMark-from_map c.args.marks.now (c.get_mut.follows.lender now) c.args.number mark now there (c.get_mut.follows.holds now) in
    let items : c.put.new.attributes.items ≡ with_value (attributes_of (mark_at (marks_of c.args.marks.now.entries) c.args.number)) c.args.name.now c.args.value =
    c.put.ensures.put ∙ ap (λ (m : Option Mark). with_value (attributes_of m) c.args.name.now c.args.value) (sym (mark_at-kept c.args.marks.now.entries c.args.number mark there)) in
    Revises-from_set c.args.marks.now.entries _ c.args.number mark now _ c.requires.ordered there sets c.put.ensures.sorted
    (ap (λ (attributes : Attributes). with_attributes attributes (shown mark)) items)
