-- The mark after the reference has room for more attributes, and shows the same.
use Rattle.std.proofs.Common.{◌≡◌, ◌+◌, Option, Some, length, sym, ap, arith}
use Rattle.file_world.specs.Attributes.{Attributes, Mark, mark_at}
use Rattle.file_world.specs.AttributeEffect.{attributes_of}
use Rattle.attr_state.specs.declared.ready.MetaReady.TheVariants.{Attributes as Room}
use Rattle.attr_state.specs.declared.mark.KeptMark.{KeptMark as Kept}
use Rattle.attr_state.specs.Index.{marks_of, kept_at, shown}
use Rattle.attr_state.proofs.MarkLemmas.{SetsMark-from_map, found_behind, mark_at-kept, kept_set, Stays-from_set}
use Rattle.attr_state.proofs.preparing.prepare_attributes.Goals as goal

pub returns-in-Ok-clause-ok : goal.returns-in-Ok-clause-ok
returns-in-Ok-clause-ok c =
    let mark = c.unwrap-mark.result.now in
    let now : Kept = record mark { attributes = c.reserve-grown.new.self } in
    let there : kept_at c.args.marks.now.entries c.args.number ≡ Some mark = found_behind c.get_mut.result _ c.unwrap-mark.result c.get_mut.ensures.value c.unwrap-mark.ensures in
    let sets = SetsMark-from_map c.args.marks.now (c.get_mut.follows.lender now) c.args.number mark now there (c.get_mut.follows.holds now) in
    let same : shown now ≡ shown mark = ap (λ (items : Attributes). record { owner = mark.owner; parent = mark.parent; attributes = items }) c.reserve-grown.ensures.items in
    let stays = Stays-from_set _ _ c.args.number mark now c.requires.ordered there sets same in
    let items : length mark.attributes.items ≡ length (attributes_of (mark_at (marks_of c.args.marks.now.entries) c.args.number)) = sym (ap (λ (m : Option Mark). length (attributes_of m)) (mark_at-kept c.args.marks.now.entries c.args.number mark there)) in
    let len : c.len.result + c.args.more ≡ length (attributes_of (mark_at (marks_of c.args.marks.now.entries) c.args.number)) + c.args.more = omega (arith, items, c.len.ensures, c.reserve-grown.ensures.len, mark.attributes.ok.0) in (
      ap (Room c.args.number) len,
      record {
        kept = record {
          ordered = stays.ordered;
          prepared = record { kept = now; found = kept_set _ _ c.args.number now sets; room = omega (arith, c.in-Ok.ensures.ok, c.len.ensures, c.reserve-grown.ensures.len) };
        };
        same = stays.same;
      },
    )

pub returns-in-Err-clause-err : goal.returns-in-Err-clause-err
returns-in-Err-clause-err c =
    let mark = c.unwrap-mark.result.now in
    let now : Kept = record mark { attributes = c.reserve-grown.new.self } in
    let there : kept_at c.args.marks.now.entries c.args.number ≡ Some mark = found_behind c.get_mut.result _ c.unwrap-mark.result c.get_mut.ensures.value c.unwrap-mark.ensures in
    let sets = SetsMark-from_map c.args.marks.now (c.get_mut.follows.lender now) c.args.number mark now there (c.get_mut.follows.holds now) in
    let same : shown now ≡ shown mark = ap (λ (items : Attributes). record { owner = mark.owner; parent = mark.parent; attributes = items }) c.reserve-grown.ensures.items in
    Stays-from_set _ _ c.args.number mark now c.requires.ordered there sets same
