-- The mark after the reference has another owner.
use Rattle.std.proofs.Common.{◌≡◌, Some, refl}
use Rattle.attr_state.specs.declared.mark.KeptMark.{KeptMark as Kept}
use Rattle.attr_state.specs.Index.{kept_at}
use Rattle.attr_state.proofs.MarkLemmas.{SetsMark-from_map, found_behind, Revises-from_set}
use Rattle.attr_state.proofs.applying.set_owner.Goals as goal

pub returns : goal.returns
returns c =
    let mark = c.unwrap-mark.result.now in
    let now : Kept = record mark { owner = c.args.owner } in
    let there : kept_at c.args.marks.now.entries c.args.number ≡ Some mark = found_behind c.get_mut.result _ c.unwrap-mark.result c.get_mut.ensures.value c.unwrap-mark.ensures in
    let sets = SetsMark-from_map c.args.marks.now (c.get_mut.follows.lender now) c.args.number mark now there (c.get_mut.follows.holds now) in
    Revises-from_set c.args.marks.now.entries _ c.args.number mark now _ c.requires.ordered there sets (c.requires.ordered.sorted c.args.number mark there) refl
