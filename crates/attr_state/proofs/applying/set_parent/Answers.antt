-- The mark after the reference has another directory; if there is no mark, nothing changes.
use Rattle.std.proofs.Common.{◌≡◌, Some, refl, sym, ap, subst}
use Rattle.file_world.specs.AttributeEffect.{with_parent}
use Rattle.attr_state.specs.declared.mark.KeptMark.{KeptMark as Kept}
use Rattle.attr_state.specs.Index.{MarkEntries, kept_at, Revises}
use Rattle.attr_state.proofs.MarkLemmas.{SetsMark-from_map, Revises-from_set, Revises-missing}
use Rattle.attr_state.proofs.applying.set_parent.Goals as goal

pub returns-in-Some : goal.returns-in-Some
returns-in-Some c =
    let mark = c.in-Some.mark.now in
    let now : Kept = record mark { parent = c.args.parent } in
    let there : kept_at c.args.marks.now.entries c.args.number ≡ Some mark = sym c.in-Some.ensures.value in
    let sets = SetsMark-from_map c.args.marks.now (c.get_mut.follows.lender now) c.args.number mark now there (c.get_mut.follows.holds now) in
    Revises-from_set c.args.marks.now.entries _ c.args.number mark now _ c.requires there sets (c.requires.sorted c.args.number mark there) refl

pub returns-in_default : goal.returns-in_default
returns-in_default c =
    let entries = c.args.marks.now.entries in
    subst (λ (new : MarkEntries). Revises entries new c.args.number (with_parent c.args.parent)) (ap (λ m. m.entries) (sym c.get_mut.follows.holds-at-none))
    (Revises-missing entries c.args.number (with_parent c.args.parent) c.requires (sym c.in_default.ensures.value))
