-- The new mark is kept, and the marks without it are as before.
use Rattle.std.proofs.Common.{ℕ, List, refl, ap}
use Rattle.file_world.specs.Attributes.{Mark}
use Rattle.attr_state.specs.declared.mark.KeptMark.{KeptMark as Kept}
use Rattle.attr_state.proofs.MarkLemmas.{Prepares-made}
use Rattle.attr_state.proofs.preparing.prepare_made.Goals as goal

pub returns-in-Ok-clause-ok : goal.returns-in-Ok-clause-ok
returns-in-Ok-clause-ok c =
    let mark : Kept = record { owner = c.args.owner; parent = c.args.parent; attributes = c.new.result } in
    let shows : List (List ℕ × List ℕ) → Mark = λ attributes. record { owner = c.args.owner; parent = c.args.parent; attributes = attributes } in (
      refl,
      Prepares-made c.args.marks.now.entries c.insert-put.new.self.entries c.args.number c.args.owner c.args.parent mark c.requires.ordered c.requires.new c.in-Ok.ensures.entries c.insert-put.ensures.ordered c.in-Ok.ensures.updates.0 (ap shows c.new.ensures.items),
    )
