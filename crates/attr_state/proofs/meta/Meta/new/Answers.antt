-- One mark is kept, the root's.
use Rattle.std.proofs.Common.{◌≡◌, ℕ, List, [], rules, ap₂}
use Rattle.std.specs.Prelude.{codes}
use Rattle.file_world.specs.Attributes.{Attributes, Mark}
use Rattle.file_world.proofs.MarkLemmas.{AreMarks-fresh}
use Rattle.attr_state.specs.declared.mark.KeptMark.{KeptMark as Kept}
use Rattle.attr_state.proofs.MarkLemmas.{fresh_kept}
use Rattle.attr_state.proofs.RowsLemmas.{fresh_within}
use Rattle.attr_state.proofs.meta.Meta.new.Goals as goal

pub invariant_of-result : goal.invariant_of-result
invariant_of-result c =
    let mark : Kept = record { owner = c.unwrap.result; parent = 0; attributes = c.new-2.result } in
    let owner : c.unwrap.result ≡ codes "admin" = search rules in
    let with_parts : List ℕ → Attributes → Mark = λ owner attributes. record { owner = owner; parent = 0; attributes = attributes } in
    record {
      index = fresh_kept c.new-marks.result.entries c.insert-put.new.self.entries mark c.new-marks.ensures.empty c.insert-put.ensures.ordered c.in-Ok.ensures.updates.0 c.new-2.ensures.items;
      within = fresh_within c.new-marks.result.entries c.insert-put.new.self.entries mark (1, with_parts (codes "admin") []) c.new-marks.ensures.empty c.in-Ok.ensures.entries (ap₂ with_parts owner c.new-2.ensures.items) AreMarks-fresh;
    }
