-- The node is kept while names change, and then stands at the second place.
use Rattle.std.proofs.Common.{◌∙◌}
use Rattle.file_tree.specs.Index.{spot_place}
use Rattle.file_tree.proofs.ApplyLemmas.{still_kept, Relocates-from, entered_ok}
use Rattle.file_tree.proofs.applying.relocate.Goals as goal

pub set_place-requires : goal.set_place-requires
set_place-requires c =
    let puts = entered_ok c.enter-entered.result c.unwrap.result _ c.unwrap.ensures c.enter-entered.ensures.ok in
    still_kept c.args.nodes.now.entries c.release.new.nodes.entries c.args.number (c.release.ensures.same_rows ∙ puts.same_rows) c.requires.there

pub returns : goal.returns
returns c =
    let puts = entered_ok c.enter-entered.result c.unwrap.result _ c.unwrap.ensures c.enter-entered.ensures.ok in
    Relocates-from c.args.nodes.now.entries c.enter-entered.new.nodes.entries c.release.new.nodes.entries c.set_place.new.nodes.entries c.args.number (spot_place c.args.from.now) (spot_place c.args.to.now) puts c.release.ensures c.set_place.ensures
