use Rattle.file_tree.specs.Index.{rows_of}
use Rattle.file_world.proofs.EffectLemmas.{directory_from}
use Rattle.file_tree.proofs.KeptLemmas.{some_kept}
use Rattle.file_tree.proofs.preparing.prepare_moved.Goals as goal

pub enter-requires : goal.enter-requires
enter-requires c =
    let holds = directory_from (rows_of c.args.nodes.now.entries) c.args.to.directory c.requires.holds in
    some_kept c.args.nodes.now.entries c.args.to.directory holds.node holds.found
