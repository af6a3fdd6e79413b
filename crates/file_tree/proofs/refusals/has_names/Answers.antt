use Rattle.std.proofs.Common.{sym}
use Rattle.file_tree.proofs.WalkLemmas.{no_names_missing, names_kept}
use Rattle.file_tree.proofs.refusals.has_names.Goals as goal

pub returns-in-None : goal.returns-in-None
returns-in-None c = sym (no_names_missing c.args.nodes.now.entries c.args.next c.args.directory c.requires.kept c.requires.there (sym c.in-None.ensures.value))

pub returns-in-Some : goal.returns-in-Some
returns-in-Some c =
    names_kept c.args.nodes.now.entries c.args.next c.args.directory c.in-Some.node.now c.requires.kept c.requires.there (sym c.in-Some.ensures.value) c.is_empty.result c.is_empty.ensures.0 c.is_empty.ensures.1
