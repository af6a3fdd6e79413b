-- The number is above all others, so its node goes to the end.
use Rattle.std.proofs.Common.{◌∙◌}
use Rattle.file_tree.proofs.IndexLemmas.{insert-last}
use Rattle.file_tree.proofs.from_rows.put_last.Goals as goal

pub returns-in-Ok-clause-ok : goal.returns-in-Ok-clause-ok
returns-in-Ok-clause-ok c = c.in-Ok.ensures.entries ∙ insert-last c.args.nodes.now.entries c.args.number c.args.node c.insert-put.ensures.was_ordered c.requires
