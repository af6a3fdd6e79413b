use Rattle.std.proofs.Common.{rules}
use Rattle.file_world.specs.FileNames.{is_node_name}
use Rattle.node_rows.proofs.names.is_node_name.Goals as goal

pub returns-then-not-eq : goal.returns-then-not-eq
unfolding is_node_name
returns-then-not-eq c = search rules

pub returns-else-not-eq : goal.returns-else-not-eq
unfolding is_node_name
returns-else-not-eq c = search rules
