use Rattle.std.proofs.Common.{◌≡◌, ◌++◌, map}
use Rattle.file_tree.specs.Index.{named_node}
use Rattle.file_tree.proofs.listing.list_entry.Given as goal

-- the names so far, and those to come, are all
abbrev pub invariant-loop-name : goal.invariant-loop-name
invariant-loop-name l = l.names ++ map named_node l.name-iterator ≡ map named_node l.kept.entries
