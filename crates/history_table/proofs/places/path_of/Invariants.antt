-- The names so far are the last of the path.
use Rattle.std.proofs.Common.{◌≡◌, ◌++◌}
use Rattle.std.specs.Option.{option_map}
use Rattle.file_world.specs.World.{tree_of}
use Rattle.history_table.specs.Path.{most_steps, names_above}
use Rattle.history_table.proofs.places.path_of.Given as goal

abbrev pub invariant-up : goal.invariant-up
invariant-up l = names_above (tree_of l.world.world).rows most_steps l.number ≡ option_map (λ above. l.names.items ++ above) (names_above (tree_of l.world.world).rows l.steps l.at)

abbrev pub decreases-up : goal.decreases-up
decreases-up l = l.steps
