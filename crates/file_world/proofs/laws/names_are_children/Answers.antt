use Rattle.file_world.proofs.LawLemmas.{names_are_children}
use Rattle.file_world.proofs.laws.names_are_children.Goals as goal

pub returns : goal.returns
returns c = names_are_children
