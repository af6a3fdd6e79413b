use Rattle.file_world.proofs.LawLemmas.{numbers_are_used_once}
use Rattle.file_world.proofs.laws.numbers_are_used_once.Goals as goal

pub returns : goal.returns
returns c = numbers_are_used_once
