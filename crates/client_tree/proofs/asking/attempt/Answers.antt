-- The line that is asked is the one that was prepared.
use Rattle.std.proofs.Common.{refl}
use Rattle.client_tree.proofs.LineLemmas.{prepared_is_asked}
use Rattle.client_tree.proofs.asking.attempt.Goals as goal

pub ask-requires : goal.ask-requires
ask-requires g c = prepared_is_asked c.args.work.now _ _ c.in-Ok.ensures refl
