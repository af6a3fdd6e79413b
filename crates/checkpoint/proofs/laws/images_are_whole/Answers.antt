use Rattle.checkpoint.proofs.ReadingLemmas.{more_is_left_over, cut_is_none}
use Rattle.checkpoint.proofs.laws.images_are_whole.Goals as goal

pub returns-clause-left_over : goal.returns-clause-left_over
returns-clause-left_over c = more_is_left_over

pub returns-clause-cut : goal.returns-clause-cut
returns-clause-cut c = cut_is_none
