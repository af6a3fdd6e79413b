use Rattle.bl_rules.proofs.ModelExamples.{truth_gives_no_falsity, either_gives_not_the_first, implication_gives_no_conclusion, some_gives_not_this, one_gives_not_all, word_gives_no_truth}
use Rattle.bl_rules.proofs.laws.what_does_not_follow.Goals as goal

pub returns : goal.returns
returns c = record { falsity = truth_gives_no_falsity; either = either_gives_not_the_first; implication = implication_gives_no_conclusion; some = some_gives_not_this; all = one_gives_not_all; word = word_gives_no_truth }
