use Rattle.line_words.proofs.ReadingLemmas.{bad_once}
use Rattle.line_words.proofs.laws.one_bad_word.Goals as goal

pub returns : goal.returns
returns c whole kinds behind first second h k = bad_once h second k
