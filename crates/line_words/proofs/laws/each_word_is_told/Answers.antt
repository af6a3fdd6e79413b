use Rattle.line_words.proofs.TotalLemmas.{set_or_outside}
use Rattle.line_words.proofs.laws.each_word_is_told.Goals as goal

pub returns : goal.returns
returns c = set_or_outside
