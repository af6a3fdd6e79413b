use Rattle.line_words.proofs.TotalLemmas.{words_or_bad_word}
use Rattle.line_words.proofs.laws.words_or_a_bad_word.Goals as goal

pub returns : goal.returns
returns c = words_or_bad_word
