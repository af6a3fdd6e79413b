use Rattle.line_words.proofs.ReadingLemmas.{words_or_bad}
use Rattle.line_words.proofs.laws.no_bad_word_among_words.Goals as goal

pub returns : goal.returns
returns c whole kinds behind before after rest place h bad = words_or_bad bad before after rest h
