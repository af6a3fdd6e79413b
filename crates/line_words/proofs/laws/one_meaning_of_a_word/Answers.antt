use Rattle.line_words.proofs.KindLemmas.{Sets-unique}
use Rattle.line_words.proofs.laws.one_meaning_of_a_word.Goals as goal

pub returns : goal.returns
returns c = Sets-unique
