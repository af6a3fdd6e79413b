use Rattle.line_wire.proofs.FirstWordLemmas.{reply_first}
use Rattle.line_wire.proofs.laws.first_word_says_what_became_of_it.Goals as goal

pub returns : goal.returns
returns c = reply_first
