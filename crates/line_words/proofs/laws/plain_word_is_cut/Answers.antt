use Rattle.line_words.proofs.CutLemmas.{first_cut-plain}
use Rattle.line_words.proofs.laws.plain_word_is_cut.Goals as goal

pub returns : goal.returns
returns c = first_cut-plain
