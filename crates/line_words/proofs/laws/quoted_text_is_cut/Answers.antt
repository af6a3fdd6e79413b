use Rattle.line_words.proofs.CutLemmas.{first_cut-quoted}
use Rattle.line_words.proofs.laws.quoted_text_is_cut.Goals as goal

pub returns : goal.returns
returns c = first_cut-quoted
