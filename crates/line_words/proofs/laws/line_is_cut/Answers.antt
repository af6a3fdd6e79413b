use Rattle.line_words.specs.Cutting.{beginning}
use Rattle.line_words.proofs.CutLemmas.{cut_from-parts}
use Rattle.line_words.proofs.laws.line_is_cut.Goals as goal

pub returns : goal.returns
returns c = cut_from-parts beginning
