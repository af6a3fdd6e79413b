use Rattle.line_words.proofs.ReadingLemmas.{AreWords-unique}
use Rattle.line_words.proofs.laws.one_meaning_of_words.Goals as goal

pub returns : goal.returns
returns c = AreWords-unique
