use Rattle.std.proofs.Common.{refl}
use Rattle.line_words.proofs.laws.shown_text_is_read.Goals as goal

pub returns : goal.returns
returns c text fits = record { fits = fits; word_is = refl }
