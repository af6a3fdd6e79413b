use Rattle.std.proofs.Common.{refl}
use Rattle.line_words.proofs.laws.shown_bytes_are_read.Goals as goal

pub returns : goal.returns
returns c bytes fits few = record { hex = record { in_range = fits; word_is = refl }; few = few }
