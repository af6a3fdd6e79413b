use Rattle.std.proofs.Common.{refl}
use Rattle.std.specs.Fmt.{decimal}
use Rattle.line_words.proofs.laws.shown_node_is_read.Goals as goal

pub returns : goal.returns
returns c node fits = record { digits = decimal node.0; word_is = refl; number = record { decimal_is = refl; fits = fits } }
