-- The place of the first stop byte, or the length.
use Rattle.line_text.proofs.WordLemmas.{stop_place-unwrap_or}
use Rattle.line_text.proofs.words.word_len.Goals as goal

pub returns : goal.returns
returns c = stop_place-unwrap_or c.args.stop c.args.line.now c.first_stop.result c.unwrap_or.result c.first_stop.ensures c.unwrap_or.ensures
