-- The search finds the first stop.
use Rattle.line_words.proofs.SearchLemmas.{found_by_search}
use Rattle.line_words.proofs.cutting.first_stop.Goals as goal

pub returns : goal.returns
returns c = found_by_search c.args.stop c.args.line.now c.memchr.result c.memchr.ensures
