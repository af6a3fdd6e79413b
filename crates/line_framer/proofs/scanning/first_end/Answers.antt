-- The search finds the first end.
use Rattle.line_framer.proofs.PlaceLemmas.{found_by_search}
use Rattle.line_framer.proofs.scanning.first_end.Goals as goal

pub returns : goal.returns
returns c = found_by_search 10 c.args.bytes.now c.memchr.result c.memchr.ensures
