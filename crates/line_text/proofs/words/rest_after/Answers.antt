-- What `strip_prefix` says of bytes.
use Rattle.std.proofs.lemmas.Slice.Eq.{strip_prefix_is}
use Rattle.std.proofs.lemmas.Bool.Decides.{Decides-eqb}
use Rattle.line_text.proofs.words.rest_after.Goals as goal

pub returns : goal.returns
returns c = strip_prefix_is Decides-eqb c.args.line.now c.args.literal.now c.strip_prefix.result c.strip_prefix.ensures.cases
