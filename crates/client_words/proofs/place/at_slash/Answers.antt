-- A slash stands where the text is cut.
use Rattle.std.proofs.Common.{lit<}
use Rattle.std.proofs.lemmas.Str.Pattern.{split_parts}
use Rattle.client_words.proofs.PlaceLemmas.{parts_at}
use Rattle.client_words.proofs.place.at_slash.Goals as goal

pub returns : goal.returns
returns c = parts_at c.args.text.now c.split_once.result (split_parts 47 c.args.text.now c.split_once.result c.split_once.ensures.cases (lit< tt))
