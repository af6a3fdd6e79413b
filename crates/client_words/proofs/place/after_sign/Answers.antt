-- What stands after an ASCII character, by bytes.
use Rattle.std.proofs.Common.{lit<}
use Rattle.std.proofs.lemmas.Str.Pattern.{strip_prefix_char}
use Rattle.client_words.proofs.place.after_sign.Goals as goal

pub returns : goal.returns
returns c = strip_prefix_char 35 c.args.text.now c.strip_prefix.result c.strip_prefix.ensures.cases (lit< tt)
