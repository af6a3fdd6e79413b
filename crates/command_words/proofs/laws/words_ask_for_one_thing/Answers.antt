use Rattle.command_words.proofs.OnceLemmas.{asks_once}
use Rattle.command_words.proofs.laws.words_ask_for_one_thing.Goals as goal

pub returns : goal.returns
returns c = λ words first second one other. asks_once words first second one other
