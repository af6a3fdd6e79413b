use Rattle.line_words.proofs.ProcapLemmas.{IsProcapWord-shown}
use Rattle.line_words.proofs.laws.shown_procap_is_given.Goals as goal

pub returns : goal.returns
returns c = IsProcapWord-shown
