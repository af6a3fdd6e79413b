use Rattle.line_forms.proofs.SaidLemmas.{said_in_mode}
use Rattle.line_forms.proofs.laws.request_is_said_in_its_mode.Goals as goal

pub returns : goal.returns
returns c mode line asked h = said_in_mode h
