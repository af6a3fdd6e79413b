use Rattle.line_forms.proofs.LimitLemmas.{line_within}
use Rattle.line_forms.proofs.laws.request_is_within_its_limits.Goals as goal

pub returns : goal.returns
returns c mode line asked h = line_within h
