use Rattle.line_forms.proofs.LineLemmas.{one_line}
use Rattle.line_forms.proofs.laws.one_request_of_a_line.Goals as goal

pub returns : goal.returns
returns c mode line first second h k = one_line h k
