use Rattle.line_forms.proofs.LineLemmas.{line_or_fault}
use Rattle.line_forms.proofs.laws.no_fault_of_a_request.Goals as goal

pub returns : goal.returns
returns c mode line asked fault h k = line_or_fault h k
