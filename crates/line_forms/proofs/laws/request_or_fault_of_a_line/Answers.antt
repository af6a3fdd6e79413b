use Rattle.line_forms.proofs.TotalLemmas.{line_or_a_fault}
use Rattle.line_forms.proofs.laws.request_or_fault_of_a_line.Goals as goal

pub returns : goal.returns
returns c = line_or_a_fault
