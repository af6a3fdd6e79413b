use Rattle.line_forms.proofs.LineLemmas.{one_fault}
use Rattle.line_forms.proofs.laws.one_fault_of_a_line.Goals as goal

pub returns : goal.returns
returns c mode line first second h k = one_fault h second k
