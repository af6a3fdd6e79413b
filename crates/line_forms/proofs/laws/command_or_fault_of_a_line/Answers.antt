use Rattle.line_forms.proofs.TotalLemmas.{command_or_a_fault}
use Rattle.line_forms.proofs.laws.command_or_fault_of_a_line.Goals as goal

pub returns : goal.returns
returns c = command_or_a_fault
