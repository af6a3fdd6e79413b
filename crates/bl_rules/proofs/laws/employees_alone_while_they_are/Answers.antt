use Rattle.bl_rules.proofs.EmployeeExample.{Allows-employees}
use Rattle.bl_rules.proofs.laws.employees_alone_while_they_are.Goals as goal

pub returns : goal.returns
returns c = Allows-employees
