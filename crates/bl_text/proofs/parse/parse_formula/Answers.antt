-- A text has one formula or one fault.
use Rattle.bl_text.proofs.TextLemmas.{only_formula, only_formula_fault}
use Rattle.bl_text.proofs.parse.parse_formula.Goals as goal

pub returns-clause-every_formula : goal.returns-clause-every_formula
returns-clause-every_formula c = only_formula c.args.text.now c.read_formula.result c.read_formula.ensures.read c.read_formula.ensures.fault

pub returns-clause-every_fault : goal.returns-clause-every_fault
returns-clause-every_fault c = only_formula_fault c.args.text.now c.read_formula.result c.read_formula.ensures.read c.read_formula.ensures.fault
