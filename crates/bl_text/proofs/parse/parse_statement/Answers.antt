-- A text has one statement or one fault.
use Rattle.bl_text.proofs.TextLemmas.{only_statement, only_statement_fault}
use Rattle.bl_text.proofs.parse.parse_statement.Goals as goal

pub returns-clause-every_statement : goal.returns-clause-every_statement
returns-clause-every_statement c = only_statement c.args.text.now c.read_statement.result c.read_statement.ensures.read c.read_statement.ensures.fault

pub returns-clause-every_fault : goal.returns-clause-every_fault
returns-clause-every_fault c = only_statement_fault c.args.text.now c.read_statement.result c.read_statement.ensures.read c.read_statement.ensures.fault
