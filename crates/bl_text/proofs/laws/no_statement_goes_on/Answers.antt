-- A sentence is read, or stops for its sorts or its size.
use Rattle.bl_text.proofs.ExactTexts.{no_statement_goes_on}
use Rattle.bl_text.proofs.laws.no_statement_goes_on.Goals as goal

pub returns : goal.returns
returns c = λ text e at m x other same s. no_statement_goes_on m x same s
