-- The descent comes out at each place.
use Rattle.bl_text.proofs.TotalLemmas.{statement_or_its_fault}
use Rattle.bl_text.proofs.laws.statement_or_fault.Goals as goal

pub returns : goal.returns
returns c = λ text. statement_or_its_fault text
