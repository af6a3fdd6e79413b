-- The descent comes out at each place.
use Rattle.bl_text.proofs.TotalLemmas.{formula_or_its_fault}
use Rattle.bl_text.proofs.laws.formula_or_fault.Goals as goal

pub returns : goal.returns
returns c = λ text. formula_or_its_fault text
