-- The descent has one reading of a text.
use Rattle.bl_text.proofs.TextLemmas.{formula_once}
use Rattle.bl_text.proofs.laws.one_formula.Goals as goal

pub returns : goal.returns
returns c = λ text f g h k. formula_once h k
