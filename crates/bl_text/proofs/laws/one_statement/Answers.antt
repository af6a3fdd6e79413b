-- The parts of a statement have one reading each.
use Rattle.bl_text.proofs.TextLemmas.{saying_once}
use Rattle.bl_text.proofs.laws.one_statement.Goals as goal

pub returns : goal.returns
returns c = λ text s t h k. saying_once h.is_text k.is_text
