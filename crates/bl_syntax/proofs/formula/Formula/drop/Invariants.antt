use Rattle.bl_syntax.proofs.DropLemmas.{steps_left}
use Rattle.bl_syntax.proofs.formula.Formula.drop.Given as goal

-- how many steps are left
abbrev pub decreases-parts : goal.decreases-parts
decreases-parts l = steps_left l.self l.waiting
