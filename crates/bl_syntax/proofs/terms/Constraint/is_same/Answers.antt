use Rattle.std.proofs.lemmas.Bool.Decides.{Decides-at}
use Rattle.bl_syntax.proofs.EqualityLemmas.{Decides-constraint_eq}
use Rattle.bl_syntax.proofs.terms.Constraint.is_same.Goals as goal

pub returns : goal.returns
returns c = Decides-at _ _ c.eq.ensures (Decides-constraint_eq c.args.self.now c.args.other.now)
