use Rattle.std.proofs.lemmas.Bool.Decides.{Decides-at}
use Rattle.bl_syntax.proofs.EqualityLemmas.{Decides-state_eq}
use Rattle.bl_syntax.proofs.terms.StatePred.is_same.Goals as goal

pub returns : goal.returns
returns c = Decides-at _ _ c.eq.ensures (Decides-state_eq c.args.self.now c.args.other.now)
