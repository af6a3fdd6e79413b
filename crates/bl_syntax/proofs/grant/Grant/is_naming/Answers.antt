use Rattle.std.proofs.lemmas.Bool.Decides.{Decides-at}
use Rattle.bl_syntax.proofs.EqualityLemmas.{Decides-grant_eq}
use Rattle.bl_syntax.proofs.grant.Grant.is_naming.Goals as goal

pub returns : goal.returns
returns c = Decides-at _ _ c.has_parts_naming.ensures (Decides-grant_eq c.args.self.now (record c.args.other.now { cited = c.args.numbers.now }))
