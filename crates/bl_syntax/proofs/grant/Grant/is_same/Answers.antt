use Rattle.std.proofs.lemmas.Bool.Decides.{Decides-at}
use Rattle.bl_syntax.proofs.EqualityLemmas.{Decides-grant_eq}
use Rattle.bl_syntax.proofs.grant.Grant.is_same.Goals as goal

pub returns-clause-decides : goal.returns-clause-decides
returns-clause-decides c = Decides-at _ _ c.has_same_parts.ensures (Decides-grant_eq c.args.self.now c.args.other.now)
