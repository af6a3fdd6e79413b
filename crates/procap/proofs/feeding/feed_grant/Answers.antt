-- A grant names at most 64 statements.
use Rattle.std.proofs.Common.{sym, subst}
use Rattle.bl_syntax.specs.Grant.{MayName}
use Rattle.procap.proofs.NamesLemmas.{few_named}
use Rattle.procap.proofs.feeding.feed_grant.Goals as goal

pub feed_names-requires : goal.feed_names-requires
feed_names-requires c = few_named c.cited.result.now (subst MayName (sym c.cited.ensures.same) c.cited.ensures.kept.names)
