-- A grant names at most 64 statements.
use Rattle.std.proofs.Common.{sym, subst}
use Rattle.bl_syntax.specs.Grant.{MayName}
use Rattle.procap.proofs.NamesLemmas.{few_named}
use Rattle.procap.proofs.writing.add_parts.Goals as goal

pub add_names-requires : goal.add_names-requires
add_names-requires c = few_named c.cited.result.now (subst MayName (sym c.cited.ensures.same) c.cited.ensures.kept.names)
