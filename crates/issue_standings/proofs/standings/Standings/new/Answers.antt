-- There are no rows.
use Rattle.std.proofs.Common.{ap, nat_eq}
use Rattle.std.specs.Map.{lookup}
use Rattle.issue_standings.proofs.IndexLemmas.{IsIndexOf-nothing}
use Rattle.issue_standings.proofs.standings.Standings.new.Goals as goal

pub returns : goal.returns
returns c key entries = IsIndexOf-nothing key entries _ c.new.ensures.items c.new-2.ensures.items (λ front. ap (λ es. lookup (nat_eq front) es) c.new-3.ensures.empty)
