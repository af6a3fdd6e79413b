-- What the index has stays.
use Rattle.issue_standings.proofs.standings.Standings.reserve.Goals as goal

pub returns-clause-same : goal.returns-clause-same
returns-clause-same c = record { rows = c.reserve.ensures.items; row_of = c.reserve-2.ensures.items; fronts = c.reserve-3.ensures.entries.2 }
