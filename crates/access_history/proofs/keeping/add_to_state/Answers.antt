-- The index is that of the issues after the event, over the statements after it.
use Rattle.std.proofs.Common.{List, [], ◌∷◌, ◌++◌, ap, subst, sym}
use Rattle.issue_standings.specs.Index.{HasRows, IsIndexOf}
use Rattle.access_history.specs.declared.event.Issue.{Issue}
use Rattle.access_history.specs.Gone.{bearing, bearings}
use Rattle.access_history.proofs.HistoryLemmas.{pushed}
use Rattle.access_history.proofs.StandingsLemmas.{same_but, standings_issue, standings_statement}
use Rattle.access_history.proofs.keeping.add_to_state.Goals as goal

pub recount-requires : goal.recount-requires
recount-requires c = subst (λ (is : List Issue). HasRows (bearings is) c.args.standings.now) (sym c.as_slice.ensures.value) c.requires.standings.rows

pub add_standing-requires-clause-index : goal.add_standing-requires-clause-index
add_standing-requires-clause-index c =
    subst (λ (is : List Issue). IsIndexOf c.args.key.now c.args.statements.now.entries (bearings is) c.args.standings.now) (sym c.as_slice-in-Issue.ensures.value) c.requires.standings

pub returns-in-Statement-clause-standings : goal.returns-in-Statement-clause-standings
returns-in-Statement-clause-standings c =
    standings_statement c.args.key.now c.args.statements.now.entries c.keep.new.self.entries c.args.issues.now.items c.args.standings.now c.in-Statement.statement c.in-Statement.signature c.keep.ensures.entries c.requires.standings

pub returns-in-Withdrawal-clause-standings : goal.returns-in-Withdrawal-clause-standings
returns-in-Withdrawal-clause-standings c =
    subst (λ (is : List Issue). IsIndexOf c.args.key.now c.end.new.self.entries (bearings is) c.recount.new.self) c.as_slice.ensures.value
    (c.recount.ensures c.args.key.now c.args.statements.now.entries (same_but c.args.statements.now.entries c.end.new.self.entries c.in-Withdrawal.number (ap (λ r. r.entries) c.end.ensures))
    (subst (λ (is : List Issue). IsIndexOf c.args.key.now c.args.statements.now.entries (bearings is) c.args.standings.now) (sym c.as_slice.ensures.value) c.requires.standings))

pub returns-in-Issue-clause-standings : goal.returns-in-Issue-clause-standings
returns-in-Issue-clause-standings c =
    standings_issue c.args.key.now c.args.statements.now.entries c.args.issues.now.items c.push.new.self.items c.in-Issue.issue c.add_standing.new.standings (pushed _ _ _ _ _ c.push.ensures.items c.unwrap.ensures)
    (subst (λ (is : List Issue). IsIndexOf c.args.key.now c.args.statements.now.entries (bearings is ++ bearing c.in-Issue.issue ∷ []) c.add_standing.new.standings) c.as_slice-in-Issue.ensures.value c.add_standing.ensures)
