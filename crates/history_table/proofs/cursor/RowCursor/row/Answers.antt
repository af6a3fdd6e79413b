-- The next event's number and second are in their ranges.
use Rattle.access_history.specs.History.{state_of}
use Rattle.history_table.proofs.CursorLemmas.{row_counted, row_second, second_of_row}
use Rattle.history_table.proofs.cursor.RowCursor.row.Goals as goal

pub row_of-requires-clause-counted : goal.row_of-requires-clause-counted
row_of-requires-clause-counted c =
    let at = c.self.inside in
    row_counted at.whole.now at.passed at.before at.issues c.args.self.now c.args.event.now c.self.invariant c.self.view_is c.lemma_is_lawful.ensures c.requires

pub returns-clause-second : goal.returns-clause-second
returns-clause-second c =
    let at = c.self.inside in
    second_of_row c.row_of.result (state_of at.before) c.args.event.now c.row_of.ensures
    (row_second at.whole.now at.passed at.before at.issues c.args.self.now c.args.event.now c.self.invariant c.self.view_is c.lemma_is_lawful.ensures c.requires)
