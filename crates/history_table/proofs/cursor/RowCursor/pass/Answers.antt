-- The next event is kept, and its issue is in the index.
use Rattle.std.proofs.Common.{◌≡◌, ℕ, Some, add-one, subst, sym}
use Rattle.std.specs.List.{slice_get}
use Rattle.journal_records.specs.declared.event.Event.{Event}
use Rattle.access_history.specs.History.{state_of}
use Rattle.access_history.specs.Replay.{next_state}
use Rattle.history_table.specs.Cursor.{IsAt}
use Rattle.history_table.specs.Index.{IsIndexOf, digests_of}
use Rattle.history_table.proofs.CursorLemmas.{is_past, may_keep, next_read}
use Rattle.history_table.proofs.cursor.RowCursor.pass.Goals as goal

pub with_event-requires : goal.with_event-requires
with_event-requires c =
    let at = c.self.inside in
    let event = c.index-events-passed.result in
    let next : slice_get at.whole.now.events at.passed ≡ Some event = next_read at.whole.now at.passed c.args.self c.events.result.now event c.self.view_is c.requires c.events.ensures c.index-events-passed.is in
    may_keep at.whole.now at.passed at.before at.issues c.self.invariant event c.lemma_is_lawful.ensures next

pub invariant_of-result : goal.invariant_of-result
invariant_of-result c =
    let at = c.self.inside in
    let event = c.index-events-passed.result in
    let next : slice_get at.whole.now.events at.passed ≡ Some event = next_read at.whole.now at.passed c.args.self c.events.result.now event c.self.view_is c.requires c.events.ensures c.index-events-passed.is in
    subst (λ (n : ℕ). IsAt at.whole.now n c.in_ok-before.before c.in_ok-issues.issues) (sym (add-one at.passed))
    (is_past at.whole.now at.passed at.before at.issues c.self.invariant event c.in_ok-before.before c.in_ok-issues.issues next c.in_ok-before.ensures
    (subst (λ (e : Event). IsIndexOf (digests_of at.before.key (next_state (state_of at.before) e).issues) c.in_ok-issues.issues) c.in_ok-event.ensures.same c.in_ok-issues.ensures))
