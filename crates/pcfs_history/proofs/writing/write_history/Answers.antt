-- The texts of the first events are out, or on their way, and then that of one more.
use Rattle.std.proofs.Common.{◌+◌, ◌≤◌, length, arith}
use Rattle.pcfs_ports.proofs.TakesLemmas.{on_err}
use Rattle.pcfs_history.proofs.OutboxLemmas.{GoesOut-first}
use Rattle.pcfs_history.proofs.WritingLemmas.{all_written, has_passed, is_cut, is_left, one_more, part_written, read_again, stands_before}
use Rattle.pcfs_history.proofs.writing.write_history.Goals as goal

pub loop-place-init : goal.loop-place-init
loop-place-init g c = record {
  out = GoesOut-first _ _ c.new-made.ensures;
  at = c.in_ok-cursor.ensures;
  never_falls = omega arith;
}

pub returns-in_err-event-clause-some : goal.returns-in_err-event-clause-some
returns-in_err-event-clause-some g c = on_err _ (is_left c.args.json c.args.filter.now c.args.history.now _ c.loop-place.place _ _ c.loop-place.invariant.out)

pub write_event-requires : goal.write_event-requires
write_event-requires g c = stands_before c.args.history.now c.loop-place.cursor c.loop-place.place c.events-events.result.now c.in_ok-event.event c.loop-place.invariant.at c.events-events.ensures c.loop-place-test.true (read_again c.events-events.result.now c.loop-place.place c.index-events-place.result c.in_ok-event.event c.in_ok-event.ensures.same c.index-events-place.is)

pub returns-in_err-write_event-clause-some : goal.returns-in_err-write_event-clause-some
returns-in_err-write_event-clause-some g c =
    on_err _ (is_cut c.args.json c.args.filter.now c.args.history.now _ c.loop-place.cursor c.loop-place.place c.events-events.result.now c.in_ok-event.event _ _ _ c.loop-place.invariant.at c.events-events.ensures c.loop-place-test.true (read_again c.events-events.result.now c.loop-place.place c.index-events-place.result c.in_ok-event.event c.in_ok-event.ensures.same c.index-events-place.is)
    c.loop-place.invariant.out c.in_err-write_event.ensures.err)

pub returns-in_err-cursor-2-clause-some : goal.returns-in_err-cursor-2-clause-some
returns-in_err-cursor-2-clause-some g c =
    on_err _ (is_left c.args.json c.args.filter.now c.args.history.now _ (c.loop-place.place + 1) _ _
    (one_more c.args.json c.args.filter.now c.args.history.now _ c.loop-place.cursor c.loop-place.place c.events-events.result.now c.in_ok-event.event _ _ _ _ c.loop-place.invariant.at c.events-events.ensures c.loop-place-test.true (read_again c.events-events.result.now c.loop-place.place c.index-events-place.result c.in_ok-event.event c.in_ok-event.ensures.same c.index-events-place.is)
    c.loop-place.invariant.out c.in_ok-write_event.ensures.ok))

pub loop-place-preserved : goal.loop-place-preserved
loop-place-preserved g c = record {
  out =
      one_more c.args.json c.args.filter.now c.args.history.now _ c.loop-place.cursor c.loop-place.place c.events-events.result.now c.in_ok-event.event _ _ _ _ c.loop-place.invariant.at c.events-events.ensures c.loop-place-test.true (read_again c.events-events.result.now c.loop-place.place c.index-events-place.result c.in_ok-event.event c.in_ok-event.ensures.same c.index-events-place.is)
      c.loop-place.invariant.out c.in_ok-write_event.ensures.ok;
  at = has_passed c.args.history.now c.loop-place.cursor _ c.loop-place.place c.loop-place.invariant.at c.in_ok-cursor-2.ensures;
  never_falls = omega (arith, c.in_ok-write_event.ensures.never_falls);
}

pub returns-in_err-flush-clause-some : goal.returns-in_err-flush-clause-some
returns-in_err-flush-clause-some g c =
    let past : length c.events-events.result.now ≤ c.loop-place.place = omega (arith, c.loop-place-test.false) in
    on_err _ (part_written c.args.json c.args.filter.now c.args.history.now _ c.loop-place.place c.events-events.result.now _ _ _ c.events-events.ensures past c.loop-place.invariant.out c.in_err-flush.ensures.err)

pub returns-clause-written : goal.returns-clause-written
returns-clause-written g c =
    let past : length c.events-events.result.now ≤ c.loop-place.place = omega (arith, c.loop-place-test.false) in
    all_written c.args.json c.args.filter.now c.args.history.now _ c.loop-place.place c.events-events.result.now _ _ _ c.events-events.ensures past c.loop-place.invariant.out c.in_ok-flush.ensures.ok
