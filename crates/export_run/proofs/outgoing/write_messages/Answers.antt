-- Each event adds its message; at last what was collected is written.
use Rattle.std.proofs.Common.{◌≡◌, ◌≤◌, ◌∙◌, ◌+◌, List, ◌∷◌, ◌++◌, [], length, ap, sym, subst, take, arith, rules}
use Rattle.std.proofs.lemmas.List.{take_all, take_more}
use Rattle.journal_records.specs.declared.event.Event.{Event}
use Rattle.event_messages.specs.Messages.{Message}
use Rattle.pcfs_session.specs.declared.outbox.SendFault.TheVariants.{Write}
use Rattle.pcfs_ports.specs.Faults.{raise}
use Rattle.export_run.specs.Exported.{messages_of}
use Rattle.export_run.proofs.ExportLemmas.{AreGoingOut, AreGoingOut-more, all_sent, at_fault, cut_short_at, messages_more, part_sent}
use Rattle.export_run.proofs.outgoing.write_messages.Goals as goal

pub returns-in_err-send_message-clause-err : goal.returns-in_err-send_message-clause-err
returns-in_err-send_message-clause-err g c =
    let k = c.loop-event.event-index in
    let events = c.args.events.now in
    let within : k ≤ length events = omega (arith, c.loop-event-test.true) in
    let more : take (k + 1) events ≡ take k events ++ c.event-item.result ∷ [] =
    take_more events k c.event-item.result c.loop-event-test.true ∙ ap (λ (e : Event). take k events ++ e ∷ []) (sym c.event-item.is) in
    at_fault c.from_residual.result c.in_err-send_message.field-0.0 _ (search rules)
    (cut_short_at c.in_err-send_message.field-0.0 _ _ _ _ _ _ _ c.args.first events k c.loop-event.number c.event-item.result _ within c.loop-event.invariant.numbered more c.loop-event.invariant.going c.loop-event.invariant.steady c.in_err-send_message.ensures.err)

pub loop-event-preserved : goal.loop-event-preserved
loop-event-preserved g c =
    let k = c.loop-event.event-index in
    let events = c.args.events.now in
    let within : k ≤ length events = omega (arith, c.loop-event-test.true) in
    let more : take (k + 1) events ≡ take k events ++ c.event-item.result ∷ [] =
    take_more events k c.event-item.result c.loop-event-test.true ∙ ap (λ (e : Event). take k events ++ e ∷ []) (sym c.event-item.is) in
    record {
      going =
          subst (λ (ms : List Message). AreGoingOut (g.O.Sink.held c.args.output.now) ms (g.O.Sink.held c.send_message.new.output) c.send_message.new.collected)
          (sym (messages_more c.args.first events k c.loop-event.number c.event-item.result within c.loop-event.invariant.numbered more))
          (AreGoingOut-more _ _ _ _ _ _ _ c.loop-event.invariant.going c.in_ok-send_message.ensures.ok);
      numbered = omega (arith, c.loop-event.invariant.numbered);
      steady = c.in_ok-send_message.ensures.steady ∙ c.loop-event.invariant.steady;
    }

pub returns-in_err-flush-clause-err : goal.returns-in_err-flush-clause-err
returns-in_err-flush-clause-err g c =
    let all : length c.args.events.now ≤ c.loop-event.event-index = omega (arith, c.loop-event-test.false) in
    at_fault c.from_residual-in_err-flush.result Write _ (search rules) (
      (c.in_err-flush.ensures.by_one ∙ ap raise c.loop-event.invariant.steady, c.in_err-flush.ensures.broken),
      part_sent _ _ _ _ _ _ (ap (messages_of c.args.first) (take_all c.loop-event.event-index c.args.events.now all)) c.loop-event.invariant.going c.in_err-flush.ensures.err,
    )

pub returns-clause-ok : goal.returns-clause-ok
returns-clause-ok g c =
    let all : length c.args.events.now ≤ c.loop-event.event-index = omega (arith, c.loop-event-test.false) in
    all_sent _ _ _ _ _ _ (ap (messages_of c.args.first) (take_all c.loop-event.event-index c.args.events.now all)) c.loop-event.invariant.going c.in_ok-flush.ensures.ok

pub returns-clause-steady : goal.returns-clause-steady
returns-clause-steady g c = c.in_ok-flush.ensures.steady ∙ c.loop-event.invariant.steady
