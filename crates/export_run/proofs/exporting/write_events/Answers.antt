-- The later events of a lawful history fit messages.
use Rattle.std.proofs.Common.{ap, ◌-◌, ◌∙◌, drop, List}
use Rattle.journal_records.specs.declared.event.Event.{Event}
use Rattle.export_run.proofs.ExportLemmas.{fit_after}
use Rattle.export_run.proofs.exporting.write_events.Goals as goal

pub write_messages-requires-clause-fit : goal.write_messages-requires-clause-fit
write_messages-requires-clause-fit g c =
    let first = c.args.from - c.count.result - 1 in
    fit_after c.args.history.now.key c.args.history.now.ring c.args.history.now.base c.args.history.now.events c.lemma_is_lawful.ensures c.payloads_are_short.ensures first c.events_after-events.result.now
    (c.events_after-events.ensures ∙ ap (λ (es : List Event). drop first es) c.events.ensures)
