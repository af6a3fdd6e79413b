use Rattle.std.proofs.Common.{Err, arith}
use Rattle.journal_records.proofs.EventLemmas.{event_stops, ends, reads, reads_what_fits}
use Rattle.journal_records.proofs.reading.read_event.Goals as goal

pub returns-in-Err-clause-exact : goal.returns-in-Err-clause-exact
returns-in-Err-clause-exact c = event_stops c.args.bytes.now c.in-Err.fault c.in-Err.ensures

pub returns-in-Err-clause-whole : goal.returns-in-Err-clause-whole
returns-in-Err-clause-whole c = reads c.args.bytes.now (Err c.in-Err.fault) (λ i. omega (arith, c.type_inv.bytes i)) (event_stops c.args.bytes.now c.in-Err.fault c.in-Err.ensures)

pub returns-in-Ok-clause-exact : goal.returns-in-Ok-clause-exact
returns-in-Ok-clause-exact c = ends c.args.bytes.now c.in-Ok.rest.now c.in-Ok.event c.at_end.result c.in-Ok.ensures c.at_end.ensures

pub returns-in-Ok-clause-whole : goal.returns-in-Ok-clause-whole
returns-in-Ok-clause-whole c =
    reads c.args.bytes.now c.at_end.result (λ i. omega (arith, c.type_inv.bytes i)) (ends c.args.bytes.now c.in-Ok.rest.now c.in-Ok.event c.at_end.result c.in-Ok.ensures c.at_end.ensures)

pub returns-in-Ok-clause-fits : goal.returns-in-Ok-clause-fits
returns-in-Ok-clause-fits c =
    reads_what_fits c.args.bytes.now c.at_end.result (λ i. omega (arith, c.type_inv.bytes i)) (ends c.args.bytes.now c.in-Ok.rest.now c.in-Ok.event c.at_end.result c.in-Ok.ensures c.at_end.ensures)
