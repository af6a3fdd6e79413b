use Rattle.std.proofs.Common.{rules}
use Rattle.procap.proofs.ProcapLemmas.{grant_stops, tag_is_short, procap_is_read}
use Rattle.procap.proofs.reading.procap_at.Goals as goal

pub returns-in-Err : goal.returns-in-Err
returns-in-Err c = grant_stops c.args.input c.args.bytes.now c.in-Err.fault c.in-Err.ensures

pub returns-then-rest-lt-TAG_LENGTH : goal.returns-then-rest-lt-TAG_LENGTH
returns-then-rest-lt-TAG_LENGTH c = tag_is_short c.args.input c.args.bytes.now c.in-Ok.rest.now c.in-Ok.grant c.in-Ok.ensures c.if-rest-lt-TAG_LENGTH.true

pub returns-else-rest-lt-TAG_LENGTH : goal.returns-else-rest-lt-TAG_LENGTH
returns-else-rest-lt-TAG_LENGTH c =
    let read = procap_is_read c.args.input c.args.bytes.now c.in-Ok.rest.now c.in-Ok.grant c.in-Ok.ensures c.if-rest-lt-TAG_LENGTH.false in
    search (rules, read)
