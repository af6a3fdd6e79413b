use Rattle.std.proofs.Common.{arith}
use Rattle.std.proofs.lemmas.Bool.{lt-ltb}
use Rattle.bl_syntax.proofs.ReportsFaultLemmas.{stops}
use Rattle.procap.proofs.NamesLemmas.{rising_none, rising_fault, rising_refused, rising_more, not_above}
use Rattle.procap.proofs.reading.+add_rising_at.Goals as goal

pub returns-then-count-eq0 : goal.returns-then-count-eq0
returns-then-count-eq0 t c = rising_none c.args.count c.args.previous c.args.input c.args.numbers.now c.args.bytes.now c.if-count-eq0.true

pub returns-in-Err : goal.returns-in-Err
returns-in-Err t c =
    stops c.in-Err.fault _ (rising_fault c.args.count c.args.previous c.args.input c.args.numbers.now c.args.bytes.now c.in-Err.fault (omega (arith, c.if-count-eq0.false)) c.in-Err.ensures)

pub returns-then-number-previous : goal.returns-then-number-previous
returns-then-number-previous t c =
    rw c.place.ensures (rising_refused c.args.count c.args.previous c.args.input c.args.numbers.now c.args.bytes.now c.in-Ok.number c.in-Ok.rest.now (omega (arith, c.if-count-eq0.false)) c.in-Ok.ensures
    (not_above c.args.previous c.in-Ok.number c.if-number-previous.true))

pub returns-in_ok-push-in-Ok : goal.returns-in_ok-push-in-Ok
returns-in_ok-push-in-Ok t c =
    rw (
      rising_more c.args.count c.args.previous c.args.input c.args.numbers.now c.args.bytes.now c.in-Ok.number c.in-Ok.rest.now (omega (arith, c.if-count-eq0.false)) c.in-Ok.ensures
          (lt-ltb c.args.previous c.in-Ok.number (omega (arith, c.if-number-previous.false))),
      ← c.in_ok-push-in-Ok.ensures.ok,
    )
    c.add_rising_at.ensures
