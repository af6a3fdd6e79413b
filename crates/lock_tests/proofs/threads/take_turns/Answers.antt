use Rattle.lock_tests.proofs.CountingLemmas.{counts_on}
use Rattle.lock_tests.proofs.threads.take_turns.Goals as goal

pub loop-number-preserved : goal.loop-number-preserved
loop-number-preserved g c =
    let i = c.loop-number.invariant in
    counts_on _ c.loop-number.pass c.turn.new.pass c.args.pass c.loop-number.number c.turn.result c.turn.ensures c.if-not-turn.false i.0 i.1 i.2
