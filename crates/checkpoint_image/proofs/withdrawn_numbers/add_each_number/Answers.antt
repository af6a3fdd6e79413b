use Rattle.std.proofs.Common.{ℕ, ◌+◌, ap, arith}
use Rattle.checkpoint_image.proofs.WithdrawnLemmas.{numbers_written, numbers_all_written}
use Rattle.checkpoint_image.proofs.withdrawn_numbers.add_each_number.Goals as goal

pub loop-entry-preserved : goal.loop-entry-preserved
loop-entry-preserved c = (
  ap (λ (n : ℕ). n + 1) c.loop-entry.invariant.0,
  numbers_written c.args.statements.now c.loop-entry.entry-index c.loop-entry.number c.entry-item.result c.args.out.now c.loop-entry.out c.add_number.new.out c.loop-entry-test.true c.entry-item.is c.loop-entry.invariant.0 c.loop-entry.invariant.1 c.in_ok-add_number.ensures.ok,
)

pub returns-clause-ok : goal.returns-clause-ok
returns-clause-ok c = numbers_all_written c.args.statements.now c.loop-entry.entry-index c.args.out.now c.loop-entry.out (omega (arith, c.loop-entry-test.false)) c.loop-entry.invariant.1
