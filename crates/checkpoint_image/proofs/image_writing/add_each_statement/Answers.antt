use Rattle.std.proofs.Common.{arith}
use Rattle.checkpoint_image.specs.ImageSpelling.{entry_spelling, IsSpellableEntry, HasFittingSignature}
use Rattle.checkpoint_image.proofs.LoopLemmas.{all_read, all_more, all_all, written_more, written_all}
use Rattle.checkpoint_image.proofs.image_writing.add_each_statement.Goals as goal

pub add_entry-requires : goal.add_entry-requires
add_entry-requires c = all_read HasFittingSignature c.args.statements.now c.loop-entry.entry-index c.entry-item.result c.requires c.loop-entry-test.true c.entry-item.is

pub loop-entry-preserved : goal.loop-entry-preserved
loop-entry-preserved c = (
  written_more entry_spelling c.args.statements.now c.loop-entry.entry-index c.entry-item.result c.args.out.now c.loop-entry.out c.add_entry.new.out c.loop-entry-test.true c.entry-item.is c.loop-entry.invariant.0 c.in_ok-add_entry.ensures.ok,
  all_more IsSpellableEntry c.args.statements.now c.loop-entry.entry-index c.entry-item.result c.loop-entry-test.true c.entry-item.is c.loop-entry.invariant.1 c.in_ok-add_entry.ensures.spelled,
)

pub returns-clause-ok : goal.returns-clause-ok
returns-clause-ok c = written_all entry_spelling c.args.statements.now c.loop-entry.entry-index c.args.out.now c.loop-entry.out (omega (arith, c.loop-entry-test.false)) c.loop-entry.invariant.0

pub returns-clause-spelled : goal.returns-clause-spelled
returns-clause-spelled c = all_all IsSpellableEntry c.args.statements.now c.loop-entry.entry-index (omega (arith, c.loop-entry-test.false)) c.loop-entry.invariant.1
