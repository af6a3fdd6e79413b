-- Each line is one reply.
use Rattle.line_text.specs.Lines.{lines_of}
use Rattle.pcfs_tools.proofs.LoadLemmas.{count_next, count_end, counted_few}
use Rattle.pcfs_tools.proofs.loading.count_of.Goals as goal

pub loop-reply-preserved : goal.loop-reply-preserved
loop-reply-preserved c = (
  count_next c.args.word.now c.in-Some.reply.now (lines_of c.loop-reply.rest.now) (lines_of c.in-Some.others.now) c.begins_with_word.result c.loop-reply.count c.counted-count.result _ c.in-Some.ensures.lines c.begins_with_word.ensures c.counted-count.ensures c.loop-reply.invariant.0,
  counted_few c.begins_with_word.result c.loop-reply.count c.counted-count.result _ _ _ c.counted-count.ensures c.in-Some.ensures.shorter c.loop-reply.invariant.1,
)

pub returns : goal.returns
returns c = count_end c.args.word.now c.loop-reply.rest.now c.loop-reply.count _ c.in_default.ensures.lines c.loop-reply.invariant.0
