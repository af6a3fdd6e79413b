use Rattle.std.proofs.Common.{suc, ◌≡◌, ◌+◌, ◌-◌, arith}
use Rattle.nine_messages.specs.Fields.{after, text_at, many_at}
use Rattle.nine_messages.proofs.NamesLemmas.{after_more, after_fault, after_last}
use Rattle.nine_messages.proofs.names.after_texts.Goals as goal

pub returns-in-None : goal.returns-in-None
returns-in-None c =
    let one_more : c.args.count - c.loop.counter ≡ suc (c.args.count - (c.loop.counter + 1)) = omega arith in
    after_fault (c.args.count - c.loop.counter) (c.args.count - (c.loop.counter + 1)) c.loop.rest.now (after (many_at text_at c.args.count c.args.bytes.now)) one_more c.in-None.ensures c.loop.invariant

pub loop-preserved : goal.loop-preserved
loop-preserved c =
    let one_more : c.args.count - c.loop.counter ≡ suc (c.args.count - (c.loop.counter + 1)) = omega arith in
    after_more (c.args.count - c.loop.counter) (c.args.count - (c.loop.counter + 1)) c.loop.rest.now _ _ (after (many_at text_at c.args.count c.args.bytes.now)) one_more c.in-Some.ensures c.loop.invariant

pub returns : goal.returns
returns c =
    let none_left : c.args.count - c.loop.counter ≡ 0 = omega arith in
    after_last (c.args.count - c.loop.counter) c.loop.rest.now (after (many_at text_at c.args.count c.args.bytes.now)) none_left c.loop.invariant
