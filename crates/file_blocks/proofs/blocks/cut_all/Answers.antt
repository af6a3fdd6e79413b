use Rattle.std.proofs.Common.{◌-◌, ◌*◌, ap, arith, length}
use Rattle.file_blocks.proofs.TailLemmas.{cut_tail, length-cut_tail, cut_blocks}
use Rattle.file_blocks.proofs.blocks.cut_all.Goals as goal

pub returns-then-whole-len-clause-kept : goal.returns-then-whole-len-clause-kept
returns-then-whole-len-clause-kept c =
    let past = c.if-whole-len.true in
    let n = c.len-whole.ensures in
    let o = c.args.blocks.now.ok.0 in
    let within = c.requires.within in
    let short = c.requires.kept.short in
    let l = length-cut_tail c.args.tail.now c.wipe_from.new.self (c.args.len - 4096 * c.len-whole.result) (omega (arith, past, within, n, o)) c.wipe_from.ensures in
    record { whole = c.requires.kept.whole; short = omega (arith, l, short); few = c.requires.kept.few }

pub returns-then-whole-len-clause-bytes : goal.returns-then-whole-len-clause-bytes
returns-then-whole-len-clause-bytes c =
    let past = c.if-whole-len.true in
    let n = c.len-whole.ensures in
    let o = c.args.blocks.now.ok.0 in
    cut_tail c.args.blocks.now.items c.args.tail.now c.wipe_from.new.self (c.args.len - 4096 * c.len-whole.result) c.args.len c.requires.kept.whole (omega (arith, past, n, o)) c.requires.within c.wipe_from.ensures

pub returns-then-whole-len-clause-room : goal.returns-then-whole-len-clause-room
returns-then-whole-len-clause-room c =
    let past = c.if-whole-len.true in
    let n = c.len-whole.ensures in
    let o = c.args.blocks.now.ok.0 in
    let within = c.requires.within in
    let short = c.requires.kept.short in
    let l = length-cut_tail c.args.tail.now c.wipe_from.new.self (c.args.len - 4096 * c.len-whole.result) (omega (arith, past, within, n, o)) c.wipe_from.ensures in
    omega (arith, l, short, past, within, n, o)

pub returns-else-whole-len-clause-kept : goal.returns-else-whole-len-clause-kept
returns-else-whole-len-clause-kept c =
    let few = c.requires.kept.few in
    let le = c.if-whole-len.false in
    let n = c.len-whole.ensures in
    let o = c.args.blocks.now.ok.0 in
    let count = c.cut.ensures.count in
    let none = ap length c.empty.ensures in
    record { whole = c.cut.ensures.whole; short = omega (arith, none); few = omega (arith, few, le, count, n, o) }

pub returns-else-whole-len-clause-bytes : goal.returns-else-whole-len-clause-bytes
returns-else-whole-len-clause-bytes c =
    let le = c.if-whole-len.false in
    let n = c.len-whole.ensures in
    let o = c.args.blocks.now.ok.0 in
    cut_blocks c.args.blocks.now.items c.cut.new.blocks.items c.args.tail.now c.empty.result c.args.len c.requires.kept.whole (omega (arith, le, n, o)) c.cut.ensures.count c.empty.ensures c.cut.ensures.bytes

pub returns-else-whole-len-clause-room : goal.returns-else-whole-len-clause-room
returns-else-whole-len-clause-room c =
    let le = c.if-whole-len.false in
    let n = c.len-whole.ensures in
    let o = c.args.blocks.now.ok.0 in
    let count = c.cut.ensures.count in
    let none = ap length c.empty.ensures in
    omega (arith, le, count, none, n, o)
