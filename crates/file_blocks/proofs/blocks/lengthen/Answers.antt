use Rattle.std.proofs.Common.{◌-◌, arith, length}
use Rattle.file_blocks.proofs.TailLemmas.{filled_by, not_filled, length-longer}
use Rattle.file_blocks.proofs.blocks.lengthen.Goals as goal

pub returns-then-len-had-clause-filled : goal.returns-then-len-had-clause-filled
returns-then-len-had-clause-filled c = not_filled c.args.tail.now

pub returns-in_err-longer-clause-filled : goal.returns-in_err-longer-clause-filled
returns-in_err-longer-clause-filled c = not_filled c.args.tail.now

pub returns-clause-short : goal.returns-clause-short
returns-clause-short c =
    let had = c.if-len-had.false in
    let enough = c.tail_size-size.ensures.enough in
    let short = c.tail_size-size.ensures.short in
    let l = length-longer c.args.tail.now c.in_ok-longer.longer c.tail_size-size.result (omega (arith, had, enough)) c.in_ok-longer.ensures in
    omega (arith, l, short)

pub returns-clause-filled : goal.returns-clause-filled
returns-clause-filled c = filled_by c.args.tail.now c.in_ok-longer.longer (c.tail_size-size.result - length c.args.tail.now) c.in_ok-longer.ensures

pub returns-clause-ok : goal.returns-clause-ok
returns-clause-ok c =
    let had = c.if-len-had.false in
    let enough = c.tail_size-size.ensures.enough in
    let l = length-longer c.args.tail.now c.in_ok-longer.longer c.tail_size-size.result (omega (arith, had, enough)) c.in_ok-longer.ensures in
    omega (arith, l, enough)
