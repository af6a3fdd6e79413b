use Rattle.std.proofs.Common.{◌-◌, ◌*◌, refl, arith, length}
use Rattle.file_blocks.proofs.TailLemmas.{put_tail, put_kept}
use Rattle.file_blocks.proofs.blocks.put_all.Goals as goal

pub returns-then-whole-offset-clause-kept : goal.returns-then-whole-offset-clause-kept
returns-then-whole-offset-clause-kept c =
    let past = c.if-whole-offset.true in
    let within = c.requires.within in
    put_kept c.args.blocks.now c.args.blocks.now c.args.tail.now c.put.new.self c.args.bytes.now (c.args.offset - 4096 * length c.args.blocks.now) c.requires.kept c.requires.kept.whole refl (omega (arith, past, within)) c.put.ensures

pub returns-then-whole-offset-clause-bytes : goal.returns-then-whole-offset-clause-bytes
returns-then-whole-offset-clause-bytes c =
    let past = c.if-whole-offset.true in
    put_tail c.args.blocks.now c.args.tail.now c.put.new.self c.args.bytes.now (c.args.offset - 4096 * length c.args.blocks.now) c.args.offset c.requires.kept.whole (omega (arith, past)) c.put.ensures
