use Rattle.std.proofs.Common.{ap, arith, length}
use Rattle.file_blocks.proofs.TailLemmas.{length-joined}
use Rattle.file_blocks.proofs.blocks.Blocks.len.Goals as goal

pub returns : goal.returns
returns c =
    let l = length-joined c.self.inside.whole.items c.self.inside.tail c.self.invariant.whole in
    let v = ap length c.self.view_is in
    let n = c.self.inside.whole.ok.0 in
    omega (arith, l, v, n)
