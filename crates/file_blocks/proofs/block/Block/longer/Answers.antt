use Rattle.std.proofs.Common.{ℕ, List, ap, ◌∙◌, arith, length}
use Rattle.file_blocks.specs.Blocks.{over, zeros}
use Rattle.file_blocks.proofs.OverLemmas.{length-zeros}
use Rattle.file_blocks.proofs.TailLemmas.{put_first}
use Rattle.file_blocks.proofs.block.Block.longer.Goals as goal

pub put-requires : goal.put-requires
put-requires c =
    let z = length-zeros c.args.len in
    let e = ap length c.in_ok-block.ensures in
    let s = ap length c.as_slice.ensures in
    let fits = c.requires in
    omega (arith, z, e, s, fits)

pub returns : goal.returns
returns c =
    put_first c.args.self.now c.put.new.self c.args.len c.requires
    (c.put.ensures
    ∙ (ap (λ (b : List ℕ). over b 0 c.as_slice.result.now) c.in_ok-block.ensures
    ∙ ap (λ (s : List ℕ). over (zeros c.args.len) 0 s) c.as_slice.ensures))
