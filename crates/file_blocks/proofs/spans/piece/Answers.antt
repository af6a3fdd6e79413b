use Rattle.std.proofs.Common.{◌+◌, ◌-◌, ◌*◌, ◌%◌, ◌/◌, ℕ, List, ◌∙◌, arith, length, take, drop}
use Rattle.std.specs.List.{concat}
use Rattle.std.proofs.lemmas.List.{length-take}
use Rattle.file_blocks.proofs.BlockLemmas.{length-concat}
use Rattle.file_blocks.proofs.StepLemmas.{piece_is}
use Rattle.file_blocks.proofs.TailLemmas.{part_joined, piece_of_tail}
use Rattle.file_blocks.proofs.spans.piece.Goals as goal

pub returns-then-whole-at-clause-part : goal.returns-then-whole-at-clause-part
returns-then-whole-at-clause-part c =
    let whole : ℕ = 4096 * length c.args.blocks.now in
    let past = c.if-whole-at.true in
    let some = c.requires.some in
    piece_of_tail c.args.blocks.now c.args.tail.now c.as_slice.result.now (c.args.at - whole) (c.args.end - whole - (c.args.at - whole)) c.args.at c.args.end c.requires.whole
    (omega (arith, past)) (omega (arith, past, some)) some c.requires.within c.as_slice.ensures

pub returns-clause-part : goal.returns-clause-part
returns-clause-part c =
    let blocks : List (List ℕ) = c.args.blocks.now in
    let start = c.args.at % 4096 in
    let count = c.min-count.result in
    let least = c.min-count.ensures in
    let before = c.if-whole-at.false in
    let part : List ℕ = take (start + count - start) (drop start c.as_slice-bytes.result.now) in
    let l = length-concat 4096 blocks c.requires.whole in
    let t = length-take (start + count - start) (drop start c.as_slice-bytes.result.now) in
    piece_is blocks c.index-blocks-at.result c.as_slice-bytes.result.now (c.args.at / 4096) start count (start + count - start) c.args.at c.requires.whole
    (omega (arith, before)) (omega (arith, least)) (omega arith) c.index-blocks-at.is c.as_slice-bytes.ensures (omega arith)
    ∙ part_joined (concat blocks) c.args.tail.now c.args.at (length part) (omega (arith, l, t, least, before))
