use Rattle.std.proofs.Common.{ℕ, List}
use Rattle.std.specs.List.{concat}
use Rattle.file_blocks.specs.Blocks.{joined}
use Rattle.file_blocks.proofs.TailLemmas.{filled_twice, filled_after}
use Rattle.file_blocks.proofs.blocks.grow_all.Goals as goal

pub returns-clause-kept : goal.returns-clause-kept
returns-clause-kept c = record {
  whole = c.fill_blocks.ensures.kept.whole;
  short = c.lengthen.ensures.short;
  few = c.fill_blocks.ensures.kept.few;
}

pub returns-clause-filled : goal.returns-clause-filled
returns-clause-filled c =
    let mid : List (List ℕ) = c.fill_blocks.new.blocks.items in
    let before : List ℕ = c.fill_blocks.new.tail in
    let after : List ℕ = c.lengthen.new.tail in
    filled_twice (joined c.args.blocks.now.items c.args.tail.now) (joined mid before) (joined mid after) c.fill_blocks.ensures.filled
    (filled_after (concat mid) before after c.lengthen.ensures.filled)
