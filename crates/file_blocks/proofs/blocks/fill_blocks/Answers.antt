use Rattle.std.proofs.Common.{◌-◌, ◌*◌, ℕ, List, arith, length}
use Rattle.file_blocks.specs.Blocks.{joined}
use Rattle.file_blocks.proofs.TailLemmas.{filled_twice, filled_blocks, not_filled}
use Rattle.file_blocks.proofs.blocks.fill_blocks.Goals as goal

pub returns-then-count-there-clause-filled : goal.returns-then-count-there-clause-filled
returns-then-count-there-clause-filled c = not_filled (joined c.args.blocks.now.items c.args.tail.now)

pub returns-clause-kept : goal.returns-clause-kept
returns-clause-kept c =
    let bounded = c.fill_up.ensures.bounded in
    let most = c.requires.few in
    let few = c.close.ensures.kept.few in
    record {
      whole = c.fill_up.ensures.whole;
      short = c.close.ensures.kept.short;
      few = omega (arith, bounded, most, few);
    }

pub returns-clause-filled : goal.returns-clause-filled
returns-clause-filled c =
    let mid : List (List ℕ) = c.close.new.blocks.items in
    let new : List (List ℕ) = c.fill_up.new.blocks.items in
    let tail : List ℕ = c.close.new.tail in
    filled_twice (joined c.args.blocks.now.items c.args.tail.now) (joined mid tail) (joined new tail) c.close.ensures.filled
    (filled_blocks mid new tail (4096 * (length new - length mid)) c.in_ok-close.ensures.ok c.fill_up.ensures.bytes)
