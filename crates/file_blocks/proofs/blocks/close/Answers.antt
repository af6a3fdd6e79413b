use Rattle.std.proofs.Common.{List, ℕ, sym, subst}
use Rattle.file_blocks.specs.Blocks.{joined, IsFilledUp}
use Rattle.file_blocks.proofs.TailLemmas.{closed_fills, closed_kept, not_filled}
use Rattle.file_blocks.proofs.blocks.close.Goals as goal

pub returns-in_err-block-clause-filled : goal.returns-in_err-block-clause-filled
returns-in_err-block-clause-filled c = not_filled (joined c.args.blocks.now.items c.args.tail.now)

pub returns-in_err-push-clause-filled : goal.returns-in_err-push-clause-filled
returns-in_err-push-clause-filled c =
    let old : List (List ℕ) = c.args.blocks.now.items in
    subst (λ (s : List (List ℕ)). IsFilledUp (joined old c.args.tail.now) (joined s c.args.tail.now)) (sym c.in_err-push.ensures.items) (not_filled (joined old c.args.tail.now))

pub returns-clause-kept : goal.returns-clause-kept
returns-clause-kept c =
    closed_kept c.args.blocks.now.items c.push.new.self.items c.args.tail.now c.in_ok-block.block c.empty.result c.requires.kept c.requires.few c.in_ok-block.ensures c.in_ok-push.ensures.items c.empty.ensures

pub returns-clause-filled : goal.returns-clause-filled
returns-clause-filled c =
    closed_fills c.args.blocks.now.items c.push.new.self.items c.args.tail.now c.in_ok-block.block c.empty.result c.in_ok-block.ensures c.in_ok-push.ensures.items c.empty.ensures
