use Rattle.std.proofs.Common.{ℕ, List, ◌≤◌, OnOk, sym, subst, arith}
use Rattle.file_blocks.specs.Blocks.{joined, IsFilledUp}
use Rattle.file_blocks.proofs.TailLemmas.{length-joined}
use Rattle.file_blocks.proofs.blocks.Blocks.grow.Goals as goal

pub returns-clause-filled : goal.returns-clause-filled
returns-clause-filled c =
    subst (λ (s : List ℕ). IsFilledUp s (joined c.grow_all.new.blocks.items c.grow_all.new.tail)) c.self.view_is c.grow_all.ensures.filled

pub returns-clause-few : goal.returns-clause-few
returns-clause-few c =
    let l = length-joined c.grow_all.new.blocks.items c.grow_all.new.tail c.grow_all.ensures.kept.whole in
    let few = c.grow_all.ensures.kept.few in
    let short = c.grow_all.ensures.kept.short in
    omega (arith, l, few, short)

pub returns-clause-ok : goal.returns-clause-ok
returns-clause-ok c =
    subst (λ (n : ℕ). OnOk c.grow_all.result (c.args.len ≤ n)) (sym (length-joined c.grow_all.new.blocks.items c.grow_all.new.tail c.grow_all.ensures.kept.whole)) c.grow_all.ensures.ok
