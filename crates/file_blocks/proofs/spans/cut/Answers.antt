use Rattle.std.proofs.Common.{◌≡◌, ◌/◌, List, ℕ, ap, ◌∙◌, refl, arith, take, set}
use Rattle.file_blocks.specs.Blocks.{blocks_for}
use Rattle.file_blocks.proofs.StepLemmas.{cut_at_end, cut_changed}
use Rattle.file_blocks.proofs.spans.cut.Goals as goal

pub returns-then-start-ne0-clause-bytes : goal.returns-then-start-ne0-clause-bytes
returns-then-start-ne0-clause-bytes c =
    let old : List (List ℕ) = c.args.blocks.now.items in
    let kept : List (List ℕ) = c.truncate.new.self.items in
    let is : kept ≡ take (blocks_for c.args.len) old = c.truncate.ensures.items ∙ ap (λ (n : ℕ). take n old) c.blocks_for.ensures in
    (cut_changed old kept (set kept (c.args.len / 4096) c.wipe_from.new.self) c.index_mut.result.now c.wipe_from.new.self c.args.len c.requires.whole c.requires.within is c.if-start-ne0.true c.index_mut.ensures.value c.wipe_from.ensures refl).0

pub returns-then-start-ne0-clause-whole : goal.returns-then-start-ne0-clause-whole
returns-then-start-ne0-clause-whole c =
    let old : List (List ℕ) = c.args.blocks.now.items in
    let kept : List (List ℕ) = c.truncate.new.self.items in
    let is : kept ≡ take (blocks_for c.args.len) old = c.truncate.ensures.items ∙ ap (λ (n : ℕ). take n old) c.blocks_for.ensures in
    (cut_changed old kept (set kept (c.args.len / 4096) c.wipe_from.new.self) c.index_mut.result.now c.wipe_from.new.self c.args.len c.requires.whole c.requires.within is c.if-start-ne0.true c.index_mut.ensures.value c.wipe_from.ensures refl).1

pub returns-else-start-ne0-clause-bytes : goal.returns-else-start-ne0-clause-bytes
returns-else-start-ne0-clause-bytes c =
    let zero = c.if-start-ne0.false in
    let is : c.truncate.new.self.items ≡ take (blocks_for c.args.len) c.args.blocks.now.items = c.truncate.ensures.items ∙ ap (λ (n : ℕ). take n c.args.blocks.now.items) c.blocks_for.ensures in
    cut_at_end c.args.blocks.now.items c.truncate.new.self.items (blocks_for c.args.len) c.args.len c.requires.whole is (omega (arith, zero))
