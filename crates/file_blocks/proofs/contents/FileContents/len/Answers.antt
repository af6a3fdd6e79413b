use Rattle.std.proofs.Common.{sym, ap, ◌∙◌, length}
use Rattle.file_blocks.specs.Blocks.{ContentsView}
use Rattle.file_blocks.proofs.StepLemmas.{length-contents}
use Rattle.file_blocks.proofs.contents.FileContents.len.Goals as goal

pub returns : goal.returns
returns c =
    sym (length-contents c.self.inside.blocks c.self.inside.len c.self.invariant)
    ∙ ap (λ (v : ContentsView). length v.bytes) c.self.view_is
