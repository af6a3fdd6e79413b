use Rattle.std.proofs.Common.{ap, ◌∙◌}
use Rattle.file_blocks.specs.Blocks.{ContentsView}
use Rattle.file_blocks.proofs.StepLemmas.{roomier}
use Rattle.file_blocks.proofs.contents.FileContents.reserve.Goals as goal

pub invariant_of-self : goal.invariant_of-self
invariant_of-self c = (roomier c.self.inside.blocks c.grow.new.self c.self.inside.len c.self.invariant c.grow.ensures.few c.grow.ensures.filled).kept

pub returns-clause-bytes : goal.returns-clause-bytes
returns-clause-bytes c =
    (roomier c.self.inside.blocks c.grow.new.self c.self.inside.len c.self.invariant c.grow.ensures.few c.grow.ensures.filled).same
    ∙ ap (λ (v : ContentsView). v.bytes) c.self.view_is
