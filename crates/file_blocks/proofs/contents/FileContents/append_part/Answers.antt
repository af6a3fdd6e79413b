use Rattle.std.proofs.Common.{◌≡◌, ◌+◌, ◌++◌, ℕ, List, OnOk, ap, ◌∙◌, subst}
use Rattle.file_world.specs.TreeEffect.{bytes_in}
use Rattle.file_blocks.specs.Blocks.{ContentsView}
use Rattle.file_blocks.proofs.ContentsLemmas.{part_of}
use Rattle.file_blocks.proofs.StepLemmas.{within_all}
use Rattle.file_blocks.proofs.contents.FileContents.append_part.Goals as goal

pub returns-clause-ok : goal.returns-clause-ok
returns-clause-ok c =
    let all : List ℕ = c.self.inside.blocks in
    let start : ℕ = c.min-start.result in
    let end : ℕ = start + c.min.result in
    let part = part_of all c.self.inside.len c.args.offset c.args.len start end (within_all all c.self.inside.len c.self.invariant) c.min-start.ensures (ap (λ (n : ℕ). start + n) c.min.ensures) in
    subst (λ (s : List ℕ). OnOk c.append.result (c.append.new.out ≡ c.args.out.now ++ s))
    (part ∙ ap (λ (v : ContentsView). bytes_in v.bytes c.args.offset c.args.len) c.self.view_is)
    c.append.ensures.ok
