-- The node's entry goes, and then its name.
use Rattle.std.proofs.Common.{◌≡◌, Option, length, ap, ◌∙◌, arith}
use Rattle.file_world.specs.Tree.{Node}
use Rattle.file_world.specs.TreeEffect.{contents_of}
use Rattle.file_tree.specs.Index.{rows_of, spot_place}
use Rattle.file_tree.proofs.IndexLemmas.{node_at-kept}
use Rattle.file_tree.proofs.KeptLemmas.{length_in_sum}
use Rattle.file_tree.proofs.ApplyLemmas.{Removes-from, kept_from_some, part_le_sum}
use Rattle.file_tree.proofs.applying.unlink.Goals as goal

pub overflow_sub-result : goal.overflow_sub-result
overflow_sub-result c = omega (arith, length_in_sum (rows_of c.args.nodes.now.entries) c.args.number, c.length_at-freed.ensures, c.requires.summed)

pub returns : goal.returns
returns c =
    let old = c.args.nodes.now.entries in
    let was = kept_from_some old c.args.number c.requires.there in
    let freed : c.length_at-freed.result ≡ length was.0.contents.bytes =
    c.length_at-freed.ensures ∙ ap (λ (n : Option Node). length (contents_of n)) (node_at-kept old c.args.number was.0 was.1) in
    Removes-from old c.remove.new.self.entries c.release.new.nodes.entries c.args.number (spot_place c.args.spot.now) was.0 _ was.1 c.remove.ensures.entries c.remove.ensures.updates.0 c.release.ensures
    (omega (arith, freed, part_le_sum old c.args.number was.0 was.1, c.requires.summed))
