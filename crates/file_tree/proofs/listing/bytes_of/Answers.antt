use Rattle.std.proofs.Common.{◌≡◌, Option, List, ℕ, IfOk, sym, ap, ◌∙◌, subst}
use Rattle.file_world.specs.Tree.{Node}
use Rattle.file_world.specs.TreeEffect.{contents_of, bytes_in}
use Rattle.file_tree.proofs.PartLemmas.{none_of_none}
use Rattle.file_tree.proofs.IndexLemmas.{node_at-kept, node_at-missing}
use Rattle.file_tree.proofs.listing.bytes_of.Goals as goal

pub returns-in-None : goal.returns-in-None
returns-in-None c =
    c.new.ensures ∙ (sym (none_of_none c.args.offset c.args.len)
    ∙ ap (λ (n : Option Node). bytes_in (contents_of n) c.args.offset c.args.len) (sym (node_at-missing c.args.nodes.now.entries c.args.number (sym c.in-None.ensures.value))))

pub returns-in-Some : goal.returns-in-Some
returns-in-Some c =
    let found = node_at-kept c.args.nodes.now.entries c.args.number c.in-Some.node.now (sym c.in-Some.ensures.value) in
    subst (λ (contents : List ℕ). IfOk c.part.result (λ bytes. bytes ≡ bytes_in contents c.args.offset c.args.len))
    (ap contents_of (sym found)) c.part.ensures
