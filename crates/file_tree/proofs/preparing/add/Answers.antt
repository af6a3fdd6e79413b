-- The new number is above all others, so its node goes to the end.
use Rattle.std.proofs.Common.{ℕ, List, ◌∙◌, ap}
use Rattle.file_world.specs.Tree.{Node}
use Rattle.file_tree.specs.declared.node.KeptNode.{KeptNode as Kept}
use Rattle.file_tree.specs.Index.{spot_place}
use Rattle.file_tree.proofs.IndexLemmas.{insert-last}
use Rattle.file_tree.proofs.preparing.add.Goals as goal

pub returns-in-Ok-clause-ok : goal.returns-in-Ok-clause-ok
returns-in-Ok-clause-ok c =
    let kept : Kept = record { kind = c.args.kind; parent = c.args.spot.now.directory; name = c.args.spot.now.name; contents = c.new.result; names = c.new-2.result } in
    record {
      kept = kept;
      last = c.in-Ok.ensures.entries ∙ insert-last c.args.nodes.now.entries c.args.next kept c.insert-put.ensures.was_ordered c.requires;
      shows = (let f : List ℕ → Node = λ contents. record { kind = c.args.kind; place = spot_place c.args.spot.now; contents = contents } in ap f c.new.ensures);
      no_names = c.new-2.ensures.empty;
    }
