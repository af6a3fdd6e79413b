use Rattle.std.proofs.Common.{◌≡◌, ℕ, List, None, Some, ap, ◌∙◌}
use Rattle.file_world.specs.TreeEffect.{child_of}
use Rattle.file_tree.specs.declared.ready.Spot.{Spot}
use Rattle.file_tree.specs.declared.ready.Ready.TheVariants.{Made}
use Rattle.file_tree.specs.Index.{rows_of, spot_place}
use Rattle.file_world.proofs.EffectLemmas.{directory_from}
use Rattle.file_tree.proofs.KeptLemmas.{some_kept, below_after_put, Prepares-made, Stays-released}
use Rattle.file_tree.proofs.preparing.prepare_made.Goals as goal

pub enter-requires : goal.enter-requires
enter-requires c =
    let holds = directory_from (rows_of c.args.nodes.now.entries) c.args.directory c.requires.holds in
    some_kept c.args.nodes.now.entries c.args.directory holds.node holds.found

pub add-requires : goal.add-requires
add-requires c =
    let spot : Spot = record { directory = c.args.directory; name = c.new.result } in
    below_after_put c.args.nodes.now.entries c.enter.new.nodes.entries c.args.next (spot_place spot) (Some 0) c.requires.kept c.in_ok-enter.ensures.ok

pub returns-in-Ok-clause-ok : goal.returns-in-Ok-clause-ok
returns-in-Ok-clause-ok c =
    let spot : Spot = record { directory = c.args.directory; name = c.new.result } in
    let free : child_of (rows_of c.args.nodes.now.entries) c.args.directory c.new.result ≡ None = ap (λ (n : List ℕ). child_of (rows_of c.args.nodes.now.entries) c.args.directory n) c.new.ensures ∙ c.requires.free in (
      ap (λ (n : List ℕ). Made c.args.kind (record { directory = c.args.directory; name = n })) c.new.ensures,
      Prepares-made c.args.nodes.now.entries c.enter.new.nodes.entries c.add.new.nodes.entries c.args.next c.args.kind spot c.requires.kept c.in_ok-enter.ensures.ok c.in-Ok.ensures.ok free,
    )

pub returns-in-Err-clause-err : goal.returns-in-Err-clause-err
returns-in-Err-clause-err c =
    let spot : Spot = record { directory = c.args.directory; name = c.new.result } in
    let free : child_of (rows_of c.args.nodes.now.entries) c.args.directory c.new.result ≡ None = ap (λ (n : List ℕ). child_of (rows_of c.args.nodes.now.entries) c.args.directory n) c.new.ensures ∙ c.requires.free in
    Stays-released c.args.nodes.now.entries c.enter.new.nodes.entries c.add.new.nodes.entries c.release.new.nodes.entries c.args.next spot c.requires.kept c.in_ok-enter.ensures.ok c.in-Err.ensures.err c.release.ensures free
