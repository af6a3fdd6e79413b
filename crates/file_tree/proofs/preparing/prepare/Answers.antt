-- What the absence of a refusal says of the nodes and names that an operation names.
use Rattle.std.proofs.Common.{◌≡◌, ◌≤◌, ℕ, List, None, length, sym, subst}
use Rattle.std.proofs.lemmas.Bool.{not-false}
use Rattle.file_world.specs.declared.operation.TreeOp.{TreeOp}
use Rattle.file_world.specs.declared.operation.TreeOp.TheVariants.{Write, Truncate, Create, Mkdir, Unlink, Rename}
use Rattle.file_world.specs.TreeEffect.{tests_of, tree_refusal}
use Rattle.file_world.proofs.EffectLemmas.{none_hold, file_from}
use Rattle.file_tree.specs.Index.{rows_of, tree_in}
use Rattle.file_tree.proofs.KeptLemmas.{some_kept, short_name}
use Rattle.file_tree.proofs.preparing.prepare.Goals as goal

pub prepare_contents-requires-clause-there : goal.prepare_contents-requires-clause-there
prepare_contents-requires-clause-there c =
    let entries = c.args.nodes.now.entries in
    let tree = tree_in None entries c.args.next in
    let free = subst (λ (o : TreeOp). tree_refusal tree o ≡ None) c.in-Write.is c.requires.free in
    let h = none_hold (tests_of tree (Write c.in-Write.file c.in-Write.offset c.in-Write.bytes)) free in
    let found = file_from (rows_of entries) c.in-Write.file.0 h.0 h.1.0 in
    some_kept entries c.in-Write.file.0 found.0 found.1

pub prepare_contents-requires-in-Truncate-clause-there : goal.prepare_contents-requires-in-Truncate-clause-there
prepare_contents-requires-in-Truncate-clause-there c =
    let entries = c.args.nodes.now.entries in
    let tree = tree_in None entries c.args.next in
    let free = subst (λ (o : TreeOp). tree_refusal tree o ≡ None) c.in-Truncate.is c.requires.free in
    let h = none_hold (tests_of tree (Truncate c.in-Truncate.file c.in-Truncate.len)) free in
    let found = file_from (rows_of entries) c.in-Truncate.file.0 h.0 h.1.0 in
    some_kept entries c.in-Truncate.file.0 found.0 found.1

pub prepare_made-requires-clause-short : goal.prepare_made-requires-clause-short
prepare_made-requires-clause-short c =
    let tree = tree_in None c.args.nodes.now.entries c.args.next in
    let free = subst (λ (o : TreeOp). tree_refusal tree o ≡ None) c.in-Create.is c.requires.free in
    let h = none_hold (tests_of tree (Create c.in-Create.directory c.in-Create.name)) free in
    subst (λ (n : List ℕ). length n ≤ 64) (sym c.as_slice.ensures) (short_name c.in-Create.name (not-false _ h.1.1.0))

pub prepare_made-requires-in-Mkdir-clause-short : goal.prepare_made-requires-in-Mkdir-clause-short
prepare_made-requires-in-Mkdir-clause-short c =
    let tree = tree_in None c.args.nodes.now.entries c.args.next in
    let free = subst (λ (o : TreeOp). tree_refusal tree o ≡ None) c.in-Mkdir.is c.requires.free in
    let h = none_hold (tests_of tree (Mkdir c.in-Mkdir.directory c.in-Mkdir.name)) free in
    subst (λ (n : List ℕ). length n ≤ 64) (sym c.as_slice-in-Mkdir.ensures) (short_name c.in-Mkdir.name (not-false _ h.1.1.0))

pub new-requires : goal.new-requires
new-requires c =
    let tree = tree_in None c.args.nodes.now.entries c.args.next in
    let free = subst (λ (o : TreeOp). tree_refusal tree o ≡ None) c.in-Unlink.is c.requires.free in
    let h = none_hold (tests_of tree (Unlink c.in-Unlink.directory c.in-Unlink.name)) free in
    subst (λ (n : List ℕ). length n ≤ 64) (sym c.as_slice-in-Unlink-2.ensures) (short_name c.in-Unlink.name (not-false _ h.1.1.0))

pub new-requires-in-Rename : goal.new-requires-in-Rename
new-requires-in-Rename c =
    let tree = tree_in None c.args.nodes.now.entries c.args.next in
    let free = subst (λ (o : TreeOp). tree_refusal tree o ≡ None) c.in-Rename.is c.requires.free in
    let h = none_hold (tests_of tree (Rename c.in-Rename.directory c.in-Rename.name c.in-Rename.target c.in-Rename.renamed)) free in
    subst (λ (n : List ℕ). length n ≤ 64) (sym c.as_slice-in-Rename-2.ensures) (short_name c.in-Rename.name (not-false _ h.1.1.0))

pub new-requires-in-Rename-2 : goal.new-requires-in-Rename-2
new-requires-in-Rename-2 c =
    let tree = tree_in None c.args.nodes.now.entries c.args.next in
    let free = subst (λ (o : TreeOp). tree_refusal tree o ≡ None) c.in-Rename.is c.requires.free in
    let h = none_hold (tests_of tree (Rename c.in-Rename.directory c.in-Rename.name c.in-Rename.target c.in-Rename.renamed)) free in
    subst (λ (n : List ℕ). length n ≤ 64) (sym c.as_slice-in-Rename-3.ensures) (short_name c.in-Rename.renamed (not-false _ h.1.1.1.1.1.0))
