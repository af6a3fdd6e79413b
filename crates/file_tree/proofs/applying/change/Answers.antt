-- Each operation's change is what was made ready for it.
use Rattle.std.proofs.Common.{◌≤◌, ℕ, List, IsSome, length, sym, ap, ◌∙◌, subst, arith}
use Rattle.file_world.specs.Tree.{node_at, contents_sum}
use Rattle.file_world.specs.TreeEffect.{contents_of, write_at, at}
use Rattle.file_tree.specs.Index.{rows_of, kept_at, reserved_at, HasContentsRoom, Removes, Relocates}
use Rattle.file_tree.proofs.ChangeLemmas.{at_create, changes_create, at_mkdir, changes_mkdir, at_write, changes_write, at_truncate, changes_truncate, little_sum, at_unlink, changes_unlink, at_rename, changes_rename}
use Rattle.file_tree.proofs.applying.change.Goals as goal

pub make-requires-clause-short : goal.make-requires-clause-short
make-requires-clause-short c =
    let is = at_create c.args.nodes.now.entries c.args.next.now c.args.ready.now c.args.op.now c.in-Create.directory c.in-Create.name c.in-Create.is c.requires.ready in
    subst (λ (n : List ℕ). length n ≤ 64) (sym c.as_slice-in-Create.ensures) is.short

pub make-requires-clause-holds : goal.make-requires-clause-holds
make-requires-clause-holds c = (at_create c.args.nodes.now.entries c.args.next.now c.args.ready.now c.args.op.now c.in-Create.directory c.in-Create.name c.in-Create.is c.requires.ready).holds

pub make-requires-clause-held : goal.make-requires-clause-held
make-requires-clause-held c =
    let is = at_create c.args.nodes.now.entries c.args.next.now c.args.ready.now c.args.op.now c.in-Create.directory c.in-Create.name c.in-Create.is c.requires.ready in
    subst (λ (n : List ℕ). IsSome (reserved_at c.args.nodes.now.entries c.in-Create.directory.0 n)) (sym c.as_slice-in-Create.ensures) is.held

pub make-requires-in-Mkdir-clause-short : goal.make-requires-in-Mkdir-clause-short
make-requires-in-Mkdir-clause-short c =
    let is = at_mkdir c.args.nodes.now.entries c.args.next.now c.args.ready.now c.args.op.now c.in-Mkdir.directory c.in-Mkdir.name c.in-Mkdir.is c.requires.ready in
    subst (λ (n : List ℕ). length n ≤ 64) (sym c.as_slice-in-Mkdir.ensures) is.short

pub make-requires-in-Mkdir-clause-holds : goal.make-requires-in-Mkdir-clause-holds
make-requires-in-Mkdir-clause-holds c = (at_mkdir c.args.nodes.now.entries c.args.next.now c.args.ready.now c.args.op.now c.in-Mkdir.directory c.in-Mkdir.name c.in-Mkdir.is c.requires.ready).holds

pub make-requires-in-Mkdir-clause-held : goal.make-requires-in-Mkdir-clause-held
make-requires-in-Mkdir-clause-held c =
    let is = at_mkdir c.args.nodes.now.entries c.args.next.now c.args.ready.now c.args.op.now c.in-Mkdir.directory c.in-Mkdir.name c.in-Mkdir.is c.requires.ready in
    subst (λ (n : List ℕ). IsSome (reserved_at c.args.nodes.now.entries c.in-Mkdir.directory.0 n)) (sym c.as_slice-in-Mkdir.ensures) is.held

pub returns-in-Create : goal.returns-in-Create
returns-in-Create c =
    changes_create c.args.nodes.now.entries c.make.new.nodes.entries c.args.next.now c.args.total.now c.args.ready.now c.args.op.now c.in-Create.directory c.in-Create.name c.as_slice-in-Create.result.now c.in-Create.is c.as_slice-in-Create.ensures c.requires.ready c.requires.summed c.make.ensures

pub returns-in-Mkdir : goal.returns-in-Mkdir
returns-in-Mkdir c =
    changes_mkdir c.args.nodes.now.entries c.make-in-Mkdir.new.nodes.entries c.args.next.now c.args.total.now c.args.ready.now c.args.op.now c.in-Mkdir.directory c.in-Mkdir.name c.as_slice-in-Mkdir.result.now c.in-Mkdir.is c.as_slice-in-Mkdir.ensures c.requires.ready c.requires.summed c.make-in-Mkdir.ensures

pub write-requires-clause-there : goal.write-requires-clause-there
write-requires-clause-there c =
    let old = c.args.nodes.now.entries in
    let is = at_write old c.args.next.now c.args.ready.now c.args.op.now c.in-Write.file c.in-Write.offset c.in-Write.bytes c.in-Write.is c.requires.ready in
    subst (λ (b : List ℕ). HasContentsRoom old c.in-Write.file.0 (length (write_at (contents_of (node_at (rows_of old) c.in-Write.file.0)) c.in-Write.offset b))) (sym c.as_slice.ensures) is.0.room

pub write-requires-clause-fits : goal.write-requires-clause-fits
write-requires-clause-fits c =
    let is = at_write c.args.nodes.now.entries c.args.next.now c.args.ready.now c.args.op.now c.in-Write.file c.in-Write.offset c.in-Write.bytes c.in-Write.is c.requires.ready in
    let fits = is.2 in let same = ap length c.as_slice.ensures in omega (arith, fits, same)

pub write-requires-clause-summed : goal.write-requires-clause-summed
write-requires-clause-summed c =
    let is = at_write c.args.nodes.now.entries c.args.next.now c.args.ready.now c.args.op.now c.in-Write.file c.in-Write.offset c.in-Write.bytes c.in-Write.is c.requires.ready in
    (little_sum c.args.nodes.now.entries c.args.next.now c.args.total.now c.args.ready.now c.requires.ready.kept is.1 c.requires.summed).0

pub write-requires-clause-little : goal.write-requires-clause-little
write-requires-clause-little c =
    let is = at_write c.args.nodes.now.entries c.args.next.now c.args.ready.now c.args.op.now c.in-Write.file c.in-Write.offset c.in-Write.bytes c.in-Write.is c.requires.ready in
    let few = (little_sum c.args.nodes.now.entries c.args.next.now c.args.total.now c.args.ready.now c.requires.ready.kept is.1 c.requires.summed).1 in omega (arith, few)

pub returns-in-Write : goal.returns-in-Write
returns-in-Write c =
    changes_write c.args.nodes.now.entries c.write.new.nodes.entries c.args.next.now c.write.result c.args.ready.now c.args.op.now c.in-Write.file c.in-Write.offset c.in-Write.bytes c.as_slice.result.now c.in-Write.is c.as_slice.ensures c.requires.ready c.write.ensures

pub truncate-requires-clause-there : goal.truncate-requires-clause-there
truncate-requires-clause-there c = (at_truncate c.args.nodes.now.entries c.args.next.now c.args.ready.now c.args.op.now c.in-Truncate.file c.in-Truncate.len c.in-Truncate.is c.requires.ready).2

pub truncate-requires-clause-fits : goal.truncate-requires-clause-fits
truncate-requires-clause-fits c =
    let fits = (at_truncate c.args.nodes.now.entries c.args.next.now c.args.ready.now c.args.op.now c.in-Truncate.file c.in-Truncate.len c.in-Truncate.is c.requires.ready).3 in omega (arith, fits)

pub truncate-requires-clause-summed : goal.truncate-requires-clause-summed
truncate-requires-clause-summed c =
    let is = at_truncate c.args.nodes.now.entries c.args.next.now c.args.ready.now c.args.op.now c.in-Truncate.file c.in-Truncate.len c.in-Truncate.is c.requires.ready in
    (little_sum c.args.nodes.now.entries c.args.next.now c.args.total.now c.args.ready.now c.requires.ready.kept is.1 c.requires.summed).0

pub truncate-requires-clause-little : goal.truncate-requires-clause-little
truncate-requires-clause-little c =
    let is = at_truncate c.args.nodes.now.entries c.args.next.now c.args.ready.now c.args.op.now c.in-Truncate.file c.in-Truncate.len c.in-Truncate.is c.requires.ready in
    let few = (little_sum c.args.nodes.now.entries c.args.next.now c.args.total.now c.args.ready.now c.requires.ready.kept is.1 c.requires.summed).1 in omega (arith, few)

pub returns-in-Truncate : goal.returns-in-Truncate
returns-in-Truncate c =
    changes_truncate c.args.nodes.now.entries c.truncate.new.nodes.entries c.args.next.now c.truncate.result c.args.ready.now c.args.op.now c.in-Truncate.file c.in-Truncate.len c.in-Truncate.is c.requires.ready c.truncate.ensures

pub remove-requires-clause-short : goal.remove-requires-clause-short
remove-requires-clause-short c =
    let is = at_unlink c.args.nodes.now.entries c.args.next.now c.args.ready.now c.args.op.now c.in-Unlink.directory c.in-Unlink.name c.in-Unlink.is c.requires.ready in
    subst (λ (n : List ℕ). length n ≤ 64) (sym c.as_slice-in-Unlink.ensures) is.0.short

pub remove-requires-clause-there : goal.remove-requires-clause-there
remove-requires-clause-there c =
    let is = at_unlink c.args.nodes.now.entries c.args.next.now c.args.ready.now c.args.op.now c.in-Unlink.directory c.in-Unlink.name c.in-Unlink.is c.requires.ready in
    subst (λ (n : ℕ). IsSome (kept_at c.args.nodes.now.entries n)) (sym c.number_of-number.ensures) is.0.holds

pub remove-requires-clause-summed : goal.remove-requires-clause-summed
remove-requires-clause-summed c =
    let is = at_unlink c.args.nodes.now.entries c.args.next.now c.args.ready.now c.args.op.now c.in-Unlink.directory c.in-Unlink.name c.in-Unlink.is c.requires.ready in
    c.requires.summed ∙ ap contents_sum is.1

pub returns-in-Unlink : goal.returns-in-Unlink
returns-in-Unlink c =
    changes_unlink c.args.nodes.now.entries c.remove.new.nodes.entries c.args.next.now c.remove.result c.args.ready.now c.args.op.now c.in-Unlink.directory c.in-Unlink.name c.as_slice-in-Unlink.result.now c.in-Unlink.is c.as_slice-in-Unlink.ensures c.requires.ready
    (subst (λ (n : ℕ). Removes c.args.nodes.now.entries c.remove.new.nodes.entries n (at c.in-Unlink.directory.0 c.as_slice-in-Unlink.result.now) c.remove.result) c.number_of-number.ensures c.remove.ensures)

pub rename-requires-clause-short : goal.rename-requires-clause-short
rename-requires-clause-short c =
    let is = at_rename c.args.nodes.now.entries c.args.next.now c.args.ready.now c.args.op.now c.in-Rename.directory c.in-Rename.name c.in-Rename.target c.in-Rename.renamed c.in-Rename.is c.requires.ready in
    subst (λ (n : List ℕ). length n ≤ 64) (sym c.as_slice-in-Rename.ensures) is.0.short

pub rename-requires-clause-short_too : goal.rename-requires-clause-short_too
rename-requires-clause-short_too c =
    let is = at_rename c.args.nodes.now.entries c.args.next.now c.args.ready.now c.args.op.now c.in-Rename.directory c.in-Rename.name c.in-Rename.target c.in-Rename.renamed c.in-Rename.is c.requires.ready in
    subst (λ (n : List ℕ). length n ≤ 64) (sym c.as_slice-in-Rename-2.ensures) is.0.short_too

pub rename-requires-clause-there : goal.rename-requires-clause-there
rename-requires-clause-there c =
    let is = at_rename c.args.nodes.now.entries c.args.next.now c.args.ready.now c.args.op.now c.in-Rename.directory c.in-Rename.name c.in-Rename.target c.in-Rename.renamed c.in-Rename.is c.requires.ready in
    subst (λ (n : ℕ). IsSome (kept_at c.args.nodes.now.entries n)) (sym c.number_of-number-in-Rename.ensures) is.0.kept

pub rename-requires-clause-holds : goal.rename-requires-clause-holds
rename-requires-clause-holds c =
    (at_rename c.args.nodes.now.entries c.args.next.now c.args.ready.now c.args.op.now c.in-Rename.directory c.in-Rename.name c.in-Rename.target c.in-Rename.renamed c.in-Rename.is c.requires.ready).0.holds

pub rename-requires-clause-held : goal.rename-requires-clause-held
rename-requires-clause-held c =
    let is = at_rename c.args.nodes.now.entries c.args.next.now c.args.ready.now c.args.op.now c.in-Rename.directory c.in-Rename.name c.in-Rename.target c.in-Rename.renamed c.in-Rename.is c.requires.ready in
    subst (λ (n : List ℕ). IsSome (reserved_at c.args.nodes.now.entries c.in-Rename.target.0 n)) (sym c.as_slice-in-Rename-2.ensures) is.0.held

pub returns-in-Rename : goal.returns-in-Rename
returns-in-Rename c =
    changes_rename c.args.nodes.now.entries c.rename.new.nodes.entries c.args.next.now c.args.total.now c.args.ready.now c.args.op.now c.in-Rename.directory c.in-Rename.name c.in-Rename.target c.in-Rename.renamed c.as_slice-in-Rename.result.now c.as_slice-in-Rename-2.result.now c.in-Rename.is c.as_slice-in-Rename.ensures c.as_slice-in-Rename-2.ensures c.requires.ready c.requires.summed
    (subst (λ (n : ℕ). Relocates c.args.nodes.now.entries c.rename.new.nodes.entries n (at c.in-Rename.directory.0 c.as_slice-in-Rename.result.now) (at c.in-Rename.target.0 c.as_slice-in-Rename-2.result.now)) c.number_of-number-in-Rename.ensures c.rename.ensures)
