-- What the absence of a refusal says of the node and the name, and that a mark that is ready to be made is there.
use Rattle.std.proofs.Common.{◌≡◌, ◌≤◌, ℕ, List, None, length, sym, ap, ◌∙◌, subst}
use Rattle.file_world.specs.declared.operation.MetaOp.{MetaOp}
use Rattle.file_world.specs.AttributeEffect.{meta_refusal, new_mark, marks_after}
use Rattle.attr_state.specs.Index.{marks_of, IsMetaChangeable}
use Rattle.attr_state.proofs.MarkLemmas.{made_again}
use Rattle.attr_state.proofs.ChangeLemmas.{settable, removable, ownable}
use Rattle.attr_state.proofs.applying.change.Goals as goal

pub set-requires-clause-short : goal.set-requires-clause-short
set-requires-clause-short c =
    let entries = c.args.marks.now.entries in
    subst (λ (n : List ℕ). length n ≤ 64) (sym c.as_slice.ensures)
    (settable entries c.in-Set.node c.in-Set.name c.in-Set.value (subst (λ (op : MetaOp). meta_refusal (marks_of entries) op ≡ None) c.in-Set.is c.requires.free)).short

pub unset-requires-clause-there : goal.unset-requires-clause-there
unset-requires-clause-there c =
    let entries = c.args.marks.now.entries in
    removable entries c.in-Remove.node c.in-Remove.name (subst (λ (op : MetaOp). meta_refusal (marks_of entries) op ≡ None) c.in-Remove.is c.requires.free)

pub set_owner-requires-clause-there : goal.set_owner-requires-clause-there
set_owner-requires-clause-there c =
    let entries = c.args.marks.now.entries in
    ownable entries c.in-Chown.node c.in-Chown.owner (subst (λ (op : MetaOp). meta_refusal (marks_of entries) op ≡ None) c.in-Chown.is c.requires.free)

pub returns-in-Add-clause-marks : goal.returns-in-Add-clause-marks
returns-in-Add-clause-marks c =
    let entries = c.args.marks.now.entries in
    let at = subst (λ (op : MetaOp). IsMetaChangeable entries op) c.in-Add.is c.requires in
    sym (made_again entries c.in-Add.field-0.0 (new_mark c.in-Add.field-1 c.in-Add.field-2.0) c.requires.ordered at.prepared)
    ∙ ap (λ (op : MetaOp). marks_after (marks_of entries) op) (sym c.in-Add.is)
