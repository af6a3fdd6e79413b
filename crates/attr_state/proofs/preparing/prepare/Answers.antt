-- What the absence of a refusal says of the node that an operation names, and how many attributes it is to have.
use Rattle.std.proofs.Common.{◌≡◌, ◌+◌, ℕ, None, IfOk, is_none, cond, length, sym, ap, ◌∙◌, subst}
use Rattle.std.proofs.lemmas.Bool.{cond-true, cond-false}
use Rattle.file_world.specs.declared.operation.MetaOp.{MetaOp}
use Rattle.file_world.specs.Attributes.{Attributes, mark_at, value_at}
use Rattle.file_world.specs.AttributeEffect.{attributes_of, meta_refusal, IsAskable}
use Rattle.attr_state.specs.declared.ready.MetaReady.{MetaReady}
use Rattle.attr_state.specs.declared.ready.MetaReady.TheVariants.{Attributes as Room}
use Rattle.attr_state.specs.State.{ready_for}
use Rattle.attr_state.specs.Index.{marks_of, PreparesMeta}
use Rattle.attr_state.proofs.ChangeLemmas.{settable, not_kept, sorted_attributes, none_tested, length_set}
use Rattle.attr_state.proofs.preparing.prepare.Goals as goal
use Rattle.attr_state.proofs.preparing.prepare.Goals.{then-is_none, else-is_none}

pub prepare_attributes-requires-clause-there : goal.prepare_attributes-requires-clause-there
prepare_attributes-requires-clause-there c =
    let entries = c.args.marks.now.entries in
    (settable entries c.in-Set.node c.in-Set.name c.in-Set.field-2 (subst (λ (op : MetaOp). meta_refusal (marks_of entries) op ≡ None) c.in-Set.is c.requires.free)).there

pub prepare_made-requires-clause-new : goal.prepare_made-requires-clause-new
prepare_made-requires-clause-new c =
    let entries = c.args.marks.now.entries in
    not_kept entries c.in-Add.node.0 (subst (λ (op : MetaOp). IsAskable (marks_of entries) op) c.in-Add.is c.requires.askable)

pub returns-after-is_none-clause-ok : goal.returns-after-is_none-clause-ok
returns-after-is_none-clause-ok c =
    let entries = c.args.marks.now.entries in
    let node = c.in-Set.node.0 in
    let attributes : Attributes = attributes_of (mark_at (marks_of entries) node) in
    let known = c.value_kept-known.result in
    let more : c.if-is_none.prepare_attributes ≡ cond (is_none known) 1 0 =
    elim c.if-is_none.branch [
      | then-is_none w ↦ w.prepare_attributes-is ∙ sym (cond-true (is_none known) 1 0 (none_tested known c.is_none.result c.is_none.ensures ∙ w.if-is_none.true))
      | else-is_none w ↦ w.prepare_attributes-is ∙ sym (cond-false (is_none known) 1 0 (none_tested known c.is_none.result c.is_none.ensures ∙ w.if-is_none.false))
    ] in
    let found : known ≡ value_at attributes c.in-Set.name = c.value_kept-known.ensures ∙ ap (value_at attributes) c.as_slice.ensures in
    let is : Room node (length attributes + c.if-is_none.prepare_attributes) ≡ ready_for (marks_of entries) c.args.op.now =
    ap (λ (n : ℕ). Room node (length attributes + n)) more
    ∙ (ap (Room node) (length_set attributes c.in-Set.name c.in-Set.field-2 known (sorted_attributes entries node c.requires.ordered) found)
    ∙ ap (ready_for (marks_of entries)) (sym c.in-Set.is)) in
    subst (λ (r : MetaReady). IfOk c.prepare_attributes.result (λ ready. (ready ≡ r) × PreparesMeta entries c.prepare_attributes.new.marks.entries ready)) is c.prepare_attributes.ensures.ok
