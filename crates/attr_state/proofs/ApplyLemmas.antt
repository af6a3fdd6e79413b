-- The marks that contracts see and those that are kept, while an operation is ready.
use Rattle.std.proofs.Common.{◌≡◌, ℕ, Option, Some, None, length, refl, sym, ap, ◌∙◌, subst}
use Rattle.std.proofs.lemmas.Option.{none-some, same_Some}
use Rattle.file_world.specs.declared.operation.MetaOp.{MetaOp}
use Rattle.file_world.specs.declared.operation.MetaOp.TheVariants.{Get, Set, Remove, Chown, Add, Drop, Move}
use Rattle.file_world.specs.Attributes.{Marks, mark_at}
use Rattle.file_world.specs.AttributeEffect.{attributes_of, with_value, new_mark, meta_refusal, marks_after}
use Rattle.attr_state.specs.declared.ready.MetaReady.{MetaReady}
use Rattle.attr_state.specs.declared.ready.MetaReady.TheVariants.{Nothing, Attributes as Room, Made}
use Rattle.attr_state.specs.State.{ready_for, IsMetaReady}
use Rattle.attr_state.specs.Index.{MarkEntries, marks_of, marks_in, HasMarkRoom, IsMetaPrepared, IsMarkIndex, IsMetaChangeable}
use Rattle.attr_state.proofs.MarkLemmas.{made, made_again}

-- what is ready is for the operation, and the change of what is kept is that of what is seen
pub record IsApplied (entries : MarkEntries) (ready : MetaReady) (op : MetaOp) : Type 0 where
  pub changeable : IsMetaChangeable entries op
  pub same : marks_after (marks_of entries) op ≡ marks_after (marks_in (Some ready) entries) op

-- where no memory was needed
module _ (entries : MarkEntries) (op : MetaOp) where
  plain : (ready : MetaReady) → IsMarkIndex entries (Some ready) → meta_refusal (marks_in (Some ready) entries) op ≡ None → ready ≡ Nothing → ready_for (marks_of entries) op ≡ Nothing → IsApplied entries ready op
  plain ready kept free is nothing =
      let at : IsMarkIndex entries (Some Nothing) = subst (λ (r : MetaReady). IsMarkIndex entries (Some r)) is kept in
      let same : marks_in (Some ready) entries ≡ marks_of entries = ap (λ (r : MetaReady). marks_in (Some r) entries) is in
      record {
        changeable = record {
          ordered = at.ordered;
          free = subst (λ (marks : Marks). meta_refusal marks op ≡ None) same free;
          prepared = subst (λ (r : MetaReady). IsMetaPrepared (Some r) entries) (sym nothing) tt;
        };
        same = ap (λ (marks : Marks). marks_after marks op) (sym same);
      }

applied_at : (entries : MarkEntries) (ready : MetaReady) (op : MetaOp) → IsMarkIndex entries (Some ready) → meta_refusal (marks_in (Some ready) entries) op ≡ None → ready ≡ ready_for (marks_in (Some ready) entries) op → IsApplied entries ready op
applied_at entries ready (Get node name) kept free is = plain entries (Get node name) ready kept free is refl
applied_at entries ready (Remove node name) kept free is = plain entries (Remove node name) ready kept free is refl
applied_at entries ready (Chown node owner) kept free is = plain entries (Chown node owner) ready kept free is refl
applied_at entries ready (Drop node) kept free is = plain entries (Drop node) ready kept free is refl
applied_at entries ready (Move node parent) kept free is = plain entries (Move node parent) ready kept free is refl
applied_at entries ready (Set node name value) kept free is =
    let op : MetaOp = Set node name value in
    let len : ℕ = length (with_value (attributes_of (mark_at (marks_in (Some ready) entries) node.0)) name value) in
    let at : IsMarkIndex entries (Some (Room node.0 len)) = subst (λ (r : MetaReady). IsMarkIndex entries (Some r)) is kept in
    let same : marks_in (Some ready) entries ≡ marks_of entries = ap (λ (r : MetaReady). marks_in (Some r) entries) is in
    record {
      changeable = record {
        ordered = at.ordered;
        free = subst (λ (marks : Marks). meta_refusal marks op ≡ None) same free;
        prepared = subst (λ (marks : Marks). HasMarkRoom entries node.0 (length (with_value (attributes_of (mark_at marks node.0)) name value))) same at.prepared;
      };
      same = ap (λ (marks : Marks). marks_after marks op) (sym same);
    }
applied_at entries ready (Add node owner parent) kept free is =
    let op : MetaOp = Add node owner parent in
    let at : IsMarkIndex entries (Some (Made node.0 owner parent.0)) = subst (λ (r : MetaReady). IsMarkIndex entries (Some r)) is kept in
    record {
      changeable = record { ordered = at.ordered; free = refl; prepared = at.prepared };
      same = made_again entries node.0 (new_mark owner parent.0) at.ordered at.prepared
          ∙ (sym (made entries node.0 (new_mark owner parent.0) at.ordered at.prepared)
          ∙ ap (λ (r : MetaReady). marks_after (marks_in (Some r) entries) op) (sym is));
    }

pub record Applies (entries : MarkEntries) (ready : Option MetaReady) (op : MetaOp) : Type 0 where
  pub changeable : IsMetaChangeable entries op
  pub same : marks_after (marks_of entries) op ≡ marks_after (marks_in ready entries) op

pub applied : (entries : MarkEntries) (ready : Option MetaReady) (op : MetaOp) → IsMarkIndex entries ready → IsMetaReady (record { marks = marks_in ready entries; ready = ready }) op → Applies entries ready op
applied entries None op kept is = absurd (none-some _ is.ready)
applied entries (Some ready) op kept is =
    let at = applied_at entries ready op kept is.free (same_Some _ _ is.ready) in record { changeable = at.changeable; same = at.same }
