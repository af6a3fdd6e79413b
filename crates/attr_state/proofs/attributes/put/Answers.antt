-- The value goes to the place of the name, or to the gap for it.
use Rattle.std.proofs.Common.{◌≡◌, List, ℕ, set, is_ok, sym, ap, ◌∙◌, arith, subst}
use Rattle.std.proofs.lemmas.Bool.{cond-true}
use Rattle.std.specs.List.{insert}
use Rattle.file_world.specs.Attributes.{Attributes}
use Rattle.file_world.specs.AttributeEffect.{with_value}
use Rattle.attr_state.specs.Index.{AreSorted, IsMarkAt, IsGap}
use Rattle.attr_state.proofs.NameLemmas.{value_at-missing, with_value-found, with_value-missing, AreSorted-with, length-with_missing}
use Rattle.attr_state.proofs.attributes.put.Goals as goal

pub unwrap-requires : goal.unwrap-requires
unwrap-requires c =
    let gap = subst (λ (items : Attributes). IsGap items c.args.name.now c.in-Err.place) c.as_slice.ensures.value c.in-Err.ensures.absent in
    let more = length-with_missing c.args.attributes.now.items c.args.name.now c.args.value (value_at-missing c.args.attributes.now.items c.args.name.now c.in-Err.place gap) in
    c.insert-put.ensures.succeeds (omega (arith, more, c.requires.room, c.args.attributes.now.ok.0))

pub returns-in-Ok-clause-put : goal.returns-in-Ok-clause-put
returns-in-Ok-clause-put c =
    let at = subst (λ (items : Attributes). IsMarkAt items c.args.name.now c.in-Ok.place) c.as_slice.ensures.value c.in-Ok.ensures.found in
    ap (λ (name : List ℕ). set c.args.attributes.now.items c.in-Ok.place (name, c.args.value)) c.new.ensures
    ∙ sym (with_value-found c.args.attributes.now.items c.args.name.now c.args.value c.in-Ok.place at)

pub returns-in-Ok-clause-sorted : goal.returns-in-Ok-clause-sorted
returns-in-Ok-clause-sorted c =
    let at = subst (λ (items : Attributes). IsMarkAt items c.args.name.now c.in-Ok.place) c.as_slice.ensures.value c.in-Ok.ensures.found in
    let is : set c.args.attributes.now.items c.in-Ok.place (c.new.result, c.args.value) ≡ with_value c.args.attributes.now.items c.args.name.now c.args.value =
    ap (λ (name : List ℕ). set c.args.attributes.now.items c.in-Ok.place (name, c.args.value)) c.new.ensures
    ∙ sym (with_value-found c.args.attributes.now.items c.args.name.now c.args.value c.in-Ok.place at) in
    subst AreSorted (sym is) (AreSorted-with c.args.attributes.now.items c.args.name.now c.args.value c.requires.sorted)

pub returns-in-Err-clause-put : goal.returns-in-Err-clause-put
returns-in-Err-clause-put c =
    let gap = subst (λ (items : Attributes). IsGap items c.args.name.now c.in-Err.place) c.as_slice.ensures.value c.in-Err.ensures.absent in
    c.insert-put.ensures.items
    ∙ (cond-true (is_ok c.insert-put.result) _ _ (ap is_ok c.unwrap.ensures)
    ∙ (ap (λ (name : List ℕ). insert c.args.attributes.now.items c.in-Err.place (name, c.args.value)) c.new-in-Err.ensures
    ∙ sym (with_value-missing c.args.attributes.now.items c.args.name.now c.args.value c.in-Err.place gap)))

pub returns-in-Err-clause-sorted : goal.returns-in-Err-clause-sorted
returns-in-Err-clause-sorted c =
    let gap = subst (λ (items : Attributes). IsGap items c.args.name.now c.in-Err.place) c.as_slice.ensures.value c.in-Err.ensures.absent in
    let is : c.insert-put.new.self.items ≡ with_value c.args.attributes.now.items c.args.name.now c.args.value =
    c.insert-put.ensures.items
    ∙ (cond-true (is_ok c.insert-put.result) _ _ (ap is_ok c.unwrap.ensures)
    ∙ (ap (λ (name : List ℕ). insert c.args.attributes.now.items c.in-Err.place (name, c.args.value)) c.new-in-Err.ensures
    ∙ sym (with_value-missing c.args.attributes.now.items c.args.name.now c.args.value c.in-Err.place gap))) in
    subst AreSorted (sym is) (AreSorted-with c.args.attributes.now.items c.args.name.now c.args.value c.requires.sorted)
