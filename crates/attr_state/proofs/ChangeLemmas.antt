-- What the absence of a refusal says of what an operation names.
use Rattle.std.proofs.Common.{◌≡◌, ◌≤◌, ◌+◌, ℕ, Bool, true, false, cond, Option, Some, None, IsSome, is_some, is_none, not, List, [], ◌∷◌, length, refl, sym, ◌∙◌, subst, arith, nat_le}
use Rattle.std.specs.Prelude.{◌&&◌}
use Rattle.std.specs.List.{list_all}
use Rattle.bl_syntax.specs.Names.{is_lower_case}
use Rattle.std.proofs.lemmas.Bool.{false≢true, not-false, and_parts, leb-true}
use Rattle.std.proofs.lemmas.Option.{none-some}
use Rattle.bl_syntax.specs.declared.terms.NodeId.{NodeId}
use Rattle.file_world.specs.declared.operation.MetaOp.TheVariants.{Get, Set, Remove, Chown}
use Rattle.file_world.specs.FileNames.{is_attribute_name, is_attribute_name_byte, is_attribute_name_from}
use Rattle.file_world.specs.Attributes.{Attributes, Mark, mark_at, value_at}
use Rattle.file_world.specs.AttributeEffect.{attributes_of, value_of, with_value, meta_tests, meta_refusal}
use Rattle.file_world.proofs.EffectLemmas.{none_hold, some_from}
use Rattle.attr_state.specs.declared.mark.KeptMark.{KeptMark as Kept}
use Rattle.attr_state.specs.Index.{MarkEntries, marks_of, kept_at, AreSorted, AreOrdered}
use Rattle.attr_state.proofs.NameLemmas.{length-with_found, length-with_missing}
use Rattle.attr_state.proofs.MarkLemmas.{mark_at-kept, mark_at-missing, none_sorted}

pub some_kept : (entries : MarkEntries) (number : ℕ) → is_none (mark_at (marks_of entries) number) ≡ false → IsSome (kept_at entries number)
some_kept entries number e = by (kept_at entries number) refl
  where
    by : (found : Option Kept) → kept_at entries number ≡ found → IsSome (kept_at entries number)
    by None h = absurd (none-some _ (sym (mark_at-missing entries number h) ∙ (some_from (mark_at (marks_of entries) number) e).1))
    by (Some kept) h = subst IsSome (sym h) refl

-- a node without a mark has none that is kept
pub not_kept : (entries : MarkEntries) (number : ℕ) → mark_at (marks_of entries) number ≡ None → kept_at entries number ≡ None
not_kept entries number e = by (kept_at entries number) refl
  where
    by : (found : Option Kept) → kept_at entries number ≡ found → kept_at entries number ≡ None
    by None h = h
    by (Some kept) h = absurd (none-some _ (sym e ∙ mark_at-kept entries number kept h))

short_from : (name : List ℕ) → is_attribute_name_from name ≡ true → length name ≤ 64
short_from [] e = absurd (false≢true e)
short_from (first ∷ others) e = let few = leb-true (length others) 63 (and_parts (is_lower_case first && list_all is_attribute_name_byte others) (nat_le (length others) 63) e).1 in omega (arith, few)

pub short_name : (name : List ℕ) → is_attribute_name name ≡ true → length name ≤ 64
unfolding is_attribute_name
short_name name e = short_from name e

-- ---- a value that is set

pub record IsSettable (entries : MarkEntries) (number : ℕ) (name value : List ℕ) : Type 0 where
  pub there : IsSome (kept_at entries number)
  pub short : length name ≤ 64

pub settable : (entries : MarkEntries) (node : NodeId) (name value : List ℕ) → meta_refusal (marks_of entries) (Set node name value) ≡ None → IsSettable entries node.0 name value
settable entries node name value free =
    let h = none_hold (meta_tests (marks_of entries) (Set node name value)) free in
    record { there = some_kept entries node.0 h.0; short = short_name name (not-false _ h.1.0) }

pub removable : (entries : MarkEntries) (node : NodeId) (name : List ℕ) → meta_refusal (marks_of entries) (Remove node name) ≡ None → IsSome (kept_at entries node.0)
removable entries node name free = some_kept entries node.0 (none_hold (meta_tests (marks_of entries) (Remove node name)) free).0

pub ownable : (entries : MarkEntries) (node : NodeId) (owner : List ℕ) → meta_refusal (marks_of entries) (Chown node owner) ≡ None → IsSome (kept_at entries node.0)
ownable entries node owner free = some_kept entries node.0 (none_hold (meta_tests (marks_of entries) (Chown node owner)) free).0

-- a value that is asked for is there
pub readable : (entries : MarkEntries) (node : NodeId) (name : List ℕ) → meta_refusal (marks_of entries) (Get node name) ≡ None → (value : List ℕ) × (value_of (marks_of entries) node.0 name ≡ Some value)
readable entries node name free =
    some_from (value_of (marks_of entries) node.0 name) (none_hold (meta_tests (marks_of entries) (Get node name)) free).1.1.0

-- ---- how many attributes there are to be

pub sorted_attributes : (entries : MarkEntries) (number : ℕ) → AreOrdered entries → AreSorted (attributes_of (mark_at (marks_of entries) number))
sorted_attributes entries number ordered = by (kept_at entries number) refl
  where
    by : (found : Option Kept) → kept_at entries number ≡ found → AreSorted (attributes_of (mark_at (marks_of entries) number))
    by None h = subst (λ (m : Option Mark). AreSorted (attributes_of m)) (sym (mark_at-missing entries number h)) none_sorted
    by (Some kept) h = subst (λ (m : Option Mark). AreSorted (attributes_of m)) (sym (mark_at-kept entries number kept h)) (ordered.sorted number kept h)

pub none_tested : {A : Type 0} (known : Option A) (answer : Bool) → is_some known ≡ not answer → is_none known ≡ answer
none_tested None true e = refl
none_tested None false e = absurd (false≢true e)
none_tested (Some value) true e = absurd (false≢true (sym e))
none_tested (Some value) false e = refl

-- one more if the name is new
pub length_set : (attributes : Attributes) (name value : List ℕ) (known : Option (List ℕ)) → AreSorted attributes → known ≡ value_at attributes name → length attributes + cond (is_none known) 1 0 ≡ length (with_value attributes name value)
length_set attributes name value None sorted e = (let more = length-with_missing attributes name value (sym e) in omega (arith, more))
length_set attributes name value (Some found) sorted e = (let same = length-with_found attributes name value found sorted (sym e) in omega (arith, same))
