-- Marks stay within the limits after each operation on them.
use Rattle.std.proofs.Common.{◌≡◌, ℕ, ◌+◌, ◌≤◌, ◌⊎◌, inl, inr, Bool, true, false, cond, ◌&&◌, Option, Some, None, is_none, IsSome, IsTrue, option_map, unwrap_or, List, [], ◌∷◌, length, refl, sym, ap, ◌∙◌, subst, arith, nat_eq, nat_le, nat_cmp, bytes_eq, codes, Ordering, Less, Equal, Greater}
use Rattle.std.specs.List.Sorted.{IsStrictlySortedBy}
use Rattle.std.specs.Map.{lookup, remove_entry, keys_of}
use Rattle.std.specs.BTreeMap.{insert_entry, is_at}
use Rattle.std.specs.Ordering.{match_ordering}
use Rattle.std.specs.Cmp.Lexicographic.{slice_cmp, nat_list_cmp_total}
use Rattle.std.proofs.lemmas.Bool.{false≢true, eqb-true, cases_eq, not-false, leb-false}
use Rattle.std.proofs.lemmas.Cmp.{nat_cmp_total}
use Rattle.std.proofs.lemmas.Map.Text.{is_eq-slice_cmp}
use Rattle.std.proofs.lemmas.Map.Lookups.{exact_unsigned}
use Rattle.std.proofs.lemmas.Option.{none-some, same_Some}
use Rattle.bl_syntax.specs.Names.{is_principal_name, is_text}
use Rattle.file_world.specs.declared.operation.MetaOp.{MetaOp}
use Rattle.file_world.specs.declared.operation.MetaOp.TheVariants.{Get, Set, Remove, Chown, Add, Drop, Move}
use Rattle.file_world.specs.FileNames.{is_attribute_name}
use Rattle.file_world.specs.Limits.{root_number, most_attributes}
use Rattle.file_world.specs.Attributes.{Attributes, Mark, Marks, mark_at, value_at, IsMark, AreMarks}
use Rattle.file_world.specs.AttributeEffect.{attributes_of, with_value, without_value, meta_tests, meta_refusal, IsMetaOperation, IsAskable, with_owner, with_parent, with_attributes, new_mark, marks_after, fresh_marks}
use Rattle.file_world.specs.TreeEffect.{revise}
use Rattle.file_world.proofs.RowLemmas.{split, cond_at_true, cond_at_false, lookup_here, lookup_later, keys-revised, lookup-removed_same, lookup-removed_other, rising-removed}
use Rattle.file_world.proofs.TreeLemmas.{found-revised}
use Rattle.file_world.proofs.EffectLemmas.{none_hold, some_from}
use Rattle.file_world.proofs.OrderLemmas.{all-put, sorted-put, length-put, all-gone, length-gone_le, sorted-gone}

abbrev order : List ℕ → List ℕ → Ordering
order = slice_cmp nat_cmp

some_there : {A : Type 0} (found : Option A) → IsSome found → (value : A) × (found ≡ Some value)
some_there None there = absurd (false≢true there)
some_there (Some value) there = (value, refl)

-- ---- the attributes of a node

-- a value as equality and as the order find it
same_value : {V : Type 0} (attributes : List (List ℕ × V)) (name : List ℕ) → lookup (bytes_eq name) attributes ≡ lookup (is_at (order name)) attributes
same_value [] name = refl
same_value {V} (attribute ∷ attributes) name =
    ap (λ (b : Bool). cond b (Some attribute.1) (lookup (bytes_eq name) attributes)) (sym (is_eq-slice_cmp name attribute.0))
    ∙ ap (λ (rest : Option V). cond (is_at (order name) attribute.0) (Some attribute.1) rest) (same_value attributes name)

few_after : (attributes : Attributes) (name value : List ℕ) → IsStrictlySortedBy order (keys_of attributes) → length attributes ≤ most_attributes → (is_none (value_at attributes name) && nat_le most_attributes (length attributes)) ≡ false → length (with_value attributes name value) ≤ most_attributes
few_after attributes name value rising few room = by (value_at attributes name) refl room
  where
    counted : length (with_value attributes name value) + unwrap_or (option_map (λ _. 1) (value_at attributes name)) 0 ≡ length attributes + 1
    counted = ap (λ (found : Option (List ℕ)). length (with_value attributes name value) + unwrap_or (option_map (λ _. 1) found) 0) (same_value attributes name) ∙ length-put order nat_list_cmp_total name value attributes rising

    by : (found : Option (List ℕ)) → value_at attributes name ≡ found → (is_none found && nat_le most_attributes (length attributes)) ≡ false → length (with_value attributes name value) ≤ most_attributes
    by None e room =
        let sum : length (with_value attributes name value) + 0 ≡ length attributes + 1 = ap (λ (found : Option (List ℕ)). length (with_value attributes name value) + unwrap_or (option_map (λ _. 1) found) 0) (sym e) ∙ counted in
        let less = leb-false most_attributes (length attributes) room in
        omega (arith, sum, less)
    by (Some old) e room =
        let sum : length (with_value attributes name value) + 1 ≡ length attributes + 1 = ap (λ (found : Option (List ℕ)). length (with_value attributes name value) + unwrap_or (option_map (λ _. 1) found) 0) (sym e) ∙ counted in
        omega (arith, sum, few)

IsMark-set : (mark : Mark) (name value : List ℕ) → IsMark mark → is_attribute_name name ≡ true → IsTrue (is_text value) → (is_none (value_at mark.attributes name) && nat_le most_attributes (length mark.attributes)) ≡ false → IsMark (with_attributes (with_value mark.attributes name value) mark)
IsMark-set mark name value is named text room = record {
  owned = is.owned;
  named = all-put order (λ attribute. IsTrue (is_attribute_name attribute.0)) name value mark.attributes is.named named (λ k v h. h);
  texts = all-put order (λ attribute. IsTrue (is_text attribute.1)) name value mark.attributes is.texts text (λ k v h. text);
  rising = sorted-put order nat_list_cmp_total name value mark.attributes is.rising;
  few = few_after mark.attributes name value is.rising is.few room;
}

IsMark-remove : (mark : Mark) (name : List ℕ) → IsMark mark → IsMark (with_attributes (without_value mark.attributes name) mark)
IsMark-remove mark name is = record {
  owned = is.owned;
  named = all-gone (λ attribute. IsTrue (is_attribute_name attribute.0)) (bytes_eq name) mark.attributes is.named;
  texts = all-gone (λ attribute. IsTrue (is_text attribute.1)) (bytes_eq name) mark.attributes is.texts;
  rising = sorted-gone order (bytes_eq name) mark.attributes is.rising;
  few = (let less = length-gone_le (bytes_eq name) mark.attributes in let few = is.few in omega (arith, less, few));
}

no_attributes : IsStrictlySortedBy order []
unfolding IsStrictlySortedBy
no_attributes = tt

pub IsMark-new : (owner : List ℕ) (parent : ℕ) → IsTrue (is_principal_name owner) → IsMark (new_mark owner parent)
IsMark-new owner parent named = record { owned = named; named = tt; texts = tt; rising = no_attributes; few = omega arith }

-- ---- the marks of all nodes

pub AreMarks-revised : (number : ℕ) (revision : Mark → Mark) (marks : Marks) (old : Mark) → mark_at marks number ≡ Some old → AreMarks marks → IsMark (revision old) → AreMarks (revise number revision marks)
AreMarks-revised number revision marks old there are new = record {
  within = λ other mark e. elim (found-revised number revision marks old there other mark e) [
    | inl kept ↦ are.within other mark kept.1
    | inr put ↦ subst IsMark put.1 new
  ];
  rising = subst (IsStrictlySortedBy nat_cmp) (sym (keys-revised number revision marks)) are.rising;
}

pub AreMarks-removed : (number : ℕ) (marks : Marks) → AreMarks marks → AreMarks (remove_entry (nat_eq number) marks)
AreMarks-removed number marks are = record {
  within = λ other mark e. elim (cases_eq other number) [
    | inl same ↦ absurd (none-some _ (sym (lookup-removed_same number marks are.rising) ∙ (ap (mark_at (remove_entry (nat_eq number) marks)) (sym same) ∙ e)))
    | inr apart ↦ are.within other mark (sym (lookup-removed_other number other marks apart) ∙ e)
  ];
  rising = rising-removed number marks are.rising;
}

-- what is found after a row is put: the new value, or what was found
found-put : {V : Type 0} (number : ℕ) (value : V) (rows : List (ℕ × V)) (other : ℕ) (found : V) → lookup (nat_eq other) (insert_entry nat_cmp rows number value) ≡ Some found → ((other ≡ number) × (value ≡ found)) ⊎ (lookup (nat_eq other) rows ≡ Some found)
found-put number value [] other found e =
    split (nat_eq other number)
    (λ t. inl (eqb-true other number t, same_Some _ _ (cond_at_true (nat_eq other number) _ _ _ t e)))
    (λ f. absurd (none-some _ (cond_at_false (nat_eq other number) _ _ _ f e)))
found-put {V} number value (row ∷ rows) other found e = by (nat_cmp number row.0) refl (λ h. found-put number value rows other found h) e
  where
    by : (o : Ordering) → nat_cmp number row.0 ≡ o
        → (lookup (nat_eq other) (insert_entry nat_cmp rows number value) ≡ Some found → ((other ≡ number) × (value ≡ found)) ⊎ (lookup (nat_eq other) rows ≡ Some found))
        → lookup (nat_eq other) (match_ordering o ((number, value) ∷ row ∷ rows) ((row.0, value) ∷ rows) (row ∷ insert_entry nat_cmp rows number value)) ≡ Some found
        → ((other ≡ number) × (value ≡ found)) ⊎ (lookup (nat_eq other) (row ∷ rows) ≡ Some found)
    by Less c rest h =
        split (nat_eq other number)
        (λ t. inl (eqb-true other number t, same_Some _ _ (cond_at_true (nat_eq other number) _ _ _ t h)))
        (λ f. inr (cond_at_false (nat_eq other number) _ _ _ f h))
    by Equal c rest h =
        split (nat_eq other row.0)
        (λ t. inl (eqb-true other row.0 t ∙ sym (exact_unsigned number row.0 c), same_Some _ _ (cond_at_true (nat_eq other row.0) _ _ _ t h)))
        (λ f. inr (lookup_later (nat_eq other) row rows f ∙ cond_at_false (nat_eq other row.0) _ _ _ f h))
    by Greater c rest h =
        split (nat_eq other row.0)
        (λ t. inr (lookup_here (nat_eq other) row rows t ∙ cond_at_true (nat_eq other row.0) _ _ _ t h))
        (λ f. elim (rest (cond_at_false (nat_eq other row.0) _ _ _ f h)) [
          | inl new ↦ inl new
          | inr old ↦ inr (lookup_later (nat_eq other) row rows f ∙ old)
        ])

pub AreMarks-put : (number : ℕ) (new : Mark) (marks : Marks) → AreMarks marks → IsMark new → AreMarks (insert_entry nat_cmp marks number new)
AreMarks-put number new marks are is = record {
  within = λ other mark e. elim (found-put number new marks other mark e) [
    | inl put ↦ subst IsMark put.1 is
    | inr old ↦ are.within other mark old
  ];
  rising = sorted-put nat_cmp nat_cmp_total number new marks are.rising;
}

pub AreMarks-after : (marks : Marks) (op : MetaOp) → AreMarks marks → IsMetaOperation op → IsAskable marks op → meta_refusal marks op ≡ None → AreMarks (marks_after marks op)
AreMarks-after marks (Get node name) are fit askable none = are
AreMarks-after marks (Set node name value) are text askable none =
    let h = none_hold (meta_tests marks (Set node name value)) none in
    let old = some_from (mark_at marks node.0) h.0 in
    let attributes : attributes_of (mark_at marks node.0) ≡ old.0.attributes = ap attributes_of old.1 in
    let room = ap (λ (a : Attributes). is_none (value_at a name) && nat_le most_attributes (length a)) (sym attributes) ∙ h.1.1.0 in
    AreMarks-revised node.0 (with_attributes (with_value (attributes_of (mark_at marks node.0)) name value)) marks old.0 old.1 are
    (subst (λ (a : Attributes). IsMark (with_attributes (with_value a name value) old.0)) (sym attributes)
    (IsMark-set old.0 name value (are.within node.0 old.0 old.1) (not-false _ h.1.0) text room))
AreMarks-after marks (Remove node name) are fit askable none =
    let h = none_hold (meta_tests marks (Remove node name)) none in
    let old = some_from (mark_at marks node.0) h.0 in
    let attributes : attributes_of (mark_at marks node.0) ≡ old.0.attributes = ap attributes_of old.1 in
    AreMarks-revised node.0 (with_attributes (without_value (attributes_of (mark_at marks node.0)) name)) marks old.0 old.1 are
    (subst (λ (a : Attributes). IsMark (with_attributes (without_value a name) old.0)) (sym attributes)
    (IsMark-remove old.0 name (are.within node.0 old.0 old.1)))
AreMarks-after marks (Chown node owner) are named askable none =
    let h = none_hold (meta_tests marks (Chown node owner)) none in
    let old = some_from (mark_at marks node.0) h.0 in
    let is = are.within node.0 old.0 old.1 in
    AreMarks-revised node.0 (with_owner owner) marks old.0 old.1 are (record { owned = named; named = is.named; texts = is.texts; rising = is.rising; few = is.few })
AreMarks-after marks (Add node owner parent) are named askable none = AreMarks-put node.0 (new_mark owner parent.0) marks are (IsMark-new owner parent.0 named)
AreMarks-after marks (Drop node) are fit askable none = AreMarks-removed node.0 marks are
AreMarks-after marks (Move node parent) are fit askable none =
    let old = some_there (mark_at marks node.0) askable in
    let is = are.within node.0 old.0 old.1 in
    AreMarks-revised node.0 (with_parent parent.0) marks old.0 old.1 are (record { owned = is.owned; named = is.named; texts = is.texts; rising = is.rising; few = is.few })

-- ---- the marks of the root alone

one_number : IsStrictlySortedBy nat_cmp (root_number ∷ [])
unfolding IsStrictlySortedBy
one_number = (tt, tt)

pub AreMarks-fresh : AreMarks fresh_marks
AreMarks-fresh = record {
  within = λ number mark e. split (nat_eq number root_number)
      (λ t. subst IsMark (same_Some _ _ (cond_at_true (nat_eq number root_number) _ _ _ t e)) (IsMark-new (codes "admin") 0 refl))
      (λ f. absurd (none-some _ (cond_at_false (nat_eq number root_number) _ _ _ f e)));
  rising = one_number;
}
