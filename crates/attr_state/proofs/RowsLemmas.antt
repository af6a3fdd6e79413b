-- Marks that are put in by rising number, and marks within the limits that stay so.
use Rattle.std.proofs.Common.{◌≡◌, ℕ, Option, Some, None, List, [], ◌∷◌, ◌++◌, refl, sym, ap, ◌∙◌, subst, nat_cmp, Ordering, Less, Greater}
use Rattle.std.specs.Prelude.{IsSome}
use Rattle.std.specs.BTreeMap.{insert_entry}
use Rattle.std.specs.List.{AllByRecursion}
use Rattle.std.specs.List.Sorted.{IsStrictlySortedBy}
use Rattle.std.specs.Map.{keys_of}
use Rattle.std.specs.Ordering.{ordering_reverse, match_ordering}
use Rattle.std.proofs.lemmas.Cmp.{nat_cmp_total}
use Rattle.std.proofs.lemmas.List.{map-append, append_assoc}
use Rattle.file_world.specs.Attributes.{Mark, Marks, mark_at, AreMarks}
use Rattle.file_world.specs.AttributeEffect.{IsMetaOperation, meta_refusal, marks_after, new_mark, with_parent}
use Rattle.file_world.specs.declared.operation.MetaOp.{MetaOp}
use Rattle.file_world.specs.declared.operation.MetaOp.TheVariants.{Get, Set, Remove, Chown, Add, Drop, Move}
use Rattle.file_world.proofs.MarkLemmas.{AreMarks-put, AreMarks-removed, AreMarks-after, IsMark-new}
use Rattle.file_world.proofs.RowLemmas.{AreRising, AreAbove, rising_head, rising_tail}
use Rattle.attr_state.specs.declared.mark.KeptMark.{KeptMark as Kept}
use Rattle.attr_state.specs.Index.{MarkEntries, shown, marks_of, AreOrdered, IsMetaIndex}
use Rattle.attr_state.proofs.MarkLemmas.{keys-shown, mark_at-kept, revised-missing}

-- ---- the last of rising rows

module _ {V : Type 0} where
  above_last : (bound : ℕ) (rows : List (ℕ × V)) (row : ℕ × V) (more : List (ℕ × V)) → AreAbove bound (rows ++ row ∷ more) → nat_cmp bound row.0 ≡ Less
  above_last bound [] row more above = above.0
  above_last bound (first ∷ rows) row more above = above_last bound rows row more above.1

  abbrev AreBefore : ℕ → List (ℕ × V) → Type 0
  AreBefore number rows = AllByRecursion (λ key. nat_cmp key number ≡ Less) (keys_of rows)

  pub before_last : (rows : List (ℕ × V)) (row : ℕ × V) (more : List (ℕ × V)) → AreRising (rows ++ row ∷ more) → AreBefore row.0 rows
  before_last [] row more rising = tt
  before_last (first ∷ rows) row more rising =
      (above_last first.0 rows row more (rising_head first (rows ++ row ∷ more) rising), before_last rows row more (rising_tail first (rows ++ row ∷ more) rising))

  abbrev placed_in : ℕ → V → (ℕ × V) → List (ℕ × V) → Ordering → List (ℕ × V)
  placed_in number value row rows o = match_ordering o ((number, value) ∷ row ∷ rows) ((row.0, value) ∷ rows) (row ∷ insert_entry nat_cmp rows number value)

  pub inserted-last : (rows : List (ℕ × V)) (number : ℕ) (value : V) → AreBefore number rows → insert_entry nat_cmp rows number value ≡ rows ++ (number, value) ∷ []
  inserted-last [] number value before = refl
  inserted-last (row ∷ rows) number value before =
      let greater : nat_cmp number row.0 ≡ Greater = nat_cmp_total.antisymm number row.0 ∙ ap ordering_reverse before.0 in
      ap (λ (o : Ordering). placed_in number value row rows o) greater ∙ ap (λ (rest : List (ℕ × V)). row ∷ rest) (inserted-last rows number value before.1)

before_shown : (entries : MarkEntries) (number : ℕ) → AllByRecursion (λ key. nat_cmp key number ≡ Less) (keys_of (marks_of entries)) → AllByRecursion (λ key. nat_cmp key number ≡ Less) (keys_of entries)
before_shown entries number before = subst (AllByRecursion (λ (key : ℕ). nat_cmp key number ≡ Less)) (keys-shown entries) before

-- one row more is kept
pub kept_next : (old new : MarkEntries) (number : ℕ) (kept : Kept) (row : ℕ × Mark) (more all : Marks) → AreMarks all → marks_of old ++ row ∷ more ≡ all → number ≡ row.0 → shown kept ≡ row.1 → new ≡ insert_entry nat_cmp old number kept → marks_of new ++ more ≡ all
kept_next old new number kept row more all are so_far number_is shows is =
    let rising : AreRising (marks_of old ++ row ∷ more) = subst (λ (marks : Marks). AreRising marks) (sym so_far) are.rising in
    let before : AllByRecursion (λ key. nat_cmp key number ≡ Less) (keys_of (marks_of old)) =
    subst (λ (n : ℕ). AllByRecursion (λ (key : ℕ). nat_cmp key n ≡ Less) (keys_of (marks_of old))) (sym number_is) (before_last (marks_of old) row more rising) in
    let put : new ≡ old ++ (number, kept) ∷ [] = is ∙ inserted-last old number kept (before_shown old number before) in
    let shows_put : marks_of new ≡ marks_of old ++ (number, shown kept) ∷ [] = ap marks_of put ∙ map-append (λ (entry : ℕ × Kept). (entry.0, shown entry.1)) old ((number, kept) ∷ []) in
    let same : (number, shown kept) ≡ row = ap (λ (n : ℕ). (n, shown kept)) number_is ∙ ap (λ (m : Mark). (row.0, m)) shows in
    ap (λ (marks : Marks). marks ++ more) (shows_put ∙ ap (λ (r : ℕ × Mark). marks_of old ++ r ∷ []) same)
    ∙ (append_assoc (marks_of old) (row ∷ []) more ∙ so_far)

-- ---- marks within the limits

ordered_from_marks : (entries : MarkEntries) → AreMarks (marks_of entries) → AreOrdered entries
ordered_from_marks entries are =
    record {
      rising = subst (IsStrictlySortedBy nat_cmp) (keys-shown entries) are.rising;
      sorted = λ number kept e. (are.within number (shown kept) (mark_at-kept entries number kept e)).rising;
    }

-- marks within the limits are kept in order
pub index_of_marks : (entries : MarkEntries) (marks : Marks) → AreMarks marks → marks_of entries ≡ marks → IsMetaIndex entries None
index_of_marks entries marks are same =
    let within : AreMarks (marks_of entries) = subst AreMarks (sym same) are in
    record { index = record { ordered = ordered_from_marks entries within; prepared = tt }; within = within }

-- one mark alone, the root's
pub fresh_within : (old new : MarkEntries) (mark : Kept) (fresh : ℕ × Mark) → old ≡ [] → new ≡ insert_entry nat_cmp old fresh.0 mark → shown mark ≡ fresh.1 → AreMarks (fresh ∷ []) → AreMarks (marks_of new)
fresh_within old new mark fresh none is shows are =
    let one : new ≡ (fresh.0, mark) ∷ [] = is ∙ ap (λ (entries : MarkEntries). insert_entry nat_cmp entries fresh.0 mark) none in
    subst AreMarks (sym (ap marks_of one ∙ ap (λ (m : Mark). (fresh.0, m) ∷ []) shows)) are

-- an operation that is not refused leaves them within the limits
pub AreMarks-changed : (marks : Marks) (op : MetaOp) → AreMarks marks → IsMetaOperation op → meta_refusal marks op ≡ None → AreMarks (marks_after marks op)
AreMarks-changed marks (Get node name) are fit free = are
AreMarks-changed marks (Set node name value) are fit free = AreMarks-after marks (Set node name value) are fit tt free
AreMarks-changed marks (Remove node name) are fit free = AreMarks-after marks (Remove node name) are fit tt free
AreMarks-changed marks (Chown node owner) are fit free = AreMarks-after marks (Chown node owner) are fit tt free
AreMarks-changed marks (Add node owner parent) are fit free = AreMarks-put node.0 (new_mark owner parent.0) marks are (IsMark-new owner parent.0 fit)
AreMarks-changed marks (Drop node) are fit free = AreMarks-removed node.0 marks are
AreMarks-changed marks (Move node parent) are fit free =
    by (mark_at marks node.0) refl
  where
    by : (found : Option Mark) → mark_at marks node.0 ≡ found → AreMarks (marks_after marks (Move node parent))
    by (Some mark) e = AreMarks-after marks (Move node parent) are fit (subst IsSome (sym e) refl) free
    by None e = subst AreMarks (sym (revised-missing node.0 (with_parent parent.0) marks e)) are
