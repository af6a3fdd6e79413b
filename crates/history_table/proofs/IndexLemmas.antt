-- The index of issues with one more.
use Rattle.std.proofs.Common.{◌≡◌, ◌≢◌, false, ◌≤◌, ◌⊎◌, ℕ, zero, suc, List, [], ◌∷◌, ◌++◌, length, refl, sym, ap, subst, ◌∙◌, inl, inr, ⊎_elim, arith, Option, Some, None}
use Rattle.std.specs.BTreeMap.{is_at}
use Rattle.std.specs.Cmp.{Equal-is}
use Rattle.std.specs.FinMap.{nat_cmp-IsAntisymmetric}
use Rattle.std.specs.List.{slice_get}
use Rattle.std.specs.Ordering.{nat_cmp}
use Rattle.std.proofs.lemmas.Bool.{cases_Bool}
use Rattle.std.proofs.lemmas.List.{length-append}
use Rattle.std.proofs.lemmas.Option.{none-some, same_Some, slice_get_within}
use Rattle.history_table.specs.declared.issues.IssueIndex.{IssueIndex}
use Rattle.history_table.proofs.CaseLemmas.{same_or_not}
use Rattle.history_table.specs.Index.{IsIndexOf, IsLastPlace, FindsLast, place_for}

pub slice_get_push : {A : Type 0} (items : List A) (last : A) (place : ℕ) (item : A) → slice_get (items ++ last ∷ []) place ≡ Some item → (slice_get items place ≡ Some item) ⊎ ((place ≡ length items) × (last ≡ item))
slice_get_push [] last zero item found = inr (refl, same_Some last item found)
slice_get_push [] last (suc place) item found = absurd (none-some item found)
slice_get_push (x ∷ items) last zero item found = inl found
slice_get_push (x ∷ items) last (suc place) item found =
    ⊎_elim (λ front. inl front) (λ back. inr (ap suc back.0, back.1)) (slice_get_push items last place item found)

pub slice_get_front : {A : Type 0} (items : List A) (last : A) (place : ℕ) (item : A) → slice_get items place ≡ Some item → slice_get (items ++ last ∷ []) place ≡ Some item
slice_get_front [] last place item found = absurd (none-some item found)
slice_get_front (x ∷ items) last zero item found = found
slice_get_front (x ∷ items) last (suc place) item found = slice_get_front items last place item found

pub slice_get_last : {A : Type 0} (items : List A) (last : A) → slice_get (items ++ last ∷ []) (length items) ≡ Some last
slice_get_last [] last = refl
slice_get_last (x ∷ items) last = slice_get_last items last

-- what is answer of places below a bound stays with one more after them
finds_more : (digests : List ℕ) (last bound digest : ℕ) (answer : Option ℕ) → bound ≤ length digests → FindsLast digests bound digest answer → FindsLast (digests ++ last ∷ []) bound digest answer
finds_more digests last bound digest None within none = λ place lt here.
    ⊎_elim (λ front. none place lt front) (λ back. absurd (omega (arith, lt, within, back.0))) (slice_get_push digests last place digest here)
finds_more digests last bound digest (Some found) within is = record {
  below = is.below;
  there = slice_get_front digests last found digest is.there;
  none_later = λ place lt below here.
      ⊎_elim (λ front. is.none_later place lt below front) (λ back. absurd (omega (arith, below, within, back.0))) (slice_get_push digests last place digest here);
}

-- of another digest also up to the new one
finds_past : (digests : List ℕ) (last digest : ℕ) (answer : Option ℕ) → (last ≡ digest → ⊥) → FindsLast digests (length digests) digest answer → FindsLast (digests ++ last ∷ []) (length (digests ++ last ∷ [])) digest answer
finds_past digests last digest None differs none = λ place lt here.
    ⊎_elim (λ front. none place (slice_get_within digests place digest front) front) (λ back. differs back.1) (slice_get_push digests last place digest here)
finds_past digests last digest (Some found) differs is = record {
  below = omega (arith, is.below, length-append digests (last ∷ []));
  there = slice_get_front digests last found digest is.there;
  none_later = λ place lt below here.
      ⊎_elim (λ front. is.none_later place lt (slice_get_within digests place digest front) front) (λ back. differs back.1) (slice_get_push digests last place digest here);
}

-- the new one is the last of its digest
is_last : (digests : List ℕ) (last : ℕ) → IsLastPlace (digests ++ last ∷ []) (length (digests ++ last ∷ [])) last (length digests)
is_last digests last = record {
  below = omega (arith, length-append digests (last ∷ []));
  there = slice_get_last digests last;
  none_later = λ place lt below here. omega (arith, lt, below, length-append digests (last ∷ []));
}

module _ (digests : List ℕ) (digest : ℕ) (index more : IssueIndex) (is : IsIndexOf digests index)
    (earlier : more.earlier.items ≡ index.earlier.items ++ place_for index digest ∷ [])
    (own : place_for more digest ≡ Some (length digests)) (others : (other : ℕ) → other ≢ digest → place_for more other ≡ place_for index other) where
  sized : length (index.earlier.items ++ place_for index digest ∷ []) ≡ length (digests ++ digest ∷ [])
  sized = omega (arith, is.sized, length-append index.earlier.items (place_for index digest ∷ []), length-append digests (digest ∷ []))

  private_latest : (other : ℕ) → (digest ≡ other) ⊎ (digest ≡ other → ⊥) → FindsLast (digests ++ digest ∷ []) (length (digests ++ digest ∷ [])) other (place_for more other)
  private_latest other (inl same) =
      subst (λ (d : ℕ). FindsLast (digests ++ digest ∷ []) (length (digests ++ digest ∷ [])) d (place_for more d)) same
      (subst (FindsLast (digests ++ digest ∷ []) (length (digests ++ digest ∷ [])) digest) (sym own) (is_last digests digest))
  private_latest other (inr differs) =
      subst (FindsLast (digests ++ digest ∷ []) (length (digests ++ digest ∷ [])) other) (sym (others other (λ same. differs (sym same))))
      (finds_past digests digest other (place_for index other) differs (is.latest other))

  private_earlier : (place other : ℕ) (before : Option ℕ) → slice_get (digests ++ digest ∷ []) place ≡ Some other → slice_get (index.earlier.items ++ place_for index digest ∷ []) place ≡ Some before → FindsLast (digests ++ digest ∷ []) place other before
  private_earlier place other before here found =
      ⊎_elim
      (λ front. ⊎_elim
      (λ at. finds_more digests digest place other before (omega (arith, slice_get_within digests place other front)) (is.earlier place other before front at))
      (λ back. absurd (omega (arith, back.0, is.sized, slice_get_within digests place other front)))
      (slice_get_push index.earlier.items (place_for index digest) place before found))
      (λ back. ⊎_elim
      (λ at. absurd (omega (arith, back.0, is.sized, slice_get_within index.earlier.items place before at)))
      (λ last. subst (λ (p : ℕ). FindsLast (digests ++ digest ∷ []) p other before) (sym back.0)
      (subst (λ (o : Option ℕ). FindsLast (digests ++ digest ∷ []) (length digests) other o) last.1
      (subst (λ (d : ℕ). FindsLast (digests ++ digest ∷ []) (length digests) d (place_for index digest)) back.1
      (finds_more digests digest (length digests) digest (place_for index digest) (omega arith) (is.latest digest)))))
      (slice_get_push index.earlier.items (place_for index digest) place before found))
      (slice_get_push digests digest place other here)

  pub index_more : IsIndexOf (digests ++ digest ∷ []) more
  index_more = record {
    sized = ap length earlier ∙ sized;
    latest = λ other. private_latest other (same_or_not digest other);
    earlier = λ place other before here found. private_earlier place other before here (subst (λ (os : List (Option ℕ)). slice_get os place ≡ Some before) earlier found);
  }

-- nothing is entered
pub no_issues : (index : IssueIndex) → index.earlier.items ≡ [] → ((digest : ℕ) → place_for index digest ≡ None) → IsIndexOf [] index
no_issues index earlier latest = record {
  sized = ap length earlier;
  latest = λ digest. subst (FindsLast [] 0 digest) (sym (latest digest)) (λ place lt here. none-some digest here);
  earlier = λ place digest before here found. absurd (none-some digest here);
}

-- another digest is not found under this one
pub not_at : (digest other : ℕ) → other ≢ digest → is_at (nat_cmp digest) other ≡ false
not_at digest other differs =
    ⊎_elim (λ same. absurd (differs (sym (nat_cmp-IsAntisymmetric digest other ((Equal-is (nat_cmp digest other)).0 same))))) (λ apart. apart) (cases_Bool (is_at (nat_cmp digest) other))
