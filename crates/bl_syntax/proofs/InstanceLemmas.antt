-- An instance of a well sorted body, at a term of its sort, part by part.
use Rattle.std.proofs.Common.{◌≡◌, ◌<◌, ◌+◌, ℕ, zero, suc, List, [], ◌∷◌, ◌++◌, length, Bool, true, false, map, max, refl, sym, ◌∙◌, ap, ap₂, eqb-true, eq-eqb, length-append, arith}
use Rattle.std.specs.Prelude.{Option, Some, None, IsSome, ◌==◌, if◌then◌else◌}
use Rattle.std.specs.List.{slice_get, AllByRecursion}
use Rattle.std.proofs.lemmas.Bool.{false≢true}
use Rattle.std.proofs.lemmas.Option.{slice_get_within}
use Rattle.bl_syntax.specs.declared.terms.Sort.{Sort}
use Rattle.bl_syntax.specs.declared.terms.Sort.TheVariants as sorts
use Rattle.bl_syntax.specs.declared.terms.Term.{Term}
use Rattle.bl_syntax.specs.declared.terms.Term.TheVariants.{Prin, File, Perm, Time, Text, Ctime, Param, Bound}
use Rattle.bl_syntax.specs.declared.terms.StatePred.{StatePred}
use Rattle.bl_syntax.specs.declared.terms.StatePred.TheVariants.{Owner, HasXattr, InDir}
use Rattle.bl_syntax.specs.Formula.{FormulaView, atom, compare, state, both, either, implies, truth, falsity, forall_, exists_, says, on}
use Rattle.bl_syntax.specs.Terms.{sort_of, HasTimeInRange}
use Rattle.bl_syntax.specs.WellSorted.{HasSort, IsInScope, HaveSorts, IsSortedState, IsWellSorted, sorts_of_may, terms_of_state, size, widest_atom}
use Rattle.bl_syntax.specs.Statement.{AllTerms}
use Rattle.bl_syntax.specs.Substitution.{put_in_term, put_in_state, put_in}

-- ---- the term that is put in, and the place where it is put

front_of : (inner : List Sort) (s : Sort) (n : ℕ) → n < length inner → slice_get (inner ++ s ∷ []) n ≡ slice_get inner n
front_of [] s n h = absurd (omega (arith, h))
front_of (r ∷ inner) s zero h = refl
front_of (r ∷ inner) s (suc n) h = front_of inner s n (omega (arith, h))

last_of : (inner : List Sort) (s : Sort) → slice_get (inner ++ s ∷ []) (length inner) ≡ Some s
last_of [] s = refl
last_of (r ∷ inner) s = last_of inner s

-- a term that holds no variable has the same sort under any binders
sort_anywhere : (parameters inner : List Sort) (t : Term) (s : Sort) → sort_of parameters [] t ≡ Some s → sort_of parameters inner t ≡ Some s
sort_anywhere parameters inner (Prin name) s h = h
sort_anywhere parameters inner (File number) s h = h
sort_anywhere parameters inner (Perm permission) s h = h
sort_anywhere parameters inner (Time point) s h = h
sort_anywhere parameters inner (Text text) s h = h
sort_anywhere parameters inner Ctime s h = h
sort_anywhere parameters inner (Param n) s h = h
sort_anywhere parameters inner (Bound n) s h = absurd cc

same_sort : (s r : Sort) → Some s ≡ Some r → s ≡ r
same_sort s r e = cc

at_place : (parameters inner : List Sort) (s r : Sort) (t : Term) (n : ℕ) (here : Bool) → (n == length inner) ≡ here → HasSort parameters [] s t
    → slice_get (inner ++ s ∷ []) n ≡ Some r → HasSort parameters inner r (if here then t else Bound n)
at_place parameters inner s r t n true is sorted found =
    let e : slice_get (inner ++ s ∷ []) n ≡ slice_get (inner ++ s ∷ []) (length inner) = ap (λ (k : ℕ). slice_get (inner ++ s ∷ []) k) (eqb-true n (length inner) is) in
    sort_anywhere parameters inner t s sorted ∙ (sym (last_of inner s) ∙ (sym e ∙ found))
at_place parameters inner s r t n false is sorted found =
    let differ : n ≡ length inner → ⊥ = λ same. false≢true (sym is ∙ eq-eqb n (length inner) same) in
    let within = slice_get_within (inner ++ s ∷ []) n r found in
    let counted = length-append inner (s ∷ []) in
    sym (front_of inner s n (omega (arith, within, counted, differ))) ∙ found

-- a term of a body keeps its sort
HasSort-put_in : (parameters inner : List Sort) (s r : Sort) (t u : Term) → HasSort parameters [] s t → HasSort parameters (inner ++ s ∷ []) r u → HasSort parameters inner r (put_in_term (length inner) t u)
HasSort-put_in parameters inner s r t (Prin name) sorted h = h
HasSort-put_in parameters inner s r t (File number) sorted h = h
HasSort-put_in parameters inner s r t (Perm permission) sorted h = h
HasSort-put_in parameters inner s r t (Time point) sorted h = h
HasSort-put_in parameters inner s r t (Text text) sorted h = h
HasSort-put_in parameters inner s r t Ctime sorted h = h
HasSort-put_in parameters inner s r t (Param n) sorted h = h
HasSort-put_in parameters inner s r t (Bound n) sorted h = at_place parameters inner s r t n (n == length inner) refl sorted h

some_sort : (found : Option Sort) → IsSome found → (r : Sort) × (found ≡ Some r)
some_sort None h = absurd (false≢true h)
some_sort (Some r) h = (r, refl)

is_some_of : (found : Option Sort) (r : Sort) → found ≡ Some r → IsSome found
is_some_of found r e = rw e refl

IsInScope-put_in : (parameters inner : List Sort) (s : Sort) (t u : Term) → HasSort parameters [] s t → IsInScope parameters (inner ++ s ∷ []) u → IsInScope parameters inner (put_in_term (length inner) t u)
IsInScope-put_in parameters inner s t u sorted h =
    let found = some_sort (sort_of parameters (inner ++ s ∷ []) u) h in
    is_some_of (sort_of parameters inner (put_in_term (length inner) t u)) found.0 (HasSort-put_in parameters inner s found.0 t u sorted found.1)

AreInScope-put_in : (parameters inner : List Sort) (s : Sort) (t : Term) → HasSort parameters [] s t → (terms : List Term) → AllByRecursion (IsInScope parameters (inner ++ s ∷ [])) terms
    → AllByRecursion (IsInScope parameters inner) (map (put_in_term (length inner) t) terms)
AreInScope-put_in parameters inner s t sorted [] h = tt
AreInScope-put_in parameters inner s t sorted (u ∷ terms) h = (IsInScope-put_in parameters inner s t u sorted h.0, AreInScope-put_in parameters inner s t sorted terms h.1)

HaveSorts-put_in : (parameters inner : List Sort) (s : Sort) (t : Term) → HasSort parameters [] s t → (wanted : List Sort) (terms : List Term) → HaveSorts parameters (inner ++ s ∷ []) wanted terms
    → HaveSorts parameters inner wanted (map (put_in_term (length inner) t) terms)
HaveSorts-put_in parameters inner s t sorted [] [] h = tt
HaveSorts-put_in parameters inner s t sorted [] (u ∷ terms) h = h
HaveSorts-put_in parameters inner s t sorted (r ∷ wanted) [] h = h
HaveSorts-put_in parameters inner s t sorted (r ∷ wanted) (u ∷ terms) h = (HasSort-put_in parameters inner s r t u sorted h.0, HaveSorts-put_in parameters inner s t sorted wanted terms h.1)

IsSortedState-put_in : (parameters inner : List Sort) (s : Sort) (t : Term) → HasSort parameters [] s t → (p : StatePred) → IsSortedState parameters (inner ++ s ∷ []) p → IsSortedState parameters inner (put_in_state (length inner) t p)
IsSortedState-put_in parameters inner s t sorted (Owner file owner) h =
    (HasSort-put_in parameters inner s sorts.File t file sorted h.0, HasSort-put_in parameters inner s sorts.Principal t owner sorted h.1)
IsSortedState-put_in parameters inner s t sorted (HasXattr file name value) h =
    (HasSort-put_in parameters inner s sorts.File t file sorted h.0, (HasSort-put_in parameters inner s sorts.Text t name sorted h.1.0, HasSort-put_in parameters inner s sorts.Text t value sorted h.1.1))
IsSortedState-put_in parameters inner s t sorted (InDir file directory) h =
    (HasSort-put_in parameters inner s sorts.File t file sorted h.0, HasSort-put_in parameters inner s sorts.File t directory sorted h.1)

-- ---- formulas

pub IsWellSorted-put_in : (parameters inner : List Sort) (s : Sort) (t : Term) → HasSort parameters [] s t → (f : FormulaView) → IsWellSorted parameters (inner ++ s ∷ []) f → IsWellSorted parameters inner (put_in (length inner) t f)
IsWellSorted-put_in parameters inner s t sorted (atom name terms) h = record {
  in_scope = AreInScope-put_in parameters inner s t sorted terms h.in_scope;
  of_may = λ e. HaveSorts-put_in parameters inner s t sorted sorts_of_may terms (h.of_may e);
}
IsWellSorted-put_in parameters inner s t sorted (compare c) h =
    (HasSort-put_in parameters inner s sorts.Time t c.low sorted h.0, HasSort-put_in parameters inner s sorts.Time t c.high sorted h.1)
IsWellSorted-put_in parameters inner s t sorted (state p) h = IsSortedState-put_in parameters inner s t sorted p h
IsWellSorted-put_in parameters inner s t sorted (both a b) h = (IsWellSorted-put_in parameters inner s t sorted a h.0, IsWellSorted-put_in parameters inner s t sorted b h.1)
IsWellSorted-put_in parameters inner s t sorted (either a b) h = (IsWellSorted-put_in parameters inner s t sorted a h.0, IsWellSorted-put_in parameters inner s t sorted b h.1)
IsWellSorted-put_in parameters inner s t sorted (implies a b) h = (IsWellSorted-put_in parameters inner s t sorted a h.0, IsWellSorted-put_in parameters inner s t sorted b h.1)
IsWellSorted-put_in parameters inner s t sorted truth h = tt
IsWellSorted-put_in parameters inner s t sorted falsity h = tt
IsWellSorted-put_in parameters inner s t sorted (forall_ r a) h = IsWellSorted-put_in parameters (r ∷ inner) s t sorted a h
IsWellSorted-put_in parameters inner s t sorted (exists_ r a) h = IsWellSorted-put_in parameters (r ∷ inner) s t sorted a h
IsWellSorted-put_in parameters inner s t sorted (says k a) h = (HasSort-put_in parameters inner s sorts.Principal t k sorted h.0, IsWellSorted-put_in parameters inner s t sorted a h.1)
IsWellSorted-put_in parameters inner s t sorted (on a u v) h =
    (IsWellSorted-put_in parameters inner s t sorted a h.0, (HasSort-put_in parameters inner s sorts.Time t u sorted h.1.0, HasSort-put_in parameters inner s sorts.Time t v sorted h.1.1))

length_of_map : (f : Term → Term) (terms : List Term) → length (map f terms) ≡ length terms
length_of_map f [] = refl
length_of_map f (u ∷ terms) = ap suc (length_of_map f terms)

number_of_places : (depth : ℕ) (t : Term) (p : StatePred) → length (terms_of_state (put_in_state depth t p)) ≡ length (terms_of_state p)
number_of_places depth t (Owner file owner) = refl
number_of_places depth t (HasXattr file name value) = refl
number_of_places depth t (InDir file directory) = refl

pub size-put_in : (depth : ℕ) (t : Term) (f : FormulaView) → size (put_in depth t f) ≡ size f
size-put_in depth t (atom name terms) = ap (λ (n : ℕ). 1 + n) (length_of_map (put_in_term depth t) terms)
size-put_in depth t (compare c) = refl
size-put_in depth t (state p) = ap (λ (n : ℕ). 1 + n) (number_of_places depth t p)
size-put_in depth t (both a b) = ap₂ (λ (m n : ℕ). 1 + m + n) (size-put_in depth t a) (size-put_in depth t b)
size-put_in depth t (either a b) = ap₂ (λ (m n : ℕ). 1 + m + n) (size-put_in depth t a) (size-put_in depth t b)
size-put_in depth t (implies a b) = ap₂ (λ (m n : ℕ). 1 + m + n) (size-put_in depth t a) (size-put_in depth t b)
size-put_in depth t truth = refl
size-put_in depth t falsity = refl
size-put_in depth t (forall_ s a) = ap (λ (n : ℕ). 1 + n) (size-put_in (suc depth) t a)
size-put_in depth t (exists_ s a) = ap (λ (n : ℕ). 1 + n) (size-put_in (suc depth) t a)
size-put_in depth t (says k a) = ap (λ (n : ℕ). 2 + n) (size-put_in depth t a)
size-put_in depth t (on a u v) = ap (λ (n : ℕ). 3 + n) (size-put_in depth t a)

pub widest_atom-put_in : (depth : ℕ) (t : Term) (f : FormulaView) → widest_atom (put_in depth t f) ≡ widest_atom f
widest_atom-put_in depth t (atom name terms) = length_of_map (put_in_term depth t) terms
widest_atom-put_in depth t (compare c) = refl
widest_atom-put_in depth t (state p) = refl
widest_atom-put_in depth t (both a b) = ap₂ (λ (m n : ℕ). max m n) (widest_atom-put_in depth t a) (widest_atom-put_in depth t b)
widest_atom-put_in depth t (either a b) = ap₂ (λ (m n : ℕ). max m n) (widest_atom-put_in depth t a) (widest_atom-put_in depth t b)
widest_atom-put_in depth t (implies a b) = ap₂ (λ (m n : ℕ). max m n) (widest_atom-put_in depth t a) (widest_atom-put_in depth t b)
widest_atom-put_in depth t truth = refl
widest_atom-put_in depth t falsity = refl
widest_atom-put_in depth t (forall_ s a) = widest_atom-put_in (suc depth) t a
widest_atom-put_in depth t (exists_ s a) = widest_atom-put_in (suc depth) t a
widest_atom-put_in depth t (says k a) = widest_atom-put_in depth t a
widest_atom-put_in depth t (on a u v) = widest_atom-put_in depth t a

-- ---- times

in_range_here : (t : Term) (n : ℕ) (here : Bool) → HasTimeInRange t → HasTimeInRange (if here then t else Bound n)
in_range_here t n true h = h
in_range_here t n false h = tt

HasTimeInRange-put_in : (depth : ℕ) (t u : Term) → HasTimeInRange t → HasTimeInRange u → HasTimeInRange (put_in_term depth t u)
HasTimeInRange-put_in depth t (Prin name) known h = h
HasTimeInRange-put_in depth t (File number) known h = h
HasTimeInRange-put_in depth t (Perm permission) known h = h
HasTimeInRange-put_in depth t (Time point) known h = h
HasTimeInRange-put_in depth t (Text text) known h = h
HasTimeInRange-put_in depth t Ctime known h = h
HasTimeInRange-put_in depth t (Param n) known h = h
HasTimeInRange-put_in depth t (Bound n) known h = in_range_here t n (n == depth) known

HaveTimesInRange-put_in : (depth : ℕ) (t : Term) → HasTimeInRange t → (terms : List Term) → AllByRecursion HasTimeInRange terms → AllByRecursion HasTimeInRange (map (put_in_term depth t) terms)
HaveTimesInRange-put_in depth t known [] h = tt
HaveTimesInRange-put_in depth t known (u ∷ terms) h = (HasTimeInRange-put_in depth t u known h.0, HaveTimesInRange-put_in depth t known terms h.1)

state_in_range : (depth : ℕ) (t : Term) → HasTimeInRange t → (p : StatePred) → AllByRecursion HasTimeInRange (terms_of_state p) → AllByRecursion HasTimeInRange (terms_of_state (put_in_state depth t p))
state_in_range depth t known (Owner file owner) h = HaveTimesInRange-put_in depth t known (file ∷ owner ∷ []) h
state_in_range depth t known (HasXattr file name value) h = HaveTimesInRange-put_in depth t known (file ∷ name ∷ value ∷ []) h
state_in_range depth t known (InDir file directory) h = HaveTimesInRange-put_in depth t known (file ∷ directory ∷ []) h

pub times_in_range-put_in : (depth : ℕ) (t : Term) → HasTimeInRange t → (f : FormulaView) → AllTerms HasTimeInRange f → AllTerms HasTimeInRange (put_in depth t f)
times_in_range-put_in depth t known (atom name terms) h = HaveTimesInRange-put_in depth t known terms h
times_in_range-put_in depth t known (compare c) h = (HasTimeInRange-put_in depth t c.low known h.0, HasTimeInRange-put_in depth t c.high known h.1)
times_in_range-put_in depth t known (state p) h = state_in_range depth t known p h
times_in_range-put_in depth t known (both a b) h = (times_in_range-put_in depth t known a h.0, times_in_range-put_in depth t known b h.1)
times_in_range-put_in depth t known (either a b) h = (times_in_range-put_in depth t known a h.0, times_in_range-put_in depth t known b h.1)
times_in_range-put_in depth t known (implies a b) h = (times_in_range-put_in depth t known a h.0, times_in_range-put_in depth t known b h.1)
times_in_range-put_in depth t known truth h = tt
times_in_range-put_in depth t known falsity h = tt
times_in_range-put_in depth t known (forall_ s a) h = times_in_range-put_in (suc depth) t known a h
times_in_range-put_in depth t known (exists_ s a) h = times_in_range-put_in (suc depth) t known a h
times_in_range-put_in depth t known (says k a) h = (HasTimeInRange-put_in depth t k known h.0, times_in_range-put_in depth t known a h.1)
times_in_range-put_in depth t known (on a u v) h =
    (times_in_range-put_in depth t known a h.0, (HasTimeInRange-put_in depth t u known h.1.0, HasTimeInRange-put_in depth t v known h.1.1))
