-- The first places of digests, and what they tell.
use Rattle.std.proofs.Common.{◌≡◌, ◌≢◌, ◌⊎◌, ◌<◌, ◌≤◌, ◌+◌, ℕ, zero, suc, List, [], ◌∷◌, ◌++◌, length, take, get_or, map, refl, sym, ap, subst, ◌∙◌, inl, inr, ⊎_elim, arith, Option, Some, None, Bool, true, false, ltb}
use Rattle.std.specs.Prelude.{Contains, IsTrue, is_some, not, unwrap_or, ◌↔◌}
use Rattle.std.specs.BTreeMap.{is_at}
use Rattle.std.specs.Cmp.{Equal-is}
use Rattle.std.specs.FinMap.{nat_cmp-IsAntisymmetric}
use Rattle.std.specs.Ordering.{nat_cmp}
use Rattle.std.specs.Borrow.{Bor}
use Rattle.std.specs.List.{slice_get}
use Rattle.std.specs.Option.{option_map}
use Rattle.std.proofs.lemmas.Bool.{cases_Bool, cases_eq, false≢true, ltb-true, ltb-false}
use Rattle.std.proofs.lemmas.List.{get_or-take, length-take, length-take-le, take_all, take_more}
use Rattle.std.proofs.lemmas.Option.{same_Some, slice_get-map, slice_get_read, slice_get_within, get_or_from_slice_get, none-some}
use Rattle.bl_syntax.specs.Grant.{GrantView}
use Rattle.bl_syntax.specs.Statement.{StatementView}
use Rattle.pcfs_audit.specs.Firsts.{AreBelow, AreFirsts, HasFirst, first_of}
use Rattle.policy_statement.specs.Registry.{CanRegister}
use Rattle.pcfs_audit.specs.Papers.{shown}
use Rattle.pcfs_audit.specs.Supports.{IsFirstOf}
use Rattle.pcfs_audit.proofs.ReferenceLemmas.{length-shown, placed_before, shown_read, shown_take}

-- ---- entering

-- what was entered stays
pub some_kept : (o : Option ℕ) (place : ℕ) → true ≡ is_some o → o ≡ Some (unwrap_or o place)
some_kept None place is = absurd cc
some_kept (Some first) place is = refl

pub none_entered : (o : Option ℕ) (place : ℕ) → false ≡ is_some o → Some place ≡ Some (unwrap_or o place)
none_entered None place is = refl
none_entered (Some first) place is = absurd cc

-- another digest is not found under this one
pub not_at : (digest other : ℕ) → (other ≡ digest → ⊥) → is_at (nat_cmp digest) other ≡ false
not_at digest other differs =
    ⊎_elim (λ same. absurd (differs (sym (nat_cmp-IsAntisymmetric digest other ((Equal-is (nat_cmp digest other)).0 same))))) (λ apart. apart) (cases_Bool (is_at (nat_cmp digest) other))

abbrev pub Entries : Type 0
Entries = List (ℕ × ℕ)

pub slice_get_push : {A : Type 0} (items : List A) (last : A) (place : ℕ) (item : A) → slice_get (items ++ last ∷ []) place ≡ Some item → (slice_get items place ≡ Some item) ⊎ ((place ≡ length items) × (last ≡ item))
slice_get_push [] last zero item found = inr (refl, same_Some last item found)
slice_get_push [] last (suc place) item found = absurd (none-some item found)
slice_get_push (x ∷ items) last zero item found = inl found
slice_get_push (x ∷ items) last (suc place) item found =
    ⊎_elim (λ front. inl front) (λ back. inr (ap suc back.0, back.1)) (slice_get_push items last place item found)

module _ (old new : Entries) (digest place : ℕ) (below : AreBelow old place)
    (own : first_of new digest ≡ Some (unwrap_or (first_of old digest) place)) (others : (other : ℕ) → other ≢ digest → first_of new other ≡ first_of old other) where
  -- the place of the digest itself
  own_place : (was : Option ℕ) → first_of old digest ≡ was → HasFirst new digest place
  own_place None is = record { first = place; entered = own ∙ ap (λ (o : Option ℕ). Some (unwrap_or o place)) is; not_after = omega arith }
  own_place (Some first) is =
      record { first = first; entered = own ∙ ap (λ (o : Option ℕ). Some (unwrap_or o place)) is; not_after = omega (arith, below digest first is) }

  -- a place that was entered stays
  kept_place : (other first : ℕ) → first_of old other ≡ Some first → first_of new other ≡ Some first
  kept_place other first was =
      ⊎_elim
      (λ same. subst (λ (d : ℕ). first_of new d ≡ Some first) (sym same)
      (own ∙ ap (λ (o : Option ℕ). Some (unwrap_or o place)) (subst (λ (d : ℕ). first_of old d ≡ Some first) same was)))
      (λ differs. others other differs ∙ was)
      (cases_eq other digest)

  kept_first : (other at : ℕ) → HasFirst old other at → HasFirst new other at
  kept_first other at has = record { first = has.first; entered = kept_place other has.first has.entered; not_after = has.not_after }

  below_own : (first : ℕ) → (was : Option ℕ) → first_of old digest ≡ was → first_of new digest ≡ Some first → first < place + 1
  below_own first None is found =
      let same : place ≡ first = same_Some place first (sym (ap (λ (o : Option ℕ). Some (unwrap_or o place)) is) ∙ sym own ∙ found) in
      omega (arith, same)
  below_own first (Some earlier) is found =
      let same : earlier ≡ first = same_Some earlier first (sym (ap (λ (o : Option ℕ). Some (unwrap_or o place)) is) ∙ sym own ∙ found) in
      omega (arith, same, below digest earlier is)

  -- all places are below the next
  pub AreBelow-entered : AreBelow new (place + 1)
  AreBelow-entered = λ other first found.
      ⊎_elim
      (λ same. below_own first (first_of old digest) refl (subst (λ (d : ℕ). first_of new d ≡ Some first) same found))
      (λ differs. let was : first < place = below other first (sym (others other differs) ∙ found) in omega (arith, was))
      (cases_eq other digest)

  -- one digest more has its place
  pub AreFirsts-entered : (digests : List ℕ) → place < length digests → digest ≡ get_or digests place 0 → AreFirsts (take place digests) old → AreFirsts (take (place + 1) digests) new
  AreFirsts-entered digests within read are = λ at other found.
      let more : take (place + 1) digests ≡ take place digests ++ digest ∷ [] = take_more digests place 0 within ∙ ap (λ (d : ℕ). take place digests ++ d ∷ []) (sym read) in
      ⊎_elim
      (λ front. kept_first other at (are at other front))
      (λ back.
      let last : at ≡ place = back.0 ∙ length-take-le place digests (omega (arith, within)) in
      subst (λ (d : ℕ). HasFirst new d at) back.1 (subst (λ (n : ℕ). HasFirst new digest n) (sym last) (own_place (first_of old digest) refl)))
      (slice_get_push (take place digests) digest at other (subst (λ (ds : List ℕ). slice_get ds at ≡ Some other) more found))

-- all digests have their places
pub AreFirsts-all : (digests : List ℕ) (place : ℕ) (entries : Entries) → length digests ≤ place → AreFirsts (take place digests) entries → AreFirsts digests entries
AreFirsts-all digests place entries all are = subst (λ (ds : List ℕ). AreFirsts ds entries) (take_all place digests all) are

-- ---- what they tell

-- an item whose digest has no place, or one that is not before the count, is not among the first ones
module _ {A : Type 0} (f : A → ℕ) (items : List A) (entries : Entries) (are : AreFirsts (map f items) entries) (item : A) (count : ℕ) where
  first_among : Contains (take count items) item → (first : ℕ) × (first_of entries (f item) ≡ Some first) × (first < count)
  first_among here =
      let placed = placed_before items count item here in
      let has = are placed.place (f item) (slice_get-map f items placed.place ∙ ap (option_map f) placed.found) in
      (has.first, has.entered, omega (arith, has.not_after, placed.before))

  pub not_among_none : first_of entries (f item) ≡ None → Contains (take count items) item → ⊥
  not_among_none none here = let there = first_among here in none-some there.0 (sym none ∙ there.1)

  pub not_among_later : (first : ℕ) → first_of entries (f item) ≡ Some first → count ≤ first → Contains (take count items) item → ⊥
  not_among_later first found later here =
      let there = first_among here in
      let same : first ≡ there.0 = same_Some first there.0 (sym found ∙ there.1) in
      omega (arith, same, later, there.2)

-- ---- whether an equal one is among the first ones

pub negated : {P : Type 0} (test : Bool) → (IsTrue test ↔ P) → IsTrue (not test) ↔ (P → ⊥)
negated true decides = (λ yes. absurd (false≢true yes), λ none. absurd (none (decides.0 refl)))
negated false decides = (λ yes p. false≢true (decides.1 p), λ none. refl)

pub among_shown : {A : Type 0} (references : List (Bor A)) (count : ℕ) (item : A) (test : Bool) → (IsTrue test ↔ Contains (shown (take count references)) item) → IsTrue test ↔ Contains (take count (shown references)) item
among_shown {A} references count item test decides = subst (λ (xs : List A). IsTrue test ↔ Contains xs item) (shown_take references count) decides

-- a statement may be added if it is signed, none of these, and has room
pub could_be : (accepted : Bool) (said : List StatementView) (statement : StatementView) (is_new : Bool) → IsTrue accepted → length said < 4096 → (IsTrue is_new ↔ (Contains said statement → ⊥)) → IsTrue is_new ↔ (IsTrue accepted × CanRegister said statement)
could_be accepted said statement is_new signed room decides = (λ yes. (signed, record { new = decides.0 yes; room = room }), λ both. decides.1 both.1.new)

pub not_accepted : (accepted : Bool) (said : List StatementView) (statement : StatementView) → accepted ≡ false → IsTrue false ↔ (IsTrue accepted × CanRegister said statement)
not_accepted accepted said statement is = (λ yes. absurd (false≢true yes), λ both. absurd (false≢true (sym is ∙ both.0)))

pub no_room : (accepted : Bool) (said : List StatementView) (statement : StatementView) → 4096 ≤ length said → IsTrue false ↔ (IsTrue accepted × CanRegister said statement)
no_room accepted said statement full = (λ yes. absurd (false≢true yes), λ both. absurd (omega (arith, full, both.1.room)))

-- ---- the first of equal ones

-- no item has the digest, or its first place is beyond all
module _ {A : Type 0} (f : A → ℕ) (items : List A) (entries : Entries) (are : AreFirsts (map f items) entries) (item : A) where
  pub not_any_none : first_of entries (f item) ≡ None → Contains items item → ⊥
  not_any_none none here = not_among_none f items entries are item (length items) none (subst (λ (xs : List A). Contains xs item) (sym (take_all (length items) items (omega arith))) here)

  pub not_any_beyond : (first : ℕ) → first_of entries (f item) ≡ Some first → length items ≤ first → Contains items item → ⊥
  not_any_beyond first found beyond here =
      not_among_later f items entries are item (length items) first found beyond (subst (λ (xs : List A). Contains xs item) (sym (take_all (length items) items (omega arith))) here)

  -- an item before which none has its digest is the first of those that are equal
  pub first_by_digest : (first place : ℕ) → first_of entries (f item) ≡ Some first → slice_get items place ≡ Some item → first ≤ place
  first_by_digest first place found at =
      let has = are place (f item) (slice_get-map f items place ∙ ap (option_map f) at) in
      let same : first ≡ has.first = same_Some first has.first (sym found ∙ has.entered) in
      omega (arith, same, has.not_after)

contains_early : {A : Type 0} (items : List A) (count place : ℕ) (item : A) → place < count → slice_get items place ≡ Some item → Contains (take count items) item
contains_early items count place item before at =
    let within : place < length items = slice_get_within items place item at in
    let there : place < length (take count items) = omega (arith, within, before, length-take count items) in
    (place, there, get_or-take count items place item before ∙ get_or_from_slice_get items place item item at)

-- an item that none of those before it is, is the first
pub first_of_equals : {A : Type 0} (items : List A) (place other : ℕ) (item : A) → (Contains (take place items) item → ⊥) → slice_get items other ≡ Some item → place ≤ other
first_of_equals items place other item none at =
    ⊎_elim
    (λ early. absurd (none (contains_early items place other item (ltb-true other place early) at)))
    (λ late. ltb-false other place late)
    (cases_Bool (ltb other place))

-- the first of these references that shows the grant
pub first_shown : (references : List (Bor GrantView)) (place : ℕ) (reference : Bor GrantView) (g : GrantView) → place < length references → reference ≡ get_or references place reference → reference.now ≡ g → (Contains (shown (take place references)) g → ⊥) →
    IsFirstOf (shown references) g place
first_shown references place reference g within read same none =
    let there : place < length (shown references) = omega (arith, within, length-shown references) in
    let at : slice_get (shown references) place ≡ Some reference.now = slice_get_read (shown references) (length (shown references)) place reference.now refl there (shown_read references place reference within read) in
    let before : Contains (take place (shown references)) g → ⊥ = λ here. none (subst (λ (gs : List GrantView). Contains gs g) (sym (shown_take references place)) here) in
    record { at = at ∙ ap (λ (h : GrantView). Some h) same; first = λ other found. first_of_equals (shown references) place other g before found }

-- the place of a digest, if the grant there is the one
pub first_entered : (f : GrantView → ℕ) (references : List (Bor GrantView)) (entries : Entries) (first : ℕ) (reference : Bor GrantView) (g : GrantView) → AreFirsts (map f (shown references)) entries → first_of entries (f g) ≡ Some first → first < length references →
    reference ≡ get_or references first reference → reference.now ≡ g → IsFirstOf (shown references) g first
first_entered f references entries first reference g are found within read same =
    let there : first < length (shown references) = omega (arith, within, length-shown references) in
    let at : slice_get (shown references) first ≡ Some reference.now = slice_get_read (shown references) (length (shown references)) first reference.now refl there (shown_read references first reference within read) in
    record { at = at ∙ ap (λ (h : GrantView). Some h) same; first = λ other other_at. first_by_digest f (shown references) entries are g first other found other_at }
