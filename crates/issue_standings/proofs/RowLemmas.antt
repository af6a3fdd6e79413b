-- The rows of the index: what they are after one was changed, after each issue changed its own, and after an issue was added.
use Rattle.std.proofs.Common.{◌≡◌, ◌⊎◌, inl, inr, ⊎_elim, ◌<◌, ◌≤◌, ◌+◌, ℕ, zero, suc, List, [], ◌∷◌, ◌++◌, length, get_or, set, map, Bool, false, Option, Some, refl, sym, ap, subst, ◌∙◌, arith, length-append}
use Rattle.std.specs.Prelude.{find}
use Rattle.std.specs.List.{slice_get}
use Rattle.std.proofs.lemmas.Option.{slice_get_read, slice_get_within, same_Some}
use Rattle.bl_syntax.specs.Grant.{GrantView}
use Rattle.issue_standings.specs.declared.standing.GrantStanding.{GrantStanding}
use Rattle.issue_standings.specs.declared.standing.GrantStanding.TheVariants.{Unissued}
use Rattle.issue_standings.specs.declared.standings.Row.{Row}
use Rattle.issue_standings.specs.Bearing.{BearingView, IsGrantAt, IsUnissued}
use Rattle.issue_standings.specs.Gone.{HasOther}
use Rattle.issue_standings.specs.GrantStanding.{after, standing_of}
use Rattle.issue_standings.specs.Rows.{ArePlaces, IsRowOf, IsRowless, IsOnce, AreRows, AreCounted, changed, each_changed, counted_in, counted, left, left_to, AreWithin}
use Rattle.issue_standings.proofs.StandingLemmas.{after_same, after_other, standing_of-push, standing-unissued}

-- ---- places in lists

pub get_more : {A : Type 0} (xs ys : List A) (place : ℕ) (x : A) → slice_get xs place ≡ Some x → slice_get (xs ++ ys) place ≡ Some x
get_more [] ys place x found = absurd cc
get_more (first ∷ xs) ys zero x found = found
get_more (first ∷ xs) ys (suc place) x found = get_more xs ys place x found

pub get_last : {A : Type 0} (xs : List A) (x : A) → slice_get (xs ++ x ∷ []) (length xs) ≡ Some x
get_last [] x = refl
get_last (first ∷ xs) x = get_last xs x

-- an item of a list with one more item is one of the list, or the last
pub get_push : {A : Type 0} (xs : List A) (x : A) (place : ℕ) (y : A) → slice_get (xs ++ x ∷ []) place ≡ Some y → (slice_get xs place ≡ Some y) ⊎ ((place ≡ length xs) × (x ≡ y))
get_push [] x zero y found = inr (refl, cc)
get_push [] x (suc place) y found = absurd cc
get_push (first ∷ xs) x zero y found = inl found
get_push (first ∷ xs) x (suc place) y found = ⊎_elim (λ old. inl old) (λ last. inr (ap suc last.0, last.1)) (get_push xs x place y found)

number_more : (xs : List ℕ) (x place : ℕ) → place < length xs → get_or (xs ++ x ∷ []) place 0 ≡ get_or xs place 0
number_more [] x place within = absurd (omega (arith, within))
number_more (first ∷ xs) x zero within = refl
number_more (first ∷ xs) x (suc place) within = number_more xs x place (omega (arith, within))

number_last : (xs : List ℕ) (x : ℕ) → get_or (xs ++ x ∷ []) (length xs) 0 ≡ x
number_last [] x = refl
number_last (first ∷ xs) x = number_last xs x

-- an item at each place
record HasAt {A : Type 0} (xs : List A) (place : ℕ) : Type 0 where
  pub item : A
  pub found : slice_get xs place ≡ Some item

item_at : {A : Type 0} (xs : List A) (place : ℕ) → place < length xs → HasAt xs place
item_at [] place below = absurd (omega (arith, below))
item_at (x ∷ xs) zero below = record { item = x; found = refl }
item_at (x ∷ xs) (suc place) below = let rest = item_at xs place (omega (arith, below)) in record { item = rest.item; found = rest.found }

one_item : {A : Type 0} (xs : List A) (place : ℕ) (x y : A) → slice_get xs place ≡ Some x → slice_get xs place ≡ Some y → x ≡ y
one_item xs place x y one other = same_Some x y (sym one ∙ other)

-- ---- grants at places

grant_more : (bearings more : List BearingView) (place : ℕ) (g : GrantView) → IsGrantAt bearings place g → IsGrantAt (bearings ++ more) place g
grant_more bearings more place g has = record { bearing = has.bearing; at = get_more bearings more place has.bearing has.at; grant_is = has.grant_is }

-- what is at a place before the last issue's was there before
earlier_at : (bearings : List BearingView) (b : BearingView) (place : ℕ) (c : BearingView) → place < length bearings → slice_get (bearings ++ b ∷ []) place ≡ Some c → slice_get bearings place ≡ Some c
earlier_at bearings b place c below found = ⊎_elim (λ old. old) (λ last. absurd (omega (arith, below, last.0))) (get_push bearings b place c found)

grant_earlier : (bearings : List BearingView) (b : BearingView) (place : ℕ) (g : GrantView) → place < length bearings → IsGrantAt (bearings ++ b ∷ []) place g → IsGrantAt bearings place g
grant_earlier bearings b place g below has = record { bearing = has.bearing; at = earlier_at bearings b place has.bearing below has.at; grant_is = has.grant_is }

-- ---- rows of grants

row_more_bearings : (bearings more : List BearingView) (rows : List Row) (g : GrantView) (row : ℕ) → IsRowOf bearings rows g row → IsRowOf (bearings ++ more) rows g row
row_more_bearings bearings more rows g row is = record { kept = is.kept; at = is.at; grant_at = grant_more bearings more is.kept.place g is.grant_at }

row_earlier : (bearings : List BearingView) (b : BearingView) (rows : List Row) (g : GrantView) (row : ℕ) → ArePlaces bearings rows → IsRowOf (bearings ++ b ∷ []) rows g row → IsRowOf bearings rows g row
row_earlier bearings b rows g row places is = record { kept = is.kept; at = is.at; grant_at = grant_earlier bearings b is.kept.place g (places row is.kept is.at) is.grant_at }

row_more_rows : (bearings : List BearingView) (rows more : List Row) (g : GrantView) (row : ℕ) → IsRowOf bearings rows g row → IsRowOf bearings (rows ++ more) g row
row_more_rows bearings rows more g row is = record { kept = is.kept; at = get_more rows more row is.kept is.at; grant_at = is.grant_at }

-- a grant has one issue at a place
pub same_at : (bearings : List BearingView) (place : ℕ) (g : GrantView) (b : BearingView) → IsGrantAt bearings place g → slice_get bearings place ≡ Some b → b.grant ≡ g
same_at bearings place g b has found = ap (λ (c : BearingView). c.grant) (one_item bearings place b has.bearing found has.at) ∙ has.grant_is

-- if no row is one of the grant, none of the issues that have rows has it
pub unissued_rowless : (bearings first : List BearingView) (rows : List Row) (row_of : List ℕ) (g : GrantView) → AreRows bearings first rows row_of → IsRowless bearings rows g → IsUnissued first g
unissued_rowless bearings first rows row_of g are none place has =
    let row = get_or row_of place 0 in
    let is : IsRowOf bearings rows has.bearing.grant row = are.has place has.bearing has.at in
    none row (subst (λ (w : GrantView). IsRowOf bearings rows w row) has.grant_is is)

-- ---- one row is changed

-- a row after one was changed
record IsChangedAt (change : Row → Row) (rows : List Row) (row place : ℕ) (now : Row) : Type 0 where
  pub kept : Row
  pub at : slice_get rows place ≡ Some kept
  pub how : ((place ≡ row) × (now ≡ change kept)) ⊎ ((place ≡ row → ⊥) × (now ≡ kept))

changed_at_later : (change : Row → Row) (first : Row) (rows : List Row) (row place : ℕ) (now : Row) → IsChangedAt change rows row place now → IsChangedAt change (first ∷ rows) (suc row) (suc place) now
changed_at_later change first rows row place now is = record {
  kept = is.kept;
  at = is.at;
  how = ⊎_elim (λ here. inl (ap suc here.0, here.1)) (λ there. inr (λ same. there.0 (omega (arith, same)), there.1)) is.how;
}

changed_at : (change : Row → Row) (rows : List Row) (row place : ℕ) (now : Row) → slice_get (changed change rows row) place ≡ Some now → IsChangedAt change rows row place now
changed_at change [] row place now found = absurd cc
changed_at change (first ∷ rows) zero zero now found =
    let is : now ≡ change first = cc in record { kept = first; at = refl; how = inl (refl, is) }
changed_at change (first ∷ rows) zero (suc place) now found = record { kept = now; at = found; how = inr (λ same. absurd (omega (arith, same)), refl) }
changed_at change (first ∷ rows) (suc row) zero now found =
    let is : now ≡ first = cc in record { kept = first; at = refl; how = inr (λ same. absurd (omega (arith, same)), is) }
changed_at change (first ∷ rows) (suc row) (suc place) now found = changed_at_later change first rows row place now (changed_at change rows row place now found)

-- the change leaves the row its place
abbrev pub KeepsPlace : (Row → Row) → Type 0
KeepsPlace change = (kept : Row) → (change kept).place ≡ kept.place

place_kept : (change : Row → Row) (rows : List Row) (row place : ℕ) (now : Row) → KeepsPlace change → (is : IsChangedAt change rows row place now) → now.place ≡ is.kept.place
place_kept change rows row place now keeps is =
    ⊎_elim (λ here. ap (λ (r : Row). r.place) here.1 ∙ keeps is.kept) (λ there. ap (λ (r : Row). r.place) there.1) is.how

-- a row before one was changed is there after it
record HasChanged (change : Row → Row) (rows : List Row) (row place : ℕ) (kept : Row) : Type 0 where
  pub now : Row
  pub at : slice_get (changed change rows row) place ≡ Some now
  pub place_is : now.place ≡ kept.place

has_changed : (change : Row → Row) (rows : List Row) (row place : ℕ) (kept : Row) → KeepsPlace change → slice_get rows place ≡ Some kept → HasChanged change rows row place kept
has_changed change [] row place kept keeps found = absurd cc
has_changed change (first ∷ rows) zero zero kept keeps found =
    let same : first ≡ kept = cc in record { now = change first; at = refl; place_is = keeps first ∙ ap (λ (r : Row). r.place) same }
has_changed change (first ∷ rows) zero (suc place) kept keeps found = record { now = kept; at = found; place_is = refl }
has_changed change (first ∷ rows) (suc row) zero kept keeps found = record { now = kept; at = found; place_is = refl }
has_changed change (first ∷ rows) (suc row) (suc place) kept keeps found =
    let rest = has_changed change rows row place kept keeps found in record { now = rest.now; at = rest.at; place_is = rest.place_is }

pub length-changed : (change : Row → Row) (rows : List Row) (row : ℕ) → length (changed change rows row) ≡ length rows
length-changed change [] row = refl
length-changed change (first ∷ rows) zero = refl
length-changed change (first ∷ rows) (suc row) = ap suc (length-changed change rows row)

-- to change a row is to write it into its place
set-changed : (change : Row → Row) (rows : List Row) (row : ℕ) (kept : Row) → slice_get rows row ≡ Some kept → set rows row (change kept) ≡ changed change rows row
set-changed change [] row kept found = absurd cc
set-changed change (first ∷ rows) zero kept found =
    let same : first ≡ kept = cc in ap (λ (r : Row). change r ∷ rows) (sym same)
set-changed change (first ∷ rows) (suc row) kept found = ap (λ (rs : List Row). first ∷ rs) (set-changed change rows row kept found)

row_read : (rows : List Row) (row : ℕ) (before : Row) → row < length rows → before ≡ get_or rows row before → slice_get rows row ≡ Some before
row_read rows row before within is = slice_get_read rows (length rows) row before refl within is

-- the row that was read, changed
pub changed_read : (change : Row → Row) (rows : List Row) (row : ℕ) (before written : Row) → row < length rows → before ≡ get_or rows row before → written ≡ change before → set rows row written ≡ changed change rows row
changed_read change rows row before written within is written_is = ap (set rows row) written_is ∙ set-changed change rows row before (row_read rows row before within is)

-- with an issue counted
pub counted_read : (rows : List Row) (row : ℕ) (withdrawn : Option ℕ) (before : Row) (standing : GrantStanding) → row < length rows → before ≡ get_or rows row before → standing ≡ after before.standing withdrawn →
    set rows row (record { place = before.place; standing = standing; anew = before.anew }) ≡ counted rows row withdrawn
counted_read rows row withdrawn before standing within is standing_is =
    changed_read (counted_in withdrawn) rows row before (record { place = before.place; standing = standing; anew = before.anew }) within is
    (ap (λ (s : GrantStanding). record { place = before.place; standing = s; anew = before.anew }) standing_is)

-- what does the same to the row that was read changes the rows so
changed_as : (one other : Row → Row) (rows : List Row) (row : ℕ) (kept : Row) → slice_get rows row ≡ Some kept → one kept ≡ other kept → changed one rows row ≡ changed other rows row
changed_as one other [] row kept found same = absurd cc
changed_as one other (first ∷ rows) zero kept found same =
    let is : first ≡ kept = cc in ap (λ (r : Row). r ∷ rows) (ap one is ∙ (same ∙ ap other (sym is)))
changed_as one other (first ∷ rows) (suc row) kept found same = ap (λ (rs : List Row). first ∷ rs) (changed_as one other rows row kept found same)

changed_to : (change : Row → Row) (rows : List Row) (row : ℕ) (kept : Row) → slice_get rows row ≡ Some kept → change kept ≡ kept → changed change rows row ≡ rows
changed_to change [] row kept found same = absurd cc
changed_to change (first ∷ rows) zero kept found same =
    let is : first ≡ kept = cc in ap (λ (r : Row). r ∷ rows) (ap change is ∙ (same ∙ sym is))
changed_to change (first ∷ rows) (suc row) kept found same = ap (λ (rs : List Row). first ∷ rs) (changed_to change rows row kept found same)

pub changed_alike : (one other : Row → Row) (rows : List Row) (row : ℕ) (kept : Row) → row < length rows → kept ≡ get_or rows row kept → one kept ≡ other kept → changed one rows row ≡ changed other rows row
changed_alike one other rows row kept within is same = changed_as one other rows row kept (row_read rows row kept within is) same

pub changed_not : (change : Row → Row) (rows : List Row) (row : ℕ) (kept : Row) → row < length rows → kept ≡ get_or rows row kept → change kept ≡ kept → changed change rows row ≡ rows
changed_not change rows row kept within is same = changed_to change rows row kept (row_read rows row kept within is) same

-- what does the same to each row
pub changed_same : (one other : Row → Row) → ((kept : Row) → one kept ≡ other kept) → (rows : List Row) (row : ℕ) → changed one rows row ≡ changed other rows row
changed_same one other same [] row = refl
changed_same one other same (first ∷ rows) zero = ap (λ (r : Row). r ∷ rows) (same first)
changed_same one other same (first ∷ rows) (suc row) = ap (λ (rs : List Row). first ∷ rs) (changed_same one other same rows row)

pub changed_none : (change : Row → Row) → ((kept : Row) → change kept ≡ kept) → (rows : List Row) (row : ℕ) → changed change rows row ≡ rows
changed_none change same [] row = refl
changed_none change same (first ∷ rows) zero = ap (λ (r : Row). r ∷ rows) (same first)
changed_none change same (first ∷ rows) (suc row) = ap (λ (rs : List Row). first ∷ rs) (changed_none change same rows row)

module _ (change : Row → Row) (keeps : KeepsPlace change) (bearings : List BearingView) (rows : List Row) (row : ℕ) where
  -- the rows of grants stay
  pub row_changed : (g : GrantView) (place : ℕ) → IsRowOf bearings rows g place → IsRowOf bearings (changed change rows row) g place
  row_changed g place is =
      let has = has_changed change rows row place is.kept keeps is.at in
      record { kept = has.now; at = has.at; grant_at = subst (λ (p : ℕ). IsGrantAt bearings p g) (sym has.place_is) is.grant_at }

  row_before : (g : GrantView) (place : ℕ) → IsRowOf bearings (changed change rows row) g place → IsRowOf bearings rows g place
  row_before g place is =
      let at = changed_at change rows row place is.kept is.at in
      record { kept = at.kept; at = at.at; grant_at = subst (λ (p : ℕ). IsGrantAt bearings p g) (place_kept change rows row place is.kept keeps at) is.grant_at }

  places_changed : ArePlaces bearings rows → ArePlaces bearings (changed change rows row)
  places_changed places place now found =
      let at = changed_at change rows row place now found in
      let below = places place at.kept at.at in
      let same = place_kept change rows row place now keeps at in
      omega (arith, below, same)

  once_changed : IsOnce bearings rows → IsOnce bearings (changed change rows row)
  once_changed once g one other is is_too = once g one other (row_before g one is) (row_before g other is_too)

  -- each issue keeps its row
  pub AreRows-changed : (first : List BearingView) (row_of : List ℕ) → AreRows bearings first rows row_of → AreRows bearings first (changed change rows row) row_of
  AreRows-changed first row_of are = record {
    each = are.each;
    has = λ place b found. row_changed b.grant (get_or row_of place 0) (are.has place b found);
    places = places_changed are.places;
    once = once_changed are.once;
  }

-- something holds of each row and its grant
abbrev pub HoldsOfRows : (GrantView → Row → Type 0) → List BearingView → List Row → Type 0
HoldsOfRows Holds bearings rows = (row : ℕ) (kept : Row) (b : BearingView) → slice_get rows row ≡ Some kept → slice_get bearings kept.place ≡ Some b → Holds b.grant kept

module _ (change : Row → Row) (keeps : KeepsPlace change) (Before Now : GrantView → Row → Type 0) (bearings : List BearingView) (rows : List Row) (row : ℕ) (g : GrantView)
    (here : (kept : Row) → Before g kept → Now g (change kept)) (there : (other : GrantView) (kept : Row) → (g ≡ other → ⊥) → Before other kept → Now other kept) where
  -- the row that is changed is the grant's
  change_here : HoldsOfRows Before bearings rows → IsRowOf bearings rows g row → (place : ℕ) (now kept : Row) (c : BearingView) → slice_get rows place ≡ Some kept → slice_get bearings kept.place ≡ Some c → place ≡ row → now ≡ change kept → Now c.grant now
  change_here holds is place now kept c at found same now_is =
      let kept_is : kept ≡ is.kept = one_item rows row kept is.kept (subst (λ (p : ℕ). slice_get rows p ≡ Some kept) same at) is.at in
      let grant : c.grant ≡ g = same_at bearings is.kept.place g c is.grant_at (subst (λ (r : Row). slice_get bearings r.place ≡ Some c) kept_is found) in
      let before : Before g kept = subst (λ (w : GrantView). Before w kept) grant (holds place kept c at found) in
      subst (λ (w : GrantView). Now w now) (sym grant) (subst (λ (r : Row). Now g r) (sym now_is) (here kept before))

  -- another row
  change_there : IsOnce bearings rows → HoldsOfRows Before bearings rows → IsRowOf bearings rows g row → (place : ℕ) (now kept : Row) (c : BearingView) → slice_get rows place ≡ Some kept → slice_get bearings kept.place ≡ Some c
      → (place ≡ row → ⊥) → now ≡ kept → Now c.grant now
  change_there once holds is place now kept c at found not now_is =
      let other : g ≡ c.grant → ⊥ =
      λ same. not (once c.grant place row (record { kept = kept; at = at; grant_at = record { bearing = c; at = found; grant_is = refl } }) (subst (λ (w : GrantView). IsRowOf bearings rows w row) same is)) in
      subst (λ (r : Row). Now c.grant r) (sym now_is) (there c.grant kept other (holds place kept c at found))

  change_either : IsOnce bearings rows → HoldsOfRows Before bearings rows → IsRowOf bearings rows g row → (place : ℕ) (now : Row) (c : BearingView) (is_at : IsChangedAt change rows row place now) → slice_get bearings is_at.kept.place ≡ Some c → Now c.grant now
  change_either once holds is place now c is_at found =
      ⊎_elim (λ chosen. change_here holds is place now is_at.kept c is_at.at found chosen.0 chosen.1) (λ passed. change_there once holds is place now is_at.kept c is_at.at found passed.0 passed.1) is_at.how

  -- of the rows after the grant's was changed, it holds
  pub HoldsOfRows-changed : IsOnce bearings rows → HoldsOfRows Before bearings rows → IsRowOf bearings rows g row → HoldsOfRows Now bearings (changed change rows row)
  HoldsOfRows-changed once holds is place now c at found =
      let is_at = changed_at change rows row place now at in
      change_either once holds is place now c is_at (subst (λ (p : ℕ). slice_get bearings p ≡ Some c) (place_kept change rows row place now keeps is_at) found)

-- ---- one issue more is counted

keeps_counted : (found : Option ℕ) → KeepsPlace (counted_in found)
keeps_counted found kept = refl

-- the rows have one issue more counted, after it was counted in the row of its grant
pub AreCounted-one : (withdrawn : ℕ → Bool) (bearings first : List BearingView) (rows : List Row) (row : ℕ) (b : BearingView) → IsOnce bearings rows → AreCounted withdrawn bearings first rows → IsRowOf bearings rows b.grant row →
    AreCounted withdrawn bearings (first ++ b ∷ []) (counted rows row (find withdrawn b.cited))
AreCounted-one withdrawn bearings first rows row b once all is =
    let found = find withdrawn b.cited in
    HoldsOfRows-changed (counted_in found) (keeps_counted found) (λ g kept. kept.standing ≡ standing_of withdrawn g first) (λ g kept. kept.standing ≡ standing_of withdrawn g (first ++ b ∷ [])) bearings rows row b.grant
    (λ kept before. ap (λ (s : GrantStanding). after s found) before ∙ (sym (after_same withdrawn b.grant (standing_of withdrawn b.grant first) b refl) ∙ sym (standing_of-push withdrawn b.grant first b)))
    (λ g kept other before. before ∙ (sym (after_other withdrawn g (standing_of withdrawn g first) b other) ∙ sym (standing_of-push withdrawn g first b)))
    once all is

-- ---- each issue changes its row

append_nothing : {A : Type 0} (xs : List A) → xs ++ [] ≡ xs
append_nothing [] = refl
append_nothing {A} (x ∷ xs) = ap (λ (ys : List A). x ∷ ys) (append_nothing xs)

append_twice : {A : Type 0} (xs : List A) (y : A) (zs : List A) → (xs ++ y ∷ []) ++ zs ≡ xs ++ y ∷ zs
append_twice [] y zs = refl
append_twice {A} (x ∷ xs) y zs = ap (λ (ys : List A). x ∷ ys) (append_twice xs y zs)

module _ (change : BearingView → Row → Row) (keeps : (b : BearingView) → KeepsPlace (change b)) (bearings : List BearingView) where
  -- the rows stay
  pub AreRows-each : (first rest : List BearingView) (row_of all : List ℕ) (rows : List Row) → AreRows bearings first rows all → AreRows bearings first (each_changed change row_of rest rows) all
  AreRows-each first [] [] all rows are = are
  AreRows-each first [] (row ∷ row_of) all rows are = are
  AreRows-each first (b ∷ rest) [] all rows are = are
  AreRows-each first (b ∷ rest) (row ∷ row_of) all rows are = AreRows-each first rest row_of all (changed (change b) rows row) (AreRows-changed (change b) (keeps b) bearings rows row first all are)

  -- each of these issues has the row of its grant
  abbrev HasEach : List BearingView → List ℕ → List Row → Type 0
  HasEach rest row_of rows = (place : ℕ) (b : BearingView) → slice_get rest place ≡ Some b → IsRowOf bearings rows b.grant (get_or row_of place 0)

  each_later : (b : BearingView) (rest : List BearingView) (row : ℕ) (row_of : List ℕ) (rows : List Row) → HasEach (b ∷ rest) (row ∷ row_of) rows → HasEach rest row_of (changed (change b) rows row)
  each_later b rest row row_of rows has place c at = row_changed (change b) (keeps b) bearings rows row c.grant (get_or row_of place 0) (has (suc place) c at)

  -- what an issue leaves to hold, of its own row and of others, holds after all
  module _ (Holds : GrantView → List BearingView → Row → Type 0)
      (here : (g : GrantView) (first : List BearingView) (b : BearingView) (kept : Row) → b.grant ≡ g → Holds g first kept → Holds g (first ++ b ∷ []) (change b kept))
      (there : (g : GrantView) (first : List BearingView) (b : BearingView) (kept : Row) → HasOther g b → Holds g first kept → Holds g (first ++ b ∷ []) kept) where
    holds_from : (first rest : List BearingView) (row_of : List ℕ) (rows : List Row) → ArePlaces bearings rows → IsOnce bearings rows → HasEach rest row_of rows → length row_of ≡ length rest → HoldsOfRows (λ g kept. Holds g first kept) bearings rows →
        HoldsOfRows (λ g kept. Holds g (first ++ rest) kept) bearings (each_changed change row_of rest rows)
    holds_from first [] [] rows places once has each holds = subst (λ (bs : List BearingView). HoldsOfRows (λ g kept. Holds g bs kept) bearings rows) (sym (append_nothing first)) holds
    holds_from first [] (row ∷ row_of) rows places once has each holds = absurd (omega (arith, each))
    holds_from first (b ∷ rest) [] rows places once has each holds = absurd (omega (arith, each))
    holds_from first (b ∷ rest) (row ∷ row_of) rows places once has each holds =
        let now : HoldsOfRows (λ g kept. Holds g (first ++ b ∷ []) kept) bearings (changed (change b) rows row) =
        HoldsOfRows-changed (change b) (keeps b) (λ g kept. Holds g first kept) (λ g kept. Holds g (first ++ b ∷ []) kept) bearings rows row b.grant (λ kept. here b.grant first b kept refl) (λ g kept. there g first b kept) once holds (has 0 b refl) in
        let later = holds_from (first ++ b ∷ []) rest row_of (changed (change b) rows row) (places_changed (change b) (keeps b) bearings rows row places) (once_changed (change b) (keeps b) bearings rows row once)
        (each_later b rest row row_of rows has) (omega (arith, each)) now in
        subst (λ (bs : List BearingView). HoldsOfRows (λ g kept. Holds g bs kept) bearings (each_changed change row_of rest (changed (change b) rows row))) (append_twice first b rest) later

    pub HoldsOfRows-each : (first : List BearingView) (rows : List Row) (row_of : List ℕ) → AreRows bearings first rows row_of → HoldsOfRows (λ g kept. Holds g [] kept) bearings rows → HoldsOfRows (λ g kept. Holds g first kept) bearings (each_changed change row_of first rows)
    HoldsOfRows-each first rows row_of are holds = holds_from [] first row_of rows are.places are.once are.has are.each holds

module _ (change : BearingView → Row → Row) where
  pub length-each : (rest : List BearingView) (row_of : List ℕ) (rows : List Row) → length (each_changed change row_of rest rows) ≡ length rows
  length-each [] [] rows = refl
  length-each [] (row ∷ row_of) rows = refl
  length-each (b ∷ rest) [] rows = refl
  length-each (b ∷ rest) (row ∷ row_of) rows = length-each rest row_of (changed (change b) rows row) ∙ length-changed (change b) rows row

  -- one step of it: an issue after those before it
  pub each-push : (first : List BearingView) (row_of : List ℕ) (rows : List Row) (b : BearingView) (row : ℕ) → length row_of ≡ length first →
      each_changed change (row_of ++ row ∷ []) (first ++ b ∷ []) rows ≡ changed (change b) (each_changed change row_of first rows) row
  each-push [] [] rows b row each = refl
  each-push [] (other ∷ row_of) rows b row each = absurd (omega (arith, each))
  each-push (c ∷ first) [] rows b row each = absurd (omega (arith, each))
  each-push (c ∷ first) (other ∷ row_of) rows b row each = each-push first row_of (changed (change c) rows other) b row (omega (arith, each))

-- ---- each row is left as it stands

-- a row that was left
record IsLeftAt (rows : List Row) (place : ℕ) (now : Row) : Type 0 where
  pub kept : Row
  pub at : slice_get rows place ≡ Some kept
  pub now_is : now ≡ left kept

left_at : (rows : List Row) (place : ℕ) (now : Row) → slice_get (map left rows) place ≡ Some now → IsLeftAt rows place now
left_at [] place now found = absurd cc
left_at (first ∷ rows) zero now found =
    let is : now ≡ left first = cc in record { kept = first; at = refl; now_is = is }
left_at (first ∷ rows) (suc place) now found =
    let rest = left_at rows place now found in record { kept = rest.kept; at = rest.at; now_is = rest.now_is }

at_left : (rows : List Row) (place : ℕ) (kept : Row) → slice_get rows place ≡ Some kept → slice_get (map left rows) place ≡ Some (left kept)
at_left [] place kept found = absurd cc
at_left (first ∷ rows) zero kept found =
    let same : first ≡ kept = cc in ap (λ (r : Row). Some (left r)) same
at_left (first ∷ rows) (suc place) kept found = at_left rows place kept found

row_left : (bearings : List BearingView) (rows : List Row) (g : GrantView) (row : ℕ) → IsRowOf bearings rows g row → IsRowOf bearings (map left rows) g row
row_left bearings rows g row is = record { kept = left is.kept; at = at_left rows row is.kept is.at; grant_at = is.grant_at }

row_unleft : (bearings : List BearingView) (rows : List Row) (g : GrantView) (row : ℕ) → IsRowOf bearings (map left rows) g row → IsRowOf bearings rows g row
row_unleft bearings rows g row is =
    let at = left_at rows row is.kept is.at in
    record { kept = at.kept; at = at.at; grant_at = subst (λ (r : Row). IsGrantAt bearings r.place g) at.now_is is.grant_at }

pub AreRows-left : (bearings first : List BearingView) (rows : List Row) (row_of : List ℕ) → AreRows bearings first rows row_of → AreRows bearings first (map left rows) row_of
AreRows-left bearings first rows row_of are = record {
  each = are.each;
  has = λ place b found. row_left bearings rows b.grant (get_or row_of place 0) (are.has place b found);
  places = λ row now found. let at = left_at rows row now found in subst (λ (r : Row). r.place < length bearings) (sym at.now_is) (are.places row at.kept at.at);
  once = λ g one other is is_too. are.once g one other (row_unleft bearings rows g one is) (row_unleft bearings rows g other is_too);
}

pub HoldsOfRows-left : (Before Now : GrantView → Row → Type 0) (bearings : List BearingView) (rows : List Row) → ((g : GrantView) (kept : Row) → Before g kept → Now g (left kept)) → HoldsOfRows Before bearings rows → HoldsOfRows Now bearings (map left rows)
HoldsOfRows-left Before Now bearings rows leaves holds row now b found at =
    let was = left_at rows row now found in
    subst (λ (r : Row). Now b.grant r) (sym was.now_is) (leaves b.grant was.kept (holds row was.kept b was.at (subst (λ (r : Row). slice_get bearings r.place ≡ Some b) was.now_is at)))

pub length-left : (rows : List Row) → length (map left rows) ≡ length rows
length-left [] = refl
length-left (first ∷ rows) = ap suc (length-left rows)

-- each row of an issue is within the rows
pub AreWithin-rows : (bearings first : List BearingView) (rows : List Row) (row_of : List ℕ) → AreRows bearings first rows row_of → AreWithin row_of rows
AreWithin-rows bearings first rows row_of are place below =
    let b = item_at first place (omega (arith, below, are.each)) in
    let is = are.has place b.item b.found in
    slice_get_within rows (get_or row_of place 0) is.kept is.at

-- ---- the loop that leaves the rows

-- one step of it
set-left : (rows : List Row) (row : ℕ) (kept : Row) → slice_get (left_to row rows) row ≡ Some kept → set (left_to row rows) row (left kept) ≡ left_to (suc row) rows
set-left [] zero kept found = absurd cc
set-left [] (suc row) kept found = absurd cc
set-left (first ∷ rows) zero kept found =
    let same : first ≡ kept = cc in ap (λ (r : Row). left r ∷ rows) (sym same)
set-left (first ∷ rows) (suc row) kept found = ap (λ (rs : List Row). left first ∷ rs) (set-left rows row kept found)

-- the row that was read
pub left_read : (rows now : List Row) (row : ℕ) (before : Row) → row < length now → before ≡ get_or now row before → now ≡ left_to row rows → set now row (left before) ≡ left_to (row + 1) rows
left_read rows now row before within is now_is =
    let at : slice_get (left_to row rows) row ≡ Some before = subst (λ (rs : List Row). slice_get rs row ≡ Some before) now_is (row_read now row before within is) in
    let next : suc row ≡ row + 1 = omega arith in
    ap (λ (rs : List Row). set rs row (left before)) now_is ∙ (set-left rows row before at ∙ ap (λ (n : ℕ). left_to n rows) next)

left_past : (rows : List Row) (row : ℕ) → length rows ≤ row → left_to row rows ≡ map left rows
left_past [] zero past = refl
left_past [] (suc row) past = refl
left_past (first ∷ rows) zero past = absurd (omega (arith, past))
left_past (first ∷ rows) (suc row) past = ap (λ (rs : List Row). left first ∷ rs) (left_past rows row (omega (arith, past)))

-- all were left
pub left_all : (rows now : List Row) (row : ℕ) → length rows ≤ row → now ≡ left_to row rows → now ≡ map left rows
left_all rows now row past now_is = now_is ∙ left_past rows row past

pub length-left_to : (row : ℕ) (rows : List Row) → length (left_to row rows) ≡ length rows
length-left_to zero rows = refl
length-left_to (suc row) [] = refl
length-left_to (suc row) (first ∷ rows) = ap suc (length-left_to row rows)

-- ---- an issue is added

-- each of the first issues has its row, the new one has a row for its grant, and nothing of it is counted
pub record IsReady (withdrawn : ℕ → Bool) (bearings first : List BearingView) (b : BearingView) (rows : List Row) (row_of : List ℕ) (row : ℕ) : Type 0 where
  pub rows_are : AreRows (bearings ++ b ∷ []) first rows row_of
  pub is_row : IsRowOf (bearings ++ b ∷ []) rows b.grant row
  pub counted_before : AreCounted withdrawn (bearings ++ b ∷ []) first rows

-- after it was counted, each has its row
module _ (withdrawn : ℕ → Bool) (bearings first : List BearingView) (b : BearingView) (rows : List Row) (row_of : List ℕ) (row : ℕ) (ready : IsReady withdrawn bearings first b rows row_of row) where
  abbrev rows_now : List Row
  rows_now = counted rows row (find withdrawn b.cited)

  row_of_each : (place : ℕ) (c : BearingView) → (slice_get first place ≡ Some c) ⊎ ((place ≡ length first) × (b ≡ c)) → IsRowOf (bearings ++ b ∷ []) rows_now c.grant (get_or (row_of ++ row ∷ []) place 0)
  row_of_each place c (inl old) =
      let below = slice_get_within first place c old in
      let each = ready.rows_are.each in
      let is = row_changed (counted_in (find withdrawn b.cited)) (keeps_counted (find withdrawn b.cited)) (bearings ++ b ∷ []) rows row c.grant (get_or row_of place 0) (ready.rows_are.has place c old) in
      subst (λ (r : ℕ). IsRowOf (bearings ++ b ∷ []) rows_now c.grant r) (sym (number_more row_of row place (omega (arith, below, each)))) is
  row_of_each place c (inr last) =
      let each = ready.rows_are.each in
      let at : place ≡ length row_of = omega (arith, last.0, each) in
      let number : get_or (row_of ++ row ∷ []) place 0 ≡ row = ap (λ (p : ℕ). get_or (row_of ++ row ∷ []) p 0) at ∙ number_last row_of row in
      let is = row_changed (counted_in (find withdrawn b.cited)) (keeps_counted (find withdrawn b.cited)) (bearings ++ b ∷ []) rows row b.grant row ready.is_row in
      subst (λ (r : ℕ). IsRowOf (bearings ++ b ∷ []) rows_now c.grant r) (sym number) (subst (λ (d : BearingView). IsRowOf (bearings ++ b ∷ []) rows_now d.grant row) last.1 is)

  pub AreRows-added : AreRows (bearings ++ b ∷ []) (first ++ b ∷ []) rows_now (row_of ++ row ∷ [])
  AreRows-added =
      let counted_rows = AreRows-changed (counted_in (find withdrawn b.cited)) (keeps_counted (find withdrawn b.cited)) (bearings ++ b ∷ []) rows row first row_of ready.rows_are in
      let each = ready.rows_are.each in
      record {
        each = omega (arith, each, length-append row_of (row ∷ []), length-append first (b ∷ []));
        has = λ place c found. row_of_each place c (get_push first b place c found);
        places = counted_rows.places;
        once = counted_rows.once;
      }

  pub AreCounted-added : AreCounted withdrawn (bearings ++ b ∷ []) (first ++ b ∷ []) rows_now
  AreCounted-added = AreCounted-one withdrawn (bearings ++ b ∷ []) first rows row b ready.rows_are.once ready.counted_before ready.is_row

places_more : (bearings : List BearingView) (b : BearingView) (rows : List Row) → ArePlaces bearings rows → ArePlaces (bearings ++ b ∷ []) rows
places_more bearings b rows places row kept found =
    let below = places row kept found in omega (arith, below, length-append bearings (b ∷ []))

-- the first issues have the rows that they had, and as they stand, among one issue more
pub rows_more : (bearings first : List BearingView) (b : BearingView) (rows : List Row) (row_of : List ℕ) → AreRows bearings first rows row_of → AreRows (bearings ++ b ∷ []) first rows row_of
rows_more bearings first b rows row_of are = record {
  each = are.each;
  has = λ place c found. row_more_bearings bearings (b ∷ []) rows c.grant (get_or row_of place 0) (are.has place c found);
  places = places_more bearings b rows are.places;
  once = λ g one other is_one is_other. are.once g one other (row_earlier bearings b rows g one are.places is_one) (row_earlier bearings b rows g other are.places is_other);
}

pub counted_more : (withdrawn : ℕ → Bool) (bearings first : List BearingView) (b : BearingView) (rows : List Row) → ArePlaces bearings rows → AreCounted withdrawn bearings first rows → AreCounted withdrawn (bearings ++ b ∷ []) first rows
counted_more withdrawn bearings first b rows places all row kept c found at = all row kept c found (earlier_at bearings b kept.place c (places row kept found) at)

-- if the grant has a row
pub ready_found : (withdrawn : ℕ → Bool) (bearings first : List BearingView) (b : BearingView) (rows : List Row) (row_of : List ℕ) (row : ℕ) → AreRows bearings first rows row_of → AreCounted withdrawn bearings first rows → IsRowOf bearings rows b.grant row →
    IsReady withdrawn bearings first b rows row_of row
ready_found withdrawn bearings first b rows row_of row are all is = record {
  rows_are = rows_more bearings first b rows row_of are;
  is_row = row_more_bearings bearings (b ∷ []) rows b.grant row is;
  counted_before = counted_more withdrawn bearings first b rows are.places all;
}

-- a row for the issue in that place, in which nothing is counted
abbrev pub new_row : ℕ → Row
new_row place = record { place = place; standing = Unissued; anew = false }

-- if no issue has the grant, and there is a new row
module _ (withdrawn : ℕ → Bool) (bearings first : List BearingView) (b : BearingView) (rows : List Row) (row_of : List ℕ) (are : AreRows bearings first rows row_of) (none : IsUnissued bearings b.grant) where
  abbrev with_new : List Row
  with_new = rows ++ new_row (length bearings) ∷ []

  last_grant : IsGrantAt (bearings ++ b ∷ []) (length bearings) b.grant
  last_grant = record { bearing = b; at = get_last bearings b; grant_is = refl }

  -- a row of a grant is an old one, or the new one
  abbrev IsOldOrNew : GrantView → ℕ → Type 0
  IsOldOrNew g row = IsRowOf bearings rows g row ⊎ ((row ≡ length rows) × (b.grant ≡ g))

  old_or_new_by : (g : GrantView) (row : ℕ) (is : IsRowOf (bearings ++ b ∷ []) with_new g row) → (slice_get rows row ≡ Some is.kept) ⊎ ((row ≡ length rows) × (new_row (length bearings) ≡ is.kept)) → IsOldOrNew g row
  old_or_new_by g row is (inl old) = inl (record { kept = is.kept; at = old; grant_at = grant_earlier bearings b is.kept.place g (are.places row is.kept old) is.grant_at })
  old_or_new_by g row is (inr last) =
      let at : IsGrantAt (bearings ++ b ∷ []) (length bearings) g = subst (λ (r : Row). IsGrantAt (bearings ++ b ∷ []) r.place g) (sym last.1) is.grant_at in
      inr (last.0, same_at (bearings ++ b ∷ []) (length bearings) g b at (get_last bearings b))

  old_or_new : (g : GrantView) (row : ℕ) → IsRowOf (bearings ++ b ∷ []) with_new g row → IsOldOrNew g row
  old_or_new g row is = old_or_new_by g row is (get_push rows (new_row (length bearings)) row is.kept is.at)

  not_both : (g : GrantView) (row : ℕ) → IsRowOf bearings rows g row → b.grant ≡ g → ⊥
  not_both g row is same =
      let at = subst (λ (w : GrantView). IsGrantAt bearings is.kept.place w) (sym same) is.grant_at in none is.kept.place at

  once_by : (g : GrantView) (one other : ℕ) → IsOldOrNew g one → IsOldOrNew g other → one ≡ other
  once_by g one other (inl is) (inl is_too) = are.once g one other is is_too
  once_by g one other (inl is) (inr last) = absurd (not_both g one is last.1)
  once_by g one other (inr last) (inl is) = absurd (not_both g other is last.1)
  once_by g one other (inr last) (inr last_too) = last.0 ∙ sym last_too.0

  places_by : (row : ℕ) (kept : Row) → (slice_get rows row ≡ Some kept) ⊎ ((row ≡ length rows) × (new_row (length bearings) ≡ kept)) → kept.place < length (bearings ++ b ∷ [])
  places_by row kept (inl old) = places_more bearings b rows are.places row kept old
  places_by row kept (inr last) =
      let place : length bearings ≡ kept.place = ap (λ (r : Row). r.place) last.1 in omega (arith, place, length-append bearings (b ∷ []))

  counted_by : IsUnissued first b.grant → AreCounted withdrawn bearings first rows → (row : ℕ) (kept : Row) (c : BearingView) → (slice_get rows row ≡ Some kept) ⊎ ((row ≡ length rows) × (new_row (length bearings) ≡ kept))
      → slice_get (bearings ++ b ∷ []) kept.place ≡ Some c → kept.standing ≡ standing_of withdrawn c.grant first
  counted_by none_first all row kept c (inl old) found = counted_more withdrawn bearings first b rows are.places all row kept c old found
  counted_by none_first all row kept c (inr last) found =
      let at : slice_get (bearings ++ b ∷ []) (length bearings) ≡ Some c = subst (λ (r : Row). slice_get (bearings ++ b ∷ []) r.place ≡ Some c) (sym last.1) found in
      let same : b ≡ c = one_item (bearings ++ b ∷ []) (length bearings) b c (get_last bearings b) at in
      ap (λ (r : Row). r.standing) (sym last.1)
      ∙ (sym (standing-unissued withdrawn b.grant first none_first)
      ∙ ap (λ (d : BearingView). standing_of withdrawn d.grant first) same)

  pub ready_added : IsUnissued first b.grant → AreCounted withdrawn bearings first rows → IsReady withdrawn bearings first b with_new row_of (length rows)
  ready_added none_first all = record {
    rows_are = record {
      each = are.each;
      has = λ place c found. row_more_bearings bearings (b ∷ []) with_new c.grant (get_or row_of place 0) (row_more_rows bearings rows (new_row (length bearings) ∷ []) c.grant (get_or row_of place 0) (are.has place c found));
      places = λ row kept found. places_by row kept (get_push rows (new_row (length bearings)) row kept found);
      once = λ g one other is is_too. once_by g one other (old_or_new g one is) (old_or_new g other is_too);
    };
    is_row = record { kept = new_row (length bearings); at = get_last rows (new_row (length bearings)); grant_at = last_grant };
    counted_before = λ row kept c found at. counted_by none_first all row kept c (get_push rows (new_row (length bearings)) row kept found) at;
  }
