-- What is read of issues and rows, over plain values.
use Rattle.std.proofs.Common.{◌≡◌, inl, inr, ◌<◌, ◌≤◌, ◌+◌, ℕ, List, [], ◌∷◌, ◌++◌, length, get_or, map, take, Bool, true, false, Some, refl, sym, ap, subst, ◌∙◌, arith, length-append}
use Rattle.std.specs.Prelude.{◌↔◌, IsTrue}
use Rattle.std.specs.List.{slice_get}
use Rattle.std.specs.Option.{option_map}
use Rattle.std.proofs.lemmas.Bool.{cases_lt}
use Rattle.std.proofs.lemmas.List.{get_or_default, length-map, length-take-le, map-append, take-map, take_all, take_more}
use Rattle.std.proofs.lemmas.Option.{slice_get-map, slice_get_read, slice_get_within}
use Rattle.bl_syntax.specs.Grant.{GrantView}
use Rattle.issue_standings.specs.declared.standings.Row.{Row}
use Rattle.issue_standings.specs.Bearing.{BearingView, IsGrantAt, is_plain, plain}
use Rattle.issue_standings.specs.Rows.{ArePlaces, AreWithin, IsRowOf, IsRowless, changed, each_changed}
use Rattle.issue_standings.proofs.PlainLemmas.{plain-named, plain-push, plain_fewer}
use Rattle.issue_standings.proofs.RowLemmas.{each-push, length-each, new_row, same_at}

-- an item that was read is the one at its place
pub read_at : {A : Type 0} (xs : List A) (place : ℕ) (x : A) → place < length xs → x ≡ get_or xs place x → slice_get xs place ≡ Some x
read_at xs place x within is = slice_get_read xs (length xs) place x refl within is

one_row : (rows : List Row) (row : ℕ) (x y : Row) → slice_get rows row ≡ Some x → slice_get rows row ≡ Some y → x ≡ y
one_row rows row x y one other = let both : Some x ≡ Some y = sym one ∙ other in cc

module _ {B : Type 0} (bearing : B → BearingView) (issues : List B) where
  abbrev bearings_of : List BearingView
  bearings_of = map bearing issues

  -- what an issue that was read rests on
  pub bearing_at : (place : ℕ) (issue : B) → place < length issues → issue ≡ get_or issues place issue → slice_get bearings_of place ≡ Some (bearing issue)
  bearing_at place issue within is = slice_get-map bearing issues place ∙ ap (option_map bearing) (read_at issues place issue within is)

  -- an issue that was read has the grant, or not
  pub grant_at_told : (place : ℕ) (issue : B) (shown g : GrantView) (told : Bool) → place < length issues → issue ≡ get_or issues place issue → shown ≡ (bearing issue).grant → IsTrue told ↔ (shown ≡ g) → IsTrue told ↔ IsGrantAt bearings_of place g
  grant_at_told place issue shown g told within is shown_is decides =
      let at = bearing_at place issue within is in (
        λ yes. record { bearing = bearing issue; at = at; grant_is = sym shown_is ∙ decides.0 yes },
        λ has. decides.1 (shown_is ∙ same_at bearings_of place g (bearing issue) has at),
      )

  -- the place of a row is one of an issue
  pub place_within : (rows : List Row) (row : ℕ) (kept : Row) → ArePlaces bearings_of rows → row < length rows → kept ≡ get_or rows row kept → kept.place < length issues
  place_within rows row kept places within is =
      let below = places row kept (read_at rows row kept within is) in omega (arith, below, length-map issues bearing)

  -- one issue more
  pub bearings_more : (place : ℕ) (issue : B) → place < length issues → issue ≡ get_or issues place issue → map bearing (take (place + 1) issues) ≡ map bearing (take place issues) ++ bearing issue ∷ []
  bearings_more place issue within is =
      ap (map bearing) (take_more issues place issue within ∙ ap (λ (x : B). take place issues ++ x ∷ []) (sym is))
      ∙ map-append bearing (take place issues) (issue ∷ [])

  take_map : (place : ℕ) → take place bearings_of ≡ map bearing (take place issues)
  take_map place = take-map bearing place issues

-- ---- the search over rows

-- the row in a place, as the search reads it
abbrev pub kept_at : List Row → ℕ → Row
kept_at rows row = get_or rows row (new_row 0)

pub kept_is : (rows : List Row) (row : ℕ) → row < length rows → kept_at rows row ≡ get_or rows row (kept_at rows row)
kept_is rows row within = get_or_default rows row (new_row 0) (kept_at rows row) within

-- a row that was read is one of the grant, if its issue has it
pub row_found : (bearings : List BearingView) (rows : List Row) (g : GrantView) (row : ℕ) (kept : Row) → row < length rows → kept ≡ get_or rows row kept → IsGrantAt bearings kept.place g → IsRowOf bearings rows g row
row_found bearings rows g row kept within is at = record { kept = kept; at = read_at rows row kept within is; grant_at = at }

-- no row before this one is one of the grant
abbrev pub NoneBefore : List BearingView → List Row → GrantView → ℕ → Type 0
NoneBefore bearings rows g row = (earlier : ℕ) → earlier < row → IsRowOf bearings rows g earlier → ⊥

grant_here : (bearings : List BearingView) (rows : List Row) (g : GrantView) (row : ℕ) (kept : Row) (earlier : ℕ) → row < length rows → kept ≡ get_or rows row kept → IsRowOf bearings rows g earlier → earlier ≡ row → IsGrantAt bearings kept.place g
grant_here bearings rows g row kept earlier within is is_row same =
    let at : slice_get rows row ≡ Some is_row.kept = subst (λ (r : ℕ). slice_get rows r ≡ Some is_row.kept) same is_row.at in
    let one : is_row.kept ≡ kept = one_row rows row is_row.kept kept at (read_at rows row kept within is) in
    subst (λ (r : Row). IsGrantAt bearings r.place g) one is_row.grant_at

-- nor is this one
pub none_before_more : (bearings : List BearingView) (rows : List Row) (g : GrantView) (row : ℕ) (kept : Row) → row < length rows → kept ≡ get_or rows row kept → NoneBefore bearings rows g row → (IsGrantAt bearings kept.place g → ⊥) → NoneBefore bearings rows g (row + 1)
none_before_more bearings rows g row kept within is none other earlier below is_row =
    elim (cases_lt earlier row) [
      | inl before ↦ none earlier before is_row
      | inr not ↦ other (grant_here bearings rows g row kept earlier within is is_row (omega (arith, below, not)))
    ]

-- so none is
pub none_at_all : (bearings : List BearingView) (rows : List Row) (g : GrantView) (row : ℕ) → length rows ≤ row → NoneBefore bearings rows g row → IsRowless bearings rows g
none_at_all bearings rows g row all none other is_row =
    let within = slice_get_within rows other is_row.kept is_row.at in none other (omega (arith, within, all)) is_row

-- ---- the loops over plain issues

module _ {B : Type 0} (bearing : B → BearingView) (issues : List B) where
  -- the plain ones of the first issues
  abbrev pub plain_to : ℕ → List BearingView
  plain_to place = plain (map bearing (take place issues))

  plain_to-push : (place : ℕ) (issue : B) → place < length issues → issue ≡ get_or issues place issue → is_plain (bearing issue) ≡ true → plain_to (place + 1) ≡ plain_to place ++ bearing issue ∷ []
  plain_to-push place issue within is is_so = ap plain (bearings_more bearing issues place issue within is) ∙ plain-push (map bearing (take place issues)) (bearing issue) is_so

  -- an issue more that is not plain
  pub plain_to-named : (place : ℕ) (issue : B) → place < length issues → issue ≡ get_or issues place issue → is_plain (bearing issue) ≡ false → plain_to (place + 1) ≡ plain_to place
  plain_to-named place issue within is is_not = ap plain (bearings_more bearing issues place issue within is) ∙ plain-named (map bearing (take place issues)) (bearing issue) is_not

  -- one that is
  pub count_more : (place : ℕ) (issue : B) → place < length issues → issue ≡ get_or issues place issue → is_plain (bearing issue) ≡ true → length (plain_to (place + 1)) ≡ length (plain_to place) + 1
  count_more place issue within is is_so = ap length (plain_to-push place issue within is is_so) ∙ length-append (plain_to place) (bearing issue ∷ [])

  -- is one of all that are
  pub count_within : (place : ℕ) (issue : B) → place < length issues → issue ≡ get_or issues place issue → is_plain (bearing issue) ≡ true → length (plain_to place) < length (plain (map bearing issues))
  count_within place issue within is is_so =
      let fewer = subst (λ (bs : List BearingView). length (plain bs) ≤ length (plain (map bearing issues))) (take_map bearing issues (place + 1)) (plain_fewer (place + 1) (map bearing issues)) in
      omega (arith, fewer, count_more place issue within is is_so)

module _ {B : Type 0} (bearing : B → BearingView) (change : BearingView → Row → Row) (row_of : List ℕ) (issues : List B) (rows : List Row) where
  -- the rows after these plain issues changed theirs
  abbrev rows_by : List BearingView → List Row
  rows_by first = each_changed change (take (length first) row_of) first rows

  -- after the first issues
  abbrev pub rows_after : ℕ → List Row
  rows_after place = rows_by (plain_to bearing issues place)

  rows_push : (first : List BearingView) (b : BearingView) → length first < length row_of → rows_by (first ++ b ∷ []) ≡ changed (change b) (rows_by first) (get_or row_of (length first) 0)
  rows_push first b below =
      ap (λ (ns : List ℕ). each_changed change ns (first ++ b ∷ []) rows) (ap (λ (n : ℕ). take n row_of) (length-append first (b ∷ [])) ∙ take_more row_of (length first) 0 below)
      ∙ each-push change first (take (length first) row_of) rows b (get_or row_of (length first) 0) (length-take-le (length first) row_of (omega (arith, below)))

  -- after one more, which is plain
  pub rows_next : (place count : ℕ) (issue : B) (now next : List Row) → length row_of ≡ length (plain (map bearing issues)) → place < length issues → issue ≡ get_or issues place issue → is_plain (bearing issue) ≡ true
      → count ≡ length (plain_to bearing issues place) → now ≡ rows_after place → next ≡ changed (change (bearing issue)) now (get_or row_of count 0) → next ≡ rows_after (place + 1)
  rows_next place count issue now next each within is is_so count_is now_is next_is =
      let first = plain_to bearing issues place in
      let below = count_within bearing issues place issue within is is_so in
      next_is
      ∙ (ap (λ (n : ℕ). changed (change (bearing issue)) now (get_or row_of n 0)) count_is
      ∙ (ap (λ (rs : List Row). changed (change (bearing issue)) rs (get_or row_of (length first) 0)) now_is
      ∙ (sym (rows_push first (bearing issue) (omega (arith, below, each)))
      ∙ ap rows_by (sym (plain_to-push bearing issues place issue within is is_so)))))

  -- after one more, which is not
  pub rows_passed : (place : ℕ) (issue : B) (now : List Row) → place < length issues → issue ≡ get_or issues place issue → is_plain (bearing issue) ≡ false → now ≡ rows_after place → now ≡ rows_after (place + 1)
  rows_passed place issue now within is is_not now_is = now_is ∙ ap rows_by (sym (plain_to-named bearing issues place issue within is is_not))

  -- and after all of them
  pub rows_all : (place : ℕ) (now : List Row) → length row_of ≡ length (plain (map bearing issues)) → length issues ≤ place → now ≡ rows_after place → now ≡ each_changed change row_of (plain (map bearing issues)) rows
  rows_all place now each all now_is =
      now_is
      ∙ (ap (λ (xs : List B). rows_by (plain (map bearing xs))) (take_all place issues all)
      ∙ ap (λ (ns : List ℕ). each_changed change ns (plain (map bearing issues)) rows) (take_all (length (plain (map bearing issues))) row_of (omega (arith, each))))

  -- a row of an issue is one of the rows that are there
  pub row_within : (place count : ℕ) (now : List Row) → AreWithin row_of rows → count < length row_of → now ≡ rows_after place → get_or row_of count 0 < length now
  row_within place count now within below now_is =
      let first = plain_to bearing issues place in
      let at = within count below in
      let same = ap length now_is ∙ length-each change first (take (length first) row_of) rows in
      omega (arith, at, same)
