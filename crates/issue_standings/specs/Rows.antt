-- The rows of the index, one for each grant that was issued. This project's own; nothing but speed
-- depends on it.
use Rattle.std.specs.Prelude.{◌≡◌, ◌<◌, ℕ, zero, suc, List, [], ◌∷◌, length, get_or, map, Bool, true, false, if◌then◌else◌, Option, Some, MatchOption, find}
use Rattle.std.specs.List.{slice_get}
use Rattle.bl_syntax.specs.Grant.{GrantView}
use Rattle.issue_standings.specs.declared.standing.GrantStanding.TheVariants.{Unissued}
use Rattle.issue_standings.specs.declared.standings.Row.{Row}
use Rattle.issue_standings.specs.Bearing.{BearingView, IsGrantAt, cites}
use Rattle.issue_standings.specs.GrantStanding.{after, standing_of}

-- the place of each row is one of an issue
abbrev pub ArePlaces : List BearingView → List Row → Type 0
ArePlaces bearings rows = (row : ℕ) (kept : Row) → slice_get rows row ≡ Some kept →
    kept.place < length bearings

-- it is a row of the grant: the issue in its place has the grant
pub record IsRowOf (bearings : List BearingView) (rows : List Row) (g : GrantView) (row : ℕ) : Type 0 where
  pub kept : Row
  pub at : slice_get rows row ≡ Some kept
  pub grant_at : IsGrantAt bearings kept.place g

-- the grant has no row
abbrev pub IsRowless : List BearingView → List Row → GrantView → Type 0
IsRowless bearings rows g = (row : ℕ) → IsRowOf bearings rows g row → ⊥

-- a row of the grant, or it has none
abbrev pub TellsRow : List BearingView → List Row → GrantView → Option ℕ → Type 0
TellsRow bearings rows g told = MatchOption told (IsRowless bearings rows g) (IsRowOf bearings rows g)

-- a grant has at most one row
abbrev pub IsOnce : List BearingView → List Row → Type 0
IsOnce bearings rows = (g : GrantView) (row other : ℕ) → IsRowOf bearings rows g row →
    IsRowOf bearings rows g other → row ≡ other

-- each of the first issues has a row, which is its grant's, and each grant has one
pub record AreRows (bearings first : List BearingView) (rows : List Row) (row_of : List ℕ) : Type 0 where
  pub each : length row_of ≡ length first
  pub has : (place : ℕ) (b : BearingView) → slice_get first place ≡ Some b →
      IsRowOf bearings rows b.grant (get_or row_of place 0)
  pub places : ArePlaces bearings rows
  pub once : IsOnce bearings rows

-- each row has how its grant stands by the first issues
abbrev pub AreCounted : (ℕ → Bool) → List BearingView → List BearingView → List Row → Type 0
AreCounted withdrawn bearings first rows = (row : ℕ) (kept : Row) (b : BearingView) →
    slice_get rows row ≡ Some kept → slice_get bearings kept.place ≡ Some b →
    kept.standing ≡ standing_of withdrawn b.grant first

-- ---- what is written

-- the rows with one of them changed
abbrev pub changed : (Row → Row) → List Row → ℕ → List Row
changed change [] row = []
changed change (kept ∷ rows) zero = change kept ∷ rows
changed change (kept ∷ rows) (suc row) = kept ∷ changed change rows row

-- the rows after each of these issues changed its own
abbrev pub each_changed : (BearingView → Row → Row) → List ℕ → List BearingView → List Row →
    List Row
each_changed change (row ∷ row_of) (b ∷ bearings) rows = each_changed change row_of bearings (changed (change b) rows row)
each_changed change row_of bearings rows = rows

-- the row with one more issue counted, of whose statements this is the first that was withdrawn
abbrev pub counted_in : Option ℕ → Row → Row
counted_in withdrawn kept = record { place = kept.place; standing = after kept.standing withdrawn; anew = kept.anew }

abbrev pub counted : List Row → ℕ → Option ℕ → List Row
counted rows row withdrawn = changed (counted_in withdrawn) rows row

-- the row as it stands, which is not to be counted anew
abbrev pub left : Row → Row
left kept = record { place = kept.place; standing = kept.standing; anew = false }

-- the rows with the first of them left
abbrev pub left_to : ℕ → List Row → List Row
left_to zero rows = rows
left_to (suc row) [] = []
left_to (suc row) (kept ∷ rows) = left kept ∷ left_to row rows

-- the row with nothing counted, which is to be counted anew
abbrev pub begun : Row → Row
begun kept = record { place = kept.place; standing = Unissued; anew = true }

-- the row of an issue, which is to be counted anew if the issue cites the number
abbrev pub begun_by : ℕ → BearingView → Row → Row
begun_by number b kept = if cites number b then begun kept else kept

-- with the issue counted, if it is to be counted anew
abbrev pub counted_anew : (ℕ → Bool) → BearingView → Row → Row
counted_anew withdrawn b kept = if kept.anew then counted_in (find withdrawn b.cited) kept else kept

-- the rows after each of these issues that cites the number began its own
abbrev pub all_begun : ℕ → List ℕ → List BearingView → List Row → List Row
all_begun number row_of bearings rows = each_changed (begun_by number) row_of bearings rows

-- after each was counted whose row is to be counted anew
abbrev pub all_counted : (ℕ → Bool) → List ℕ → List BearingView → List Row → List Row
all_counted withdrawn row_of bearings rows = each_changed (counted_anew withdrawn) row_of bearings rows

-- after those were counted anew of which an issue cites the number, and no others
abbrev pub recounted : (ℕ → Bool) → ℕ → List ℕ → List BearingView → List Row → List Row
recounted withdrawn number row_of bearings rows = all_counted withdrawn row_of bearings (all_begun number row_of bearings (map left rows))

-- each of these is a row
abbrev pub AreWithin : List ℕ → List Row → Type 0
AreWithin row_of rows = (place : ℕ) → place < length row_of → get_or row_of place 0 < length rows
