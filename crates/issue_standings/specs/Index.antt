-- The index of standings, which finds the row of a grant by the front of its tag; only grants that
-- name no statements have one.
-- This project's own; nothing but speed depends on it.
use Rattle.std.specs.Prelude.{◌≡◌, ◌<◌, ◌==◌, ℕ, List, [], ◌∷◌, ◌++◌, length, take, min, Bool, false, cond, Option, Some, IsSome, MatchOption, nat_eq}
use Rattle.std.specs.Int.{w64, from_be_bytes}
use Rattle.std.specs.List.{slice_get}
use Rattle.std.specs.HashMap.{get, spare}
use Rattle.bl_syntax.specs.Grant.{GrantView}
use Rattle.policy_statement.specs.Registered.{RegisteredView, spare_of}
use Rattle.policy_statement.specs.Withdrawal.{is_withdrawn}
use Rattle.procap.specs.Genuine.{IsGenuine, seal_of}
use Rattle.procap.specs.declared.procap.Procap.{Procap}
use Rattle.issue_standings.specs.declared.standing.GrantStanding.TheVariants.{Unissued}
use Rattle.issue_standings.specs.declared.standings.Row.{Row}
use Rattle.issue_standings.specs.declared.standings.Standings.{Standings}
use Rattle.issue_standings.specs.Bearing.{BearingView, IsUnissued, plain}
use Rattle.issue_standings.specs.Rows.{AreCounted, AreRows, IsRowOf}

-- the front of a tag: the number of its first eight bytes
abbrev pub front_of : List ℕ → ℕ
front_of tag = from_be_bytes w64 (take 8 tag)

abbrev pub rows_of : Standings → List Row
rows_of index = index.rows.items

-- the row that the index has for the front of a tag
abbrev pub row_at : Standings → ℕ → Option ℕ
row_at index front = get nat_eq index.fronts front

-- for how many issues there is room
abbrev pub room_of : Standings → ℕ
room_of index = min (spare_of index.rows) (min (spare_of index.row_of) (spare index.fronts))

-- the front of each plain issue's tag under the key is known, and what it leads to is a row
pub record AreFronts (key : List ℕ) (bearings : List BearingView) (index : Standings) : Type 0 where
  pub known : (place : ℕ) (b : BearingView) → slice_get (plain bearings) place ≡ Some b
      → IsSome (row_at index (front_of (seal_of key b.grant)))
  pub within : (front row : ℕ) → row_at index front ≡ Some row → row < length (rows_of index)

-- each plain issue has its row
abbrev pub HasRows : List BearingView → Standings → Type 0
HasRows bearings index = AreRows bearings (plain bearings) (rows_of index) index.row_of.items

-- the index of these issues over these statements: each plain one has its row, in which all plain
-- ones are counted, and the front of
-- its tag under the key is known
pub record IsIndexOf (key : List ℕ) (entries : List RegisteredView) (bearings : List BearingView) (index : Standings) : Type 0 where
  pub rows : HasRows bearings index
  pub counted : AreCounted (is_withdrawn entries) bearings (plain bearings) (rows_of index)
  pub fronts : AreFronts key bearings index

-- the index has what the other has
pub record IsSameIndex (index other : Standings) : Type 0 where
  pub rows : rows_of other ≡ rows_of index
  pub row_of : other.row_of.items ≡ index.row_of.items
  pub fronts : (front : ℕ) → row_at other front ≡ row_at index front

-- both tell the same of each number but this one
abbrev pub AreSameBut : ℕ → (ℕ → Bool) → (ℕ → Bool) → Type 0
AreSameBut number one other = (n : ℕ) → (n ≡ number → ⊥) → one n ≡ other n

-- the index has the same issues, which are counted again over these statements, before which none
-- but the one of the number was
-- withdrawn otherwise
abbrev pub IsRecounted : ℕ → List RegisteredView → List BearingView → Standings → Standings → Type 0
IsRecounted number entries bearings index other =
    (key : List ℕ) (before : List RegisteredView)
    → AreSameBut number (is_withdrawn before) (is_withdrawn entries)
    → IsIndexOf key before bearings index → IsIndexOf key entries bearings other

-- the index has the issues that were sealed under some key, and the procap is one under that key,
-- whose grant names no statements
pub record Knows (entries : List RegisteredView) (bearings : List BearingView) (index : Standings) (p : Procap) : Type 0 where
  pub key : List ℕ
  pub indexed : IsIndexOf key entries bearings index
  pub genuine : IsGenuine key p
  pub unnamed : p.grant.cited ≡ []

-- each plain issue has its row, and this is the front of the grant's tag under the key under which
-- the fronts are known
pub record Finds (bearings : List BearingView) (index : Standings) (front : ℕ) (g : GrantView) : Type 0 where
  pub key : List ℕ
  pub rows : HasRows bearings index
  pub fronts : AreFronts key bearings index
  pub front_is : front ≡ front_of (seal_of key g)

-- a row of the grant, or no plain issue has it
abbrev pub TellsIssued : List BearingView → Standings → GrantView → Option ℕ → Type 0
TellsIssued bearings index g told = MatchOption told (IsUnissued (plain bearings) g) (IsRowOf bearings (rows_of index) g)

-- there is one more row, for the issue in that place, in which nothing is counted; the front leads
-- to it
pub record HasNewRow (index other : Standings) (place front : ℕ) : Type 0 where
  pub rows : rows_of other ≡ rows_of index ++ record { place = place; standing = Unissued; anew = false } ∷ []
  pub row_of : other.row_of ≡ index.row_of
  pub fronts : (sought : ℕ) → row_at other sought ≡ cond (front == sought) (Some (length (rows_of index))) (row_at index sought)

-- the row of the grant, whose front is known; or a new one, if no plain issue has the grant
pub data GivesRow (bearings : List BearingView) (g : GrantView) (front : ℕ) (index other : Standings) : ℕ → Type 0 where
  kept_row : (row : ℕ) → IsRowOf bearings (rows_of index) g row → IsSome (row_at index front)
      → other ≡ index → GivesRow bearings g front index other row
  added_row : (row : ℕ) → IsUnissued (plain bearings) g
      → HasNewRow index other (length bearings) front → row ≡ length (rows_of index)
      → GivesRow bearings g front index other row
