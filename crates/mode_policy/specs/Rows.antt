-- How a table is kept: names by their places (this project's own).
use Rattle.std.specs.Prelude.{◌≡◌, ◌<◌, ◌++◌, ℕ, List, [], map, length, Result, Ok, Err}
use Rattle.std.specs.List.{All, slice_index_or}
use Rattle.bl_syntax.specs.declared.lists.NoMemory.{NoMemory}
use Rattle.mode_policy.specs.declared.files.FileRow.{FileRow}
use Rattle.mode_policy.specs.Places.{IsPlaceOf}
use Rattle.mode_policy.specs.declared.entry.Membership.{Membership}
use Rattle.mode_policy.specs.declared.entry.FileModes.{FileModes}
use Rattle.mode_policy.specs.Table.{TableView}

abbrev pub number_of : FileRow → ℕ
number_of row = row.number

-- the name at the place
abbrev pub name_at : List (List ℕ) → ℕ → List ℕ
name_at names place = slice_index_or names place []

abbrev pub member_at : List (List ℕ) → List (List ℕ) → ℕ × ℕ → Membership
member_at who groups m = record { who = name_at who m.0; group = name_at groups m.1 }

abbrev pub file_at : List (List ℕ) → List (List ℕ) → FileRow → FileModes
file_at who groups row = record { node = record { 0 = row.number }; owner = name_at who row.owner; group = name_at groups row.group; modes = row.modes }

-- the table that these stand for
abbrev pub table_view : List (List ℕ) → List (List ℕ) → List (ℕ × ℕ) → List FileRow → TableView
table_view who groups members files = record { who = who; members = map (member_at who groups) members; files = map (file_at who groups) files }

-- all places are those of names
pub record AreInRange (who groups : List (List ℕ)) (members : List (ℕ × ℕ)) (files : List FileRow) : Type 0 where
  pub members_in_range : All (λ (m : ℕ × ℕ). (m.0 < length who) × (m.1 < length groups)) members
  pub files_in_range : All (λ (row : FileRow). (row.owner < length who) × (row.group < length groups)) files

-- the names grow: those that were there stay where they were
abbrev pub Extends : List (List ℕ) → List (List ℕ) → Type 0
Extends old new = (more : List (List ℕ)) × (new ≡ old ++ more)

-- the place of the name is given, which is then there
abbrev pub GivesPlace : List (List ℕ) → List ℕ → Result ℕ NoMemory → List (List ℕ) → Type 0
GivesPlace old name (Ok place) new = Extends old new × IsPlaceOf new name place
GivesPlace old name (Err refused) new = new ≡ old
