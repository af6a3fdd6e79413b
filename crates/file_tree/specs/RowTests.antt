-- When rows are those of a tree, test by test (this project's own).
use Rattle.std.specs.Prelude.{◌≡◌, ℕ, zero, suc, List, [], ◌∷◌, length, Bool, true, false, not, is_none, nat_lt, nat_le, ◌&&◌, ◌||◌, ◌==◌, if◌then◌else◌, Result, Ok, Err}
use Rattle.std.specs.List.{list_all, AllByRecursion, IsDistinct}
use Rattle.std.specs.Map.{keys_of}
use Rattle.file_world.specs.FileNames.{is_node_name}
use Rattle.file_world.specs.Limits.{root_number, most_nodes, most_bytes}
use Rattle.file_world.specs.Tree.{Place, Node, Nodes, node_at, number_at, is_place, places_of}
use Rattle.file_world.specs.TreeEffect.{at, is_directory_kind, is_directory, has_way_on}
use Rattle.node_rows.specs.declared.rows.RowsFault.{RowsFault}
use Rattle.node_rows.specs.declared.rows.RowsFault.TheVariants.{NotTree, NoMemory}
use Rattle.file_tree.specs.Index.{Entries, rows_of, reserved_at}

-- what holds if rows are refused as those of no tree
abbrev pub IfNotTree : {Made : Type 0} → Result Made RowsFault → Type 0 → Type 0
IfNotTree (Ok made) holds = Unit {0}
IfNotTree (Err NotTree) holds = holds
IfNotTree (Err NoMemory) holds = Unit {0}

-- ---- rows by themselves

-- whether the row is that of the root
abbrev pub is_root_row : ℕ × Node → Bool
is_root_row row =
    (row.0 == root_number) && is_directory_kind row.1.kind && (row.1.place.directory == 0) && (length row.1.place.name == 0) && (length row.1.contents == 0)

-- whether the row of another node is sound, whatever the other rows are
abbrev pub is_sound_row : ℕ → ℕ × Node → Bool
is_sound_row next row =
    nat_lt row.0 next && is_node_name row.1.place.name && (not (is_directory_kind row.1.kind)
    || (length row.1.contents == 0)) && nat_le (length row.1.contents) most_bytes

-- whether the numbers rise from above a number
abbrev pub is_rising_after : ℕ → Nodes → Bool
is_rising_after last [] = true
is_rising_after last (row ∷ rows) = nat_lt last row.0 && is_rising_after row.0 rows

-- whether the rows after the root's are few, their numbers rise, and each is sound
abbrev pub are_sound_others : ℕ → Nodes → Bool
are_sound_others next others = nat_lt (length others) most_nodes && is_rising_after root_number others && list_all (is_sound_row next) others

-- whether the first row is the root's, and the others are sound
abbrev pub are_sound_rows : ℕ → Nodes → Bool
are_sound_rows next [] = false
are_sound_rows next (first ∷ others) = is_root_row first && nat_lt root_number next && are_sound_others next others

-- ---- nodes and their names

-- the nodes show these rows, and no directory keeps a name
pub record ShowsRows (entries : Entries) (rows : Nodes) : Type 0 where
  pub rows_shown : rows_of entries ≡ rows
  pub no_names : AllByRecursion (λ entry. entry.1.names.entries ≡ []) entries

-- each row's directory is one among all nodes, and no two rows are at one place
pub record AreNamed (all rows : Nodes) : Type 0 where
  pub in_directories : AllByRecursion (λ row. is_directory (node_at all row.1.place.directory) ≡ true) rows
  pub places_differ : IsDistinct is_place (keys_of (places_of rows))

-- the nodes show all rows, and the directories keep the names of these rows, which have places of
-- their own
pub record NamesRows (entries : Entries) (all rows : Nodes) : Type 0 where
  pub same_rows : rows_of entries ≡ all
  pub named : (directory : ℕ) (name : List ℕ) →
      reserved_at entries directory name ≡ number_at rows (at directory name)
  pub are_named : AreNamed all rows

-- whether the place is in a directory that keeps no such name
abbrev pub is_free_place : Entries → Place → Bool
is_free_place entries place = is_directory (node_at (rows_of entries) place.directory) && is_none (reserved_at entries place.directory place.name)

-- ---- ways to the root

-- whether following directories from the number, with so many steps, leads to a number below the
-- bound
abbrev pub leads_below : ℕ → Nodes → ℕ → ℕ → Bool
leads_below zero rows bound number = false
leads_below (suc steps) rows bound number =
    if nat_lt number bound then true else has_way_on (node_at rows number) (leads_below steps rows bound)

-- whether the way from each row's directory leads to a number below the row's own
abbrev pub do_lead : Nodes → Nodes → Bool
do_lead all rows = list_all (λ row. leads_below (length all) all row.0 row.1.place.directory) rows
