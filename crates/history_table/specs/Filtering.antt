-- Which rows a filter lets through (this project's own).
use Rattle.std.specs.Prelude.{ℕ, ℤ, List, Option, Some, None, Bool, true, false, ◌&&◌, ◌||◌, ◌==◌, int_le}
use Rattle.std.specs.List.{list_any}
use Rattle.std.specs.Str.{bytes_eq}
use Rattle.bl_syntax.specs.declared.terms.NodeId.{NodeId}
use Rattle.history_table.specs.declared.filter.Filter.{Filter}
use Rattle.history_table.specs.declared.rows.Row.{Row}
use Rattle.history_table.specs.declared.rows.Use.{Use}

-- a procap was brought for the file
abbrev pub is_used : List Use → ℕ → Bool
is_used uses file = list_any (λ (one : Use). one.file.0 == file) uses

-- the event makes the file, or allows something on it
abbrev pub is_about : Option NodeId → ℕ → Bool
is_about None file = false
is_about (Some about) file = about.0 == file

abbrev pub has_file : Row → ℕ → Bool
has_file row file = is_used row.uses file || is_about row.about file

abbrev pub is_name : Option (List ℕ) → List ℕ → Bool
is_name None who = false
is_name (Some its) who = bytes_eq its who

-- ---- what is none lets all through

abbrev pub by_file : Option NodeId → Row → Bool
by_file None row = true
by_file (Some file) row = has_file row file.0

abbrev pub by_who : Option (List ℕ) → Option (List ℕ) → Bool
by_who None its = true
by_who (Some who) its = is_name its who

abbrev pub by_first : Option ℤ → ℤ → Bool
by_first None second = true
by_first (Some first) second = int_le first second

abbrev pub by_last : Option ℤ → ℤ → Bool
by_last None second = true
by_last (Some last) second = int_le second last

-- whether a row of that principal and second may be asked for: the principal is the one asked for,
-- and the second is within the bounds
abbrev pub may_admit : Filter → Option (List ℕ) → ℤ → Bool
may_admit filter its second = by_who filter.who its && (by_first filter.from second && by_last filter.to second)

-- and it is of the file
abbrev pub admits : Filter → Row → Bool
admits filter row = by_file filter.file row && may_admit filter row.who row.second
