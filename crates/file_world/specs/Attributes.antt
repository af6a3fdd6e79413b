-- What policy can speak of beside names and contents: owners, directories and attributes, as plain
-- data (this project's own).
use Rattle.std.specs.Prelude.{◌≡◌, ◌≤◌, ℕ, List, length, IsTrue, nat_eq, Option, Some}
use Rattle.std.specs.List.{AllByRecursion}
use Rattle.std.specs.List.Sorted.{IsStrictlySortedBy}
use Rattle.std.specs.Map.{lookup, keys_of}
use Rattle.std.specs.Ordering.{nat_cmp}
use Rattle.std.specs.Str.{bytes_eq}
use Rattle.std.specs.Cmp.Lexicographic.{slice_cmp}
use Rattle.bl_syntax.specs.Names.{is_principal_name, is_text}
use Rattle.file_world.specs.FileNames.{is_attribute_name}
use Rattle.file_world.specs.Limits.{most_attributes}

-- values under the names of attributes, in the byte order of the names
abbrev pub Attributes : Type 0
Attributes = List (List ℕ × List ℕ)

-- what is kept of a node: its owner, the number of its directory (0 for the root), and its
-- attributes
pub record Mark : Type 0 where
  pub owner : List ℕ
  pub parent : ℕ
  pub attributes : Attributes

-- marks under the numbers of their nodes, by rising number
abbrev pub Marks : Type 0
Marks = List (ℕ × Mark)

-- the mark of the node of that number
abbrev pub mark_at : Marks → ℕ → Option Mark
mark_at marks number = lookup (nat_eq number) marks

-- the value of the attribute of that name
abbrev pub value_at : Attributes → List ℕ → Option (List ℕ)
value_at attributes name = lookup (bytes_eq name) attributes

-- a mark within the limits
pub record IsMark (mark : Mark) : Type 0 where
  pub owned : IsTrue (is_principal_name mark.owner)
  pub named : AllByRecursion (λ attribute. IsTrue (is_attribute_name attribute.0)) mark.attributes
  pub texts : AllByRecursion (λ attribute. IsTrue (is_text attribute.1)) mark.attributes
  pub rising : IsStrictlySortedBy (slice_cmp nat_cmp) (keys_of mark.attributes)
  pub few : length mark.attributes ≤ most_attributes

-- marks within the limits
pub record AreMarks (marks : Marks) : Type 0 where
  pub within : (number : ℕ) (mark : Mark) → mark_at marks number ≡ Some mark → IsMark mark
  pub rising : IsStrictlySortedBy nat_cmp (keys_of marks)
