-- The nodes of a world in an image: the one spelling of each. The format is this project's own. Its
-- numbers are big-endian.
use Rattle.std.specs.Prelude.{ℕ, List, ◌∷◌, ◌++◌, ◌<◌, ◌≤◌, ◌^◌, length, IsTrue}
use Rattle.std.specs.List.{AllByRecursion}
use Rattle.std.specs.List.Sorted.{IsStrictlySortedBy}
use Rattle.std.specs.Map.{keys_of}
use Rattle.std.specs.Ordering.{nat_cmp}
use Rattle.std.specs.Cmp.Lexicographic.{slice_cmp}
use Rattle.bl_syntax.specs.Names.{is_principal_name, is_text}
use Rattle.bl_syntax.specs.Spelling.{with_length}
use Rattle.procap.specs.GrantSpelling.{list_spelling}
use Rattle.file_world.specs.declared.operation.Kind.{Kind}
use Rattle.file_world.specs.declared.operation.Kind.TheVariants.{File, Directory}
use Rattle.file_world.specs.FileNames.{is_attribute_name}
use Rattle.file_world.specs.Attributes.{Attributes}
use Rattle.file_world.specs.World.{Item}
use Rattle.node_rows.specs.Names.{is_name_or_none}
use Rattle.record_parts.specs.Fields.{number_spelling, IsSpellableNumber, FitsOneByte, sized_bytes_spelling, FitsFourBytes}
use Rattle.checkpoint_image.specs.Chain.{long_list_spelling}

-- the byte of a kind
abbrev pub kind_code : Kind → ℕ
kind_code File = 1
kind_code Directory = 2

-- a name, and a value
abbrev pub attribute_spelling : List ℕ × List ℕ → List ℕ
attribute_spelling attribute = with_length attribute.0 ++ with_length attribute.1

-- the number of a node, its kind, its owner, and the number of its directory
unfoldable pub node_head_spelling : ℕ × Item → List ℕ
node_head_spelling row = number_spelling row.0 ++ kind_code row.1.kind ∷ (with_length row.1.owner ++ number_spelling row.1.place.directory)

-- its name, its attributes, and its contents
unfoldable pub node_tail_spelling : Item → List ℕ
node_tail_spelling item = with_length item.place.name ++ (list_spelling attribute_spelling item.attributes ++ sized_bytes_spelling item.contents)

-- a node under its number
abbrev pub node_spelling : ℕ × Item → List ℕ
node_spelling row = node_head_spelling row ++ node_tail_spelling row.1

-- how many nodes there are, and each
abbrev pub nodes_spelling : List (ℕ × Item) → List ℕ
nodes_spelling rows = long_list_spelling node_spelling rows

-- attributes that have a spelling, in the byte order of their names
pub record AreSpellableAttributes (attributes : Attributes) : Type 0 where
  pub few : length attributes ≤ 255
  pub named : AllByRecursion (λ attribute. IsTrue (is_attribute_name attribute.0)) attributes
  pub texts : AllByRecursion (λ attribute. IsTrue (is_text attribute.1)) attributes
  pub rising : IsStrictlySortedBy (slice_cmp nat_cmp) (keys_of attributes)

-- a node that has a spelling
pub record IsSpellableNode (row : ℕ × Item) : Type 0 where
  pub above_zero : 0 < row.0
  pub number : IsSpellableNumber row.0
  pub owner : IsTrue (is_principal_name row.1.owner)
  pub directory : IsSpellableNumber row.1.place.directory
  pub name : IsTrue (is_name_or_none row.1.place.name)
  pub attributes : AreSpellableAttributes row.1.attributes
  pub contents : FitsFourBytes row.1.contents

-- nodes that have a spelling, by rising number
pub record AreSpellableNodes (rows : List (ℕ × Item)) : Type 0 where
  pub few : length rows < 2 ^ 32
  pub each : AllByRecursion IsSpellableNode rows
  pub rising : IsStrictlySortedBy nat_cmp (keys_of rows)

-- the lengths of names and contents and the number of attributes fit their fields
pub record HasFittingParts (item : Item) : Type 0 where
  pub name : FitsOneByte item.place.name
  pub few : length item.attributes ≤ 255
  pub names : AllByRecursion (λ attribute. FitsOneByte attribute.0) item.attributes
  pub contents : FitsFourBytes item.contents
