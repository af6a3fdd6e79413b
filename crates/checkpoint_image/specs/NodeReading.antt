-- Reading the nodes of an image from the left: the value and the bytes after it, or the first
-- fault. A node's number has to pass that of the node before it, and an attribute's name
-- has to come after the one before it in byte order; one that does not has its fault at its first
-- byte. The order of the faults is this project's own.
use Rattle.std.specs.Prelude.{ℕ, List, [], Bool, ◌&&◌, nat_lt, ◌==◌, if◌then◌else◌, Option, Some, None, Ok, Err}
use Rattle.std.specs.Ordering.{is_lt, nat_cmp}
use Rattle.std.specs.Cmp.Lexicographic.{slice_cmp}
use Rattle.file_world.specs.declared.limits.TheConstants.{LONGEST_NAME}
use Rattle.bl_syntax.specs.declared.codec_fault.CodecFault.TheVariants.{NotCanonical}
use Rattle.bl_syntax.specs.Reading.{◌>>=◌, Reading, map_reading, place, word_at, name_at, text_at, coded_at}
use Rattle.file_world.specs.declared.operation.Kind.{Kind}
use Rattle.file_world.specs.declared.operation.Kind.TheVariants.{File, Directory}
use Rattle.file_world.specs.FileNames.{is_attribute_name}
use Rattle.file_world.specs.Attributes.{Attributes}
use Rattle.file_world.specs.World.{Item}
use Rattle.node_rows.specs.Names.{is_name_or_none}
use Rattle.record_parts.specs.Fields.{u64_at, sized_bytes_at}
use Rattle.checkpoint_image.specs.Chain.{short_list_at, long_list_at}

-- the kind of a byte
abbrev pub kind_of : ℕ → Option Kind
kind_of code = if code == 1 then Some File else if code == 2 then Some Directory else None

-- a kind
abbrev pub kind_at : ℕ → List ℕ → Reading Kind
kind_at input bytes = coded_at kind_of input bytes

-- a number above the one before it
unfoldable pub number_after : ℕ → ℕ → List ℕ → Reading ℕ
number_after previous input bytes = do
  number ← u64_at bytes
  if nat_lt previous number.0 then Ok number else Err (NotCanonical (place input bytes))

-- an owner, and the number of a directory
unfoldable pub owned_at : ℕ → List ℕ → Reading (List ℕ × ℕ)
owned_at input bytes = do
  owner ← name_at input bytes
  directory ← u64_at owner.1
  Ok ((owner.0, directory.0), directory.1)

-- a kind, an owner, and the number of a directory
unfoldable pub kinded_at : ℕ → List ℕ → Reading (Kind × (List ℕ × ℕ))
kinded_at input bytes = do
  kind ← kind_at input bytes
  owned ← owned_at input kind.1
  Ok ((kind.0, owned.0), owned.1)

-- the number of a node, its kind, its owner, and the number of its directory
unfoldable pub node_head_at : ℕ → ℕ → List ℕ → Reading (ℕ × (Kind × (List ℕ × ℕ)))
node_head_at previous input bytes = do
  number ← number_after previous input bytes
  kinded ← kinded_at input number.1
  Ok ((number.0, kinded.0), kinded.1)

-- whether the bytes name an attribute and come after the previous name in byte order
abbrev pub is_name_after : List ℕ → List ℕ → Bool
is_name_after previous name = is_attribute_name name && is_lt (slice_cmp nat_cmp previous name)

-- the name of an attribute after the previous one
abbrev pub attribute_name_at : List ℕ → ℕ → List ℕ → Reading (List ℕ)
attribute_name_at previous input bytes = word_at 1 LONGEST_NAME (is_name_after previous) input bytes

-- an attribute after the previous one
unfoldable pub attribute_at : List ℕ → ℕ → List ℕ → Reading (List ℕ × List ℕ)
attribute_at previous input bytes = do
  name ← attribute_name_at previous input bytes
  value ← text_at input name.1
  Ok ((name.0, value.0), value.1)

-- the name that the next attribute has to come after
abbrev pub name_of : List ℕ × List ℕ → List ℕ
name_of attribute = attribute.0

-- the attributes of a node
abbrev pub attributes_at : ℕ → List ℕ → Reading Attributes
attributes_at input bytes = short_list_at (λ previous. attribute_at previous input) name_of [] bytes

-- attributes, and contents
unfoldable pub held_at : ℕ → List ℕ → Reading (Attributes × List ℕ)
held_at input bytes = do
  attributes ← attributes_at input bytes
  contents ← sized_bytes_at attributes.1
  Ok ((attributes.0, contents.0), contents.1)

-- the name of a node, or the root's
abbrev pub node_name_at : ℕ → List ℕ → Reading (List ℕ)
node_name_at input bytes = word_at 0 LONGEST_NAME is_name_or_none input bytes

-- the name of a node, its attributes, and its contents
unfoldable pub node_tail_at : ℕ → List ℕ → Reading (List ℕ × (Attributes × List ℕ))
node_tail_at input bytes = do
  name ← node_name_at input bytes
  held ← held_at input name.1
  Ok ((name.0, held.0), held.1)

-- all fields of a node, as they stand one after the other
unfoldable pub node_fields_at : ℕ → ℕ → List ℕ →
    Reading ((ℕ × (Kind × (List ℕ × ℕ))) × (List ℕ × (Attributes × List ℕ)))
node_fields_at previous input bytes = do
  head ← node_head_at previous input bytes
  tail ← node_tail_at input head.1
  Ok ((head.0, tail.0), tail.1)

-- the node of its fields
abbrev pub node_of_fields : (ℕ × (Kind × (List ℕ × ℕ))) × (List ℕ × (Attributes × List ℕ)) → ℕ ×
    Item
node_of_fields f =
    (f.0.0, record { kind = f.0.1.0; owner = f.0.1.1.0; attributes = f.1.1.0; place = record { directory = f.0.1.1.1; name = f.1.0 }; contents = f.1.1.1 })

-- a node, whose number is above the previous one
abbrev pub node_at : ℕ → ℕ → List ℕ → Reading (ℕ × Item)
node_at previous input bytes = map_reading node_of_fields (node_fields_at previous input bytes)

-- the number that the next node's has to pass
abbrev pub number_of : ℕ × Item → ℕ
number_of row = row.0

-- how many nodes there are, and each
abbrev pub nodes_at : ℕ → List ℕ → Reading (List (ℕ × Item))
nodes_at input bytes = long_list_at (λ previous. node_at previous input) number_of 0 bytes
