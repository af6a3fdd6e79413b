-- Reading operations from their canonical bytes, from the left: the value and the bytes after it,
-- or the first fault. The order of the faults is this project's own: the code
-- is tested first, and then each word in order.
use Rattle.std.specs.Prelude.{ℕ, List, [], ◌∷◌, ◌==◌, if◌then◌else◌, Ok, Err}
use Rattle.bl_syntax.specs.declared.codec_fault.CodecFault.TheVariants.{Short, BadTag}
use Rattle.bl_syntax.specs.declared.terms.NodeId.{NodeId}
use Rattle.bl_syntax.specs.Reading.{◌>>=◌, Reading, map_reading, place, name_at, text_at}
use Rattle.file_world.specs.declared.operation.Op.{Op}
use Rattle.file_world.specs.declared.operation.Op.TheVariants.{Read, Write, Truncate, List as ListOf, Lookup, Create, Mkdir, Unlink, Rename, Getattr, Setattr, Delattr, Chown}
use Rattle.record_parts.specs.Fields.{u64_at, node_at, free_name_at, sized_bytes_at}

-- a node, and a name
unfoldable pub named_node_at : List ℕ → Reading (NodeId × List ℕ)
named_node_at bytes = do
  file ← node_at bytes
  name ← free_name_at file.1
  Ok ((file.0, name.0), name.1)

-- an offset, and the greatest number of bytes
unfoldable pub range_at : List ℕ → Reading (ℕ × ℕ)
range_at bytes = do
  offset ← u64_at bytes
  len ← u64_at offset.1
  Ok ((offset.0, len.0), len.1)

-- an offset, and bytes
unfoldable pub piece_at : List ℕ → Reading (ℕ × List ℕ)
piece_at bytes = do
  offset ← u64_at bytes
  piece ← sized_bytes_at offset.1
  Ok ((offset.0, piece.0), piece.1)

-- a name, and a node with a name
unfoldable pub renamed_at : List ℕ → Reading (List ℕ × (NodeId × List ℕ))
renamed_at bytes = do
  name ← free_name_at bytes
  target ← named_node_at name.1
  Ok ((name.0, target.0), target.1)

-- a name, and a text
unfoldable pub valued_at : ℕ → List ℕ → Reading (List ℕ × List ℕ)
valued_at input bytes = do
  name ← free_name_at bytes
  value ← text_at input name.1
  Ok ((name.0, value.0), value.1)

-- the words of a reading, a writing and a truncation
unfoldable pub read_words_at : List ℕ → Reading (NodeId × (ℕ × ℕ))
read_words_at bytes = do
  file ← node_at bytes
  range ← range_at file.1
  Ok ((file.0, range.0), range.1)

unfoldable pub write_words_at : List ℕ → Reading (NodeId × (ℕ × List ℕ))
write_words_at bytes = do
  file ← node_at bytes
  piece ← piece_at file.1
  Ok ((file.0, piece.0), piece.1)

unfoldable pub truncate_words_at : List ℕ → Reading (NodeId × ℕ)
truncate_words_at bytes = do
  file ← node_at bytes
  len ← u64_at file.1
  Ok ((file.0, len.0), len.1)

-- the words of a renaming
unfoldable pub rename_words_at : List ℕ → Reading (NodeId × (List ℕ × (NodeId × List ℕ)))
rename_words_at bytes = do
  directory ← node_at bytes
  names ← renamed_at directory.1
  Ok ((directory.0, names.0), names.1)

-- the words of a change of an attribute, and of an owner
unfoldable pub setattr_words_at : ℕ → List ℕ → Reading (NodeId × (List ℕ × List ℕ))
setattr_words_at input bytes = do
  file ← node_at bytes
  attribute ← valued_at input file.1
  Ok ((file.0, attribute.0), attribute.1)

unfoldable pub chown_words_at : ℕ → List ℕ → Reading (NodeId × List ℕ)
chown_words_at input bytes = do
  file ← node_at bytes
  owner ← name_at input file.1
  Ok ((file.0, owner.0), owner.1)

-- the words of an operation on attributes and owners, whose code stands at the place
unfoldable pub attribute_words_at : ℕ → ℕ → ℕ → List ℕ → Reading Op
attribute_words_at input start code rest =
    if code == 10 then map_reading (λ t. Getattr t.0 t.1) (named_node_at rest) else
    if code == 11 then map_reading (λ t. Setattr t.0 t.1.0 t.1.1) (setattr_words_at input rest) else
    if code == 12 then map_reading (λ t. Delattr t.0 t.1) (named_node_at rest) else
    if code == 13 then map_reading (λ t. Chown t.0 t.1) (chown_words_at input rest) else
    Err (BadTag start)

-- the words of an operation on names in directories, or of one of the former
unfoldable pub name_words_at : ℕ → ℕ → ℕ → List ℕ → Reading Op
name_words_at input start code rest =
    if code == 5 then map_reading (λ t. Lookup t.0 t.1) (named_node_at rest) else
    if code == 6 then map_reading (λ t. Create t.0 t.1) (named_node_at rest) else
    if code == 7 then map_reading (λ t. Mkdir t.0 t.1) (named_node_at rest) else
    if code == 8 then map_reading (λ t. Unlink t.0 t.1) (named_node_at rest) else
    if code == 9 then map_reading (λ t. Rename t.0 t.1.0 t.1.1.0 t.1.1.1) (rename_words_at rest) else
    attribute_words_at input start code rest

-- the words of any operation
unfoldable pub words_at : ℕ → ℕ → ℕ → List ℕ → Reading Op
words_at input start code rest =
    if code == 1 then map_reading (λ t. Read t.0 t.1.0 t.1.1) (read_words_at rest) else
    if code == 2 then map_reading (λ t. Write t.0 t.1.0 t.1.1) (write_words_at rest) else
    if code == 3 then map_reading (λ t. Truncate t.0 t.1) (truncate_words_at rest) else
    if code == 4 then map_reading (λ t. ListOf t) (node_at rest) else
    name_words_at input start code rest

-- an operation: its code and its words
unfoldable pub operation_at : ℕ → List ℕ → Reading Op
operation_at input [] = Err Short
operation_at input (code ∷ rest) = words_at input (place input (code ∷ rest)) code rest
