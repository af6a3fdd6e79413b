-- Canonical bytes of operations: the one spelling of each, its code and its words in order. The
-- format is this project's own. Its numbers are big-endian.
use Rattle.std.specs.Prelude.{ℕ, List, ◌∷◌, ◌++◌, IsTrue}
use Rattle.bl_syntax.specs.Names.{is_principal_name, is_text}
use Rattle.bl_syntax.specs.Spelling.{with_length}
use Rattle.file_world.specs.declared.operation.Op.{Op}
use Rattle.file_world.specs.declared.operation.Op.TheVariants.{Read, Write, Truncate, List as ListOf, Lookup, Create, Mkdir, Unlink, Rename, Getattr, Setattr, Delattr, Chown}
use Rattle.record_parts.specs.Fields.{number_spelling, IsSpellableNumber, node_spelling, IsSpellableNode, FitsOneByte, sized_bytes_spelling, FitsFourBytes}

unfoldable pub operation_spelling : Op → List ℕ
operation_spelling (Read file offset len) = 1 ∷ (node_spelling file ++ (number_spelling offset ++ number_spelling len))
operation_spelling (Write file offset bytes) = 2 ∷ (node_spelling file ++ (number_spelling offset ++ sized_bytes_spelling bytes))
operation_spelling (Truncate file len) = 3 ∷ (node_spelling file ++ number_spelling len)
operation_spelling (ListOf directory) = 4 ∷ node_spelling directory
operation_spelling (Lookup directory name) = 5 ∷ (node_spelling directory ++ with_length name)
operation_spelling (Create directory name) = 6 ∷ (node_spelling directory ++ with_length name)
operation_spelling (Mkdir directory name) = 7 ∷ (node_spelling directory ++ with_length name)
operation_spelling (Unlink directory name) = 8 ∷ (node_spelling directory ++ with_length name)
operation_spelling (Rename directory name target renamed) = 9 ∷ (node_spelling directory ++ (with_length name ++ (node_spelling target ++ with_length renamed)))
operation_spelling (Getattr node name) = 10 ∷ (node_spelling node ++ with_length name)
operation_spelling (Setattr node name value) = 11 ∷ (node_spelling node ++ (with_length name ++ with_length value))
operation_spelling (Delattr node name) = 12 ∷ (node_spelling node ++ with_length name)
operation_spelling (Chown node owner) = 13 ∷ (node_spelling node ++ with_length owner)

-- the operation has a spelling: its numbers, lengths and names fit their fields
abbrev pub IsSpellableOperation : Op → Type 0
IsSpellableOperation (Read file offset len) = IsSpellableNode file ×
    (IsSpellableNumber offset × IsSpellableNumber len)
IsSpellableOperation (Write file offset bytes) = IsSpellableNode file ×
    (IsSpellableNumber offset × FitsFourBytes bytes)
IsSpellableOperation (Truncate file len) = IsSpellableNode file × IsSpellableNumber len
IsSpellableOperation (ListOf directory) = IsSpellableNode directory
IsSpellableOperation (Lookup directory name) = IsSpellableNode directory × FitsOneByte name
IsSpellableOperation (Create directory name) = IsSpellableNode directory × FitsOneByte name
IsSpellableOperation (Mkdir directory name) = IsSpellableNode directory × FitsOneByte name
IsSpellableOperation (Unlink directory name) = IsSpellableNode directory × FitsOneByte name
IsSpellableOperation (Rename directory name target renamed) = IsSpellableNode directory ×
    (FitsOneByte name × (IsSpellableNode target × FitsOneByte renamed))
IsSpellableOperation (Getattr node name) = IsSpellableNode node × FitsOneByte name
IsSpellableOperation (Setattr node name value) = IsSpellableNode node ×
    (FitsOneByte name × IsTrue (is_text value))
IsSpellableOperation (Delattr node name) = IsSpellableNode node × FitsOneByte name
IsSpellableOperation (Chown node owner) = IsSpellableNode node × IsTrue (is_principal_name owner)

-- the lengths of its names and of what is to be written fit their fields; the rest always does
abbrev pub HasFittingWords : Op → Type 0
HasFittingWords (Read file offset len) = Unit {0}
HasFittingWords (Write file offset bytes) = FitsFourBytes bytes
HasFittingWords (Truncate file len) = Unit {0}
HasFittingWords (ListOf directory) = Unit {0}
HasFittingWords (Lookup directory name) = FitsOneByte name
HasFittingWords (Create directory name) = FitsOneByte name
HasFittingWords (Mkdir directory name) = FitsOneByte name
HasFittingWords (Unlink directory name) = FitsOneByte name
HasFittingWords (Rename directory name target renamed) = FitsOneByte name × FitsOneByte renamed
HasFittingWords (Getattr node name) = FitsOneByte name
HasFittingWords (Setattr node name value) = FitsOneByte name
HasFittingWords (Delattr node name) = FitsOneByte name
HasFittingWords (Chown node owner) = Unit {0}
