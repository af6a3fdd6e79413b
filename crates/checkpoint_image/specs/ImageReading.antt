-- Reading the image of a state from the left: the state and the bytes after it, or the first fault.
-- Whether its nodes are a tree is no question of a single field. This project's own.
use Rattle.std.specs.Prelude.{ℕ, ℤ, Bool, List, [], ◌∷◌, ◌==◌, false, length, if◌then◌else◌, Result, Ok, Err}
use Rattle.bl_syntax.specs.declared.codec_fault.CodecFault.{CodecFault}
use Rattle.bl_syntax.specs.declared.codec_fault.CodecFault.TheVariants.{Short, BadTag}
use Rattle.bl_syntax.specs.Reading.{◌>>=◌, Reading, map_reading, place}
use Rattle.policy_statement.specs.Registered.{RegisteredView}
use Rattle.procap.specs.Procap.{at_end}
use Rattle.file_world.specs.World.{Item}
use Rattle.access_history.specs.declared.event.Issue.{Issue}
use Rattle.access_history.specs.Base.{BaseView}
use Rattle.record_parts.specs.Fields.{u64_at, moment_field_at}
use Rattle.record_parts.specs.RecordSpelling.{Registration, Issuing}
use Rattle.record_parts.specs.RecordReading.{registered_at, issued_at}
use Rattle.node_rows.specs.Rows.{item_rows}
use Rattle.checkpoint_image.specs.declared.image.Image.{Image}
use Rattle.checkpoint_image.specs.Chain.{long_list_at, alone, nothing_left}
use Rattle.checkpoint_image.specs.NodeReading.{nodes_at}
use Rattle.checkpoint_image.specs.WithdrawnNumbers.{marked_all, withdrawn_numbers_at}

-- the number of the last event, and the number of the next node
unfoldable pub counts_at : List ℕ → Reading (ℕ × ℕ)
counts_at bytes = do
  count ← u64_at bytes
  next ← u64_at count.1
  Ok ((count.0, next.0), next.1)

-- the greatest moment so far, and these numbers
unfoldable pub head_at : ℕ → List ℕ → Reading (ℤ × (ℕ × ℕ))
head_at input bytes = do
  moment ← moment_field_at input bytes
  counts ← counts_at moment.1
  Ok ((moment.0, counts.0), counts.1)

-- a statement with its signature, which was not withdrawn
abbrev pub entry_of : Registration → RegisteredView
entry_of r = record { statement = r.0; signature = r.1; withdrawn = false }

abbrev pub entry_at : ℕ → List ℕ → Reading RegisteredView
entry_at input bytes = map_reading entry_of (registered_at input bytes)

-- how many statements there are, and each
abbrev pub statements_at : ℕ → List ℕ → Reading (List RegisteredView)
statements_at input bytes = long_list_at (alone (entry_at input)) nothing_left tt bytes

-- an issue
abbrev pub issue_of : Issuing → Issue
issue_of i = record { cited = i.0; proof = i.1.0; grant = i.1.1 }

abbrev pub issue_at : ℕ → List ℕ → Reading Issue
issue_at input bytes = map_reading issue_of (issued_at input bytes)

-- how many issues there are, and each
abbrev pub issues_at : ℕ → List ℕ → Reading (List Issue)
issues_at input bytes = long_list_at (alone (issue_at input)) nothing_left tt bytes

-- issues, and nodes
unfoldable pub issues_and_nodes_at : ℕ → List ℕ → Reading (List Issue × List (ℕ × Item))
issues_and_nodes_at input bytes = do
  issues ← issues_at input bytes
  nodes ← nodes_at input issues.1
  Ok ((issues.0, nodes.0), nodes.1)

-- statements, issues, and nodes
unfoldable pub lists_at : ℕ → List ℕ →
    Reading (List RegisteredView × (List Issue × List (ℕ × Item)))
lists_at input bytes = do
  statements ← statements_at input bytes
  others ← issues_and_nodes_at input statements.1
  Ok ((statements.0, others.0), others.1)

-- all fields of an image, as they stand one after the other
unfoldable pub parts_at : ℕ → List ℕ →
    Reading ((ℤ × (ℕ × ℕ)) × (List RegisteredView × (List Issue × List (ℕ × Item))))
parts_at input bytes = do
  head ← head_at input bytes
  lists ← lists_at input head.1
  Ok ((head.0, lists.0), lists.1)

-- the state of these parts
abbrev pub base_of_parts : (ℤ × (ℕ × ℕ)) × (List RegisteredView × (List Issue × List (ℕ × Item))) →
    BaseView
base_of_parts p = record { world = record { rows = p.1.1.1; next = p.0.1.1 }; statements = p.1.0; issues = p.1.1.0; moment = p.0.0; count = p.0.1.0 }

-- the state of these fields, in which all statements stand
abbrev pub fields_at : ℕ → List ℕ → Reading BaseView
fields_at input bytes = map_reading base_of_parts (parts_at input bytes)

-- the state after the statements of these numbers were withdrawn
abbrev pub with_withdrawn : BaseView → List ℕ → BaseView
with_withdrawn base numbers =
    record { world = base.world; statements = marked_all base.statements numbers; issues = base.issues; moment = base.moment; count = base.count }

-- the fields, and the numbers of the withdrawn statements
unfoldable pub state_at : ℕ → List ℕ → Reading BaseView
state_at input bytes = do
  fields ← fields_at input bytes
  numbers ← withdrawn_numbers_at (length fields.0.statements) input fields.1
  Ok (with_withdrawn fields.0 numbers.0, numbers.1)

-- the state of an image: the version, and what stands after it
unfoldable pub image_at : ℕ → List ℕ → Reading BaseView
image_at input [] = Err Short
image_at input (version ∷ rest) = if version == 2 then state_at input rest else Err (BadTag (place input (version ∷ rest)))

-- whether the bytes begin with the version of images. An image of version 1 has none: it begins
-- with the first byte of a moment, which is another
abbrev pub is_versioned : List ℕ → Bool
is_versioned [] = false
is_versioned (version ∷ rest) = version == 2

-- the state of an image of either version: of version 2 if the bytes begin so, and of version 1,
-- which is the fields alone, if not
unfoldable pub stored_image_at : ℕ → List ℕ → Reading BaseView
stored_image_at input bytes = if is_versioned bytes then image_at input bytes else fields_at input bytes

-- a state whose image is the whole input, or the first fault: nothing may be left over
unfoldable pub whole_image : List ℕ → Result BaseView CodecFault
whole_image bytes = image_at (length bytes) bytes >>= at_end (length bytes)

-- the state that was read
abbrev pub base_of_image : Image → BaseView
base_of_image image =
    record {
      world = record { rows = item_rows image.tree image.meta; next = image.next };
      statements = image.statements;
      issues = image.issues;
      moment = image.moment;
      count =
          image.count;
    }
