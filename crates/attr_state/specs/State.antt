-- What contracts see of owners and attributes: the marks of the nodes, and for which change they
-- are ready.
use Rattle.std.specs.Prelude.{◌≡◌, ℕ, List, length, map, Option, Some, None, Result, Ok, Err}
use Rattle.file_world.specs.declared.operation.MetaOp.{MetaOp}
use Rattle.file_world.specs.declared.operation.MetaOp.TheVariants.{Get, Set, Remove, Chown, Add, Drop, Move}
use Rattle.file_world.specs.declared.refusal.OpFault.{OpFault}
use Rattle.file_world.specs.declared.refusal.OpFault.TheVariants.{Refused, NoMemory}
use Rattle.file_world.specs.declared.reply.MetaReply.{MetaReply}
use Rattle.file_world.specs.Attributes.{Marks, mark_at, AreMarks}
use Rattle.file_world.specs.AttributeEffect.{attributes_of, with_value, meta_refusal, meta_reply}
use Rattle.node_rows.specs.declared.rows.RowsFault.{RowsFault}
use Rattle.node_rows.specs.declared.rows.RowsFault.TheVariants.{NotTree, NoMemory as OutOfMemory}
use Rattle.attr_state.specs.declared.ready.MetaReady.{MetaReady}
use Rattle.attr_state.specs.declared.ready.MetaReady.TheVariants.{Nothing, Attributes, Made}

-- the marks, and the change for which memory was taken
pub record MetaView : Type 0 where
  pub marks : Marks
  pub ready : Option MetaReady

-- what an operation that is not refused gets ready
abbrev pub ready_for : Marks → MetaOp → MetaReady
ready_for marks (Get node name) = Nothing
ready_for marks (Set node name value) = Attributes node.0 (length (with_value (attributes_of (mark_at marks node.0)) name value))
ready_for marks (Remove node name) = Nothing
ready_for marks (Chown node owner) = Nothing
ready_for marks (Add node owner parent) = Made node.0 owner parent.0
ready_for marks (Drop node) = Nothing
ready_for marks (Move node parent) = Nothing

-- the operation is not refused, and what it changes is ready
pub record IsMetaReady (state : MetaView) (op : MetaOp) : Type 0 where
  pub free : meta_refusal state.marks op ≡ None
  pub ready : state.ready ≡ Some (ready_for state.marks op)

-- the operation got its reply and is ready; or it is refused, and its first refusal is reported; or
-- out of memory
abbrev pub ReservesMeta : Marks → MetaOp → Result MetaReply OpFault → Option MetaReady → Type 0
ReservesMeta marks op (Ok reply) ready = (meta_refusal marks op ≡ None) ×
    (reply ≡ meta_reply marks op) × (ready ≡ Some (ready_for marks op))
ReservesMeta marks op (Err (Refused refusal)) ready = (meta_refusal marks op ≡ Some refusal) ×
    (ready ≡ None)
ReservesMeta marks op (Err NoMemory) ready = (meta_refusal marks op ≡ None) × (ready ≡ None)

-- the number of each node, and that of its directory
abbrev pub directories_of_marks : Marks → List (ℕ × ℕ)
directories_of_marks marks = map (λ row. (row.0, row.1.parent)) marks

-- the marks are within the limits, and nothing is ready; or they are not; or out of memory
abbrev pub MakesMarks : Marks → Result MetaView RowsFault → Type 0
MakesMarks marks (Ok meta) = AreMarks marks × (meta ≡ record { marks = marks; ready = None })
MakesMarks marks (Err NotTree) = AreMarks marks → ⊥
MakesMarks marks (Err OutOfMemory) = Unit {0}
