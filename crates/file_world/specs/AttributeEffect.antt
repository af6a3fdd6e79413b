-- What each operation does to owners and attributes: its refusals in their order, its reply, and
-- the marks after it (this project's own).
use Rattle.std.specs.Prelude.{◌≡◌, ℕ, List, [], ◌∷◌, ◌++◌, length, Option, Some, None, is_none, unwrap_or, IsSome, IsTrue, not, nat_le, nat_eq, ◌&&◌, codes}
use Rattle.std.specs.Map.{remove_entry}
use Rattle.std.specs.BTreeMap.{insert_entry}
use Rattle.std.specs.Ordering.{nat_cmp}
use Rattle.std.specs.Cmp.Lexicographic.{slice_cmp}
use Rattle.std.specs.Str.{bytes_eq}
use Rattle.bl_syntax.specs.Names.{is_principal_name, is_text}
use Rattle.file_world.specs.declared.operation.MetaOp.{MetaOp}
use Rattle.file_world.specs.declared.operation.MetaOp.TheVariants.{Get, Set, Remove, Chown, Add, Drop, Move}
use Rattle.file_world.specs.declared.refusal.Refusal.TheVariants.{NoNode, NoAttribute, AttrFull, BadAttrName}
use Rattle.file_world.specs.declared.refusal.Refusal.{Refusal}
use Rattle.file_world.specs.declared.reply.MetaReply.{MetaReply}
use Rattle.file_world.specs.declared.reply.MetaReply.TheVariants.{Done, Text as TextOf}
use Rattle.file_world.specs.FileNames.{is_attribute_name}
use Rattle.file_world.specs.Limits.{root_number, most_attributes}
use Rattle.file_world.specs.Attributes.{Attributes, Mark, Marks, mark_at, value_at}
use Rattle.file_world.specs.TreeEffect.{revise}
use Rattle.file_world.specs.Outcome.{Tests, first_of, Outcome, outcome}

-- the attributes of the node of that number; none if there is no node
abbrev pub attributes_of : Option Mark → Attributes
attributes_of None = []
attributes_of (Some mark) = mark.attributes

abbrev pub value_of : Marks → ℕ → List ℕ → Option (List ℕ)
value_of marks number name = value_at (attributes_of (mark_at marks number)) name

-- the attributes with the value under the name, replacing one that is there
abbrev pub with_value : Attributes → List ℕ → List ℕ → Attributes
with_value attributes name value = insert_entry (slice_cmp nat_cmp) attributes name value

abbrev pub without_value : Attributes → List ℕ → Attributes
without_value attributes name = remove_entry (bytes_eq name) attributes

-- ---- refusals, in their order

abbrev pub attribute_tests : Marks → ℕ → List ℕ → Tests
attribute_tests marks number name = (is_none (mark_at marks number), NoNode) ∷ (not (is_attribute_name name), BadAttrName) ∷ []

abbrev pub meta_tests : Marks → MetaOp → Tests
meta_tests marks (Get node name) = attribute_tests marks node.0 name ++ (is_none (value_of marks node.0 name), NoAttribute) ∷ []
meta_tests marks (Set node name value) =
    attribute_tests marks node.0 name
    ++ (is_none (value_of marks node.0 name) && nat_le most_attributes (length (attributes_of (mark_at marks node.0))), AttrFull)
    ∷ []
meta_tests marks (Remove node name) = attribute_tests marks node.0 name ++ (is_none (value_of marks node.0 name), NoAttribute) ∷ []
meta_tests marks (Chown node owner) = (is_none (mark_at marks node.0), NoNode) ∷ []
meta_tests marks (Add node owner parent) = []
meta_tests marks (Drop node) = []
meta_tests marks (Move node parent) = []

abbrev pub meta_refusal : Marks → MetaOp → Option Refusal
meta_refusal marks op = first_of (meta_tests marks op)

-- an operation that brings no owner but a principal's name, and no value but a text
abbrev pub IsMetaOperation : MetaOp → Type 0
IsMetaOperation (Get node name) = Unit {0}
IsMetaOperation (Set node name value) = IsTrue (is_text value)
IsMetaOperation (Remove node name) = Unit {0}
IsMetaOperation (Chown node owner) = IsTrue (is_principal_name owner)
IsMetaOperation (Add node owner parent) = IsTrue (is_principal_name owner)
IsMetaOperation (Drop node) = Unit {0}
IsMetaOperation (Move node parent) = Unit {0}

-- what an operation asks of its caller: a node that is added is new, and one that goes or is moved
-- is there
abbrev pub IsAskable : Marks → MetaOp → Type 0
IsAskable marks (Get node name) = Unit {0}
IsAskable marks (Set node name value) = Unit {0}
IsAskable marks (Remove node name) = Unit {0}
IsAskable marks (Chown node owner) = Unit {0}
IsAskable marks (Add node owner parent) = mark_at marks node.0 ≡ None
IsAskable marks (Drop node) = IsSome (mark_at marks node.0)
IsAskable marks (Move node parent) = IsSome (mark_at marks node.0)

-- ---- replies

abbrev pub meta_reply : Marks → MetaOp → MetaReply
meta_reply marks (Get node name) = TextOf (unwrap_or (value_of marks node.0 name) [])
meta_reply marks (Set node name value) = Done
meta_reply marks (Remove node name) = Done
meta_reply marks (Chown node owner) = Done
meta_reply marks (Add node owner parent) = Done
meta_reply marks (Drop node) = Done
meta_reply marks (Move node parent) = Done

-- ---- changes

abbrev pub with_owner : List ℕ → Mark → Mark
with_owner owner mark = record mark { owner = owner }

abbrev pub with_parent : ℕ → Mark → Mark
with_parent parent mark = record mark { parent = parent }

abbrev pub with_attributes : Attributes → Mark → Mark
with_attributes attributes mark = record mark { attributes = attributes }

-- a node's mark when it is made
abbrev pub new_mark : List ℕ → ℕ → Mark
new_mark owner parent = record { owner = owner; parent = parent; attributes = [] }

-- the marks after an operation that is not refused
abbrev pub marks_after : Marks → MetaOp → Marks
marks_after marks (Get node name) = marks
marks_after marks (Set node name value) =
    revise node.0 (with_attributes (with_value (attributes_of (mark_at marks node.0)) name value)) marks
marks_after marks (Remove node name) =
    revise node.0 (with_attributes (without_value (attributes_of (mark_at marks node.0)) name)) marks
marks_after marks (Chown node owner) = revise node.0 (with_owner owner) marks
marks_after marks (Add node owner parent) = insert_entry nat_cmp marks node.0 (new_mark owner parent.0)
marks_after marks (Drop node) = remove_entry (nat_eq node.0) marks
marks_after marks (Move node parent) = revise node.0 (with_parent parent.0) marks

-- what the operation does to the marks
abbrev pub meta_effect : Marks → MetaOp → Outcome MetaReply Marks
meta_effect marks op = outcome (meta_refusal marks op) (meta_reply marks op) (marks_after marks op)

-- the marks with the root alone, which `admin` owns
abbrev pub fresh_marks : Marks
fresh_marks = (root_number, new_mark (codes "admin") 0) ∷ []
