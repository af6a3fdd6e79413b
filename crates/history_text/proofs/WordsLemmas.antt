-- The words of an operation that writes nothing.
use Rattle.std.proofs.Common.{◌≡◌, ℕ, List, [], refl}
use Rattle.bl_syntax.specs.declared.terms.NodeId.{NodeId}
use Rattle.file_world.specs.declared.operation.Op.{Op}
use Rattle.file_world.specs.declared.operation.Op.TheVariants as ops
use Rattle.line_forms.specs.declared.command.Command.TheVariants.{Do}
use Rattle.line_writing.specs.LineTexts.{command_text}
use Rattle.history_text.specs.Words.{operation_words}

-- it stands as it was asked for
pub operation_other : (op : Op) → ((node : NodeId) (offset : ℕ) (bytes : List ℕ) → op ≡ ops.Write node offset bytes → ⊥) → command_text (Do op []) ≡ operation_words op
operation_other (ops.Read node offset len) not = refl
operation_other (ops.Write node offset bytes) not = absurd (not node offset bytes refl)
operation_other (ops.Truncate node len) not = refl
operation_other (ops.List node) not = refl
operation_other (ops.Lookup node name) not = refl
operation_other (ops.Create node name) not = refl
operation_other (ops.Mkdir node name) not = refl
operation_other (ops.Unlink node name) not = refl
operation_other (ops.Rename node name target new_name) not = refl
operation_other (ops.Getattr node name) not = refl
operation_other (ops.Setattr node name value) not = refl
operation_other (ops.Delattr node name) not = refl
operation_other (ops.Chown node who) not = refl
