-- What the words of a line ask for (this project's own).
use Rattle.bl_syntax.specs.declared.grant.Goal.{Goal}
use Rattle.file_world.specs.declared.operation.Op.{Op}
use Rattle.file_world.specs.declared.operation.Op.TheVariants as ops
use Rattle.line_words.specs.declared.arguments.Arguments.{Arguments}
use Rattle.line_forms.specs.declared.forms.Operation.{Operation}
use Rattle.line_forms.specs.declared.forms.Operation.TheVariants.{Read, Write, Truncate, List as ListOf, Lookup, Create, Mkdir, Unlink, Rename, Getattr, Setattr, Delattr, Chown}

-- the operation with its arguments
abbrev pub op_of : Operation → Arguments → Op
op_of Read a = ops.Read a.node a.offset a.len
op_of Write a = ops.Write a.node a.offset a.bytes
op_of Truncate a = ops.Truncate a.node a.len
op_of ListOf a = ops.List a.node
op_of Lookup a = ops.Lookup a.node a.name
op_of Create a = ops.Create a.node a.name
op_of Mkdir a = ops.Mkdir a.node a.name
op_of Unlink a = ops.Unlink a.node a.name
op_of Rename a = ops.Rename a.node a.name a.target a.new_name
op_of Getattr a = ops.Getattr a.node a.name
op_of Setattr a = ops.Setattr a.node a.name a.value
op_of Delattr a = ops.Delattr a.node a.name
op_of Chown a = ops.Chown a.node a.who

-- the goal of a proof
abbrev pub written_goal : Arguments → Goal
written_goal a = record { who = a.who; file = a.node; perm = a.perm }
