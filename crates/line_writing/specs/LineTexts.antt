-- The line that is written for what a line asks for, without its end (this project's own).
use Rattle.std.specs.Prelude.{ℕ, List, ◌++◌, codes}
use Rattle.std.specs.Fmt.{decimal, signed_decimal}
use Rattle.bl_syntax.specs.declared.grant.Goal.{Goal}
use Rattle.bl_syntax.specs.declared.terms.NodeId.{NodeId}
use Rattle.bl_text.specs.Printed.{statement_text}
use Rattle.file_world.specs.declared.operation.Op.{Op}
use Rattle.file_world.specs.declared.operation.Op.TheVariants as ops
use Rattle.line_text.specs.HexWord.{hex_word}
use Rattle.proof_term.specs.Proof.{ProofView}
use Rattle.proof_text.specs.Printed.{proof_text}
use Rattle.line_forms.specs.declared.command.Command.{Command}
use Rattle.line_forms.specs.declared.command.Command.TheVariants.{At, As, Register, Withdraw, Procap, Checkpoint, Verify, Check, Do}
use Rattle.line_forms.specs.declared.asked.Line.{Line}
use Rattle.line_forms.specs.declared.asked.Line.TheVariants as lines
use Rattle.line_writing.specs.WordTexts.{cited_text, signature_text, procaps_text, goal_text}

-- words, a node and a name, before the rest of a line
abbrev pub named_text : List ℕ → NodeId → List ℕ → List ℕ → List ℕ
named_text words node name rest = words ++ (decimal node.0 ++ (codes " " ++ (name ++ rest)))

-- a value between quotes, before the rest of a line
abbrev pub value_text : List ℕ → List ℕ → List ℕ
value_text value rest = codes " \"" ++ (value ++ (codes "\"" ++ rest))

-- the name of an operation and its words, before the rest of a line
abbrev pub operation_text : Op → List ℕ → List ℕ
operation_text (ops.Read node offset len) rest = codes "read #" ++ (decimal node.0 ++ (codes " " ++ (decimal offset ++ (codes " " ++ (decimal len ++ rest)))))
operation_text (ops.Write node offset bytes) rest = codes "write #"
    ++ (decimal node.0 ++ (codes " "
    ++ (decimal offset ++ (codes " " ++ (hex_word bytes ++ rest)))))
operation_text (ops.Truncate node len) rest = codes "truncate #" ++ (decimal node.0 ++ (codes " " ++ (decimal len ++ rest)))
operation_text (ops.List node) rest = codes "list #" ++ (decimal node.0 ++ rest)
operation_text (ops.Lookup node name) rest = named_text (codes "lookup #") node name rest
operation_text (ops.Create node name) rest = named_text (codes "create #") node name rest
operation_text (ops.Mkdir node name) rest = named_text (codes "mkdir #") node name rest
operation_text (ops.Unlink node name) rest = named_text (codes "unlink #") node name rest
operation_text (ops.Rename node name target new_name) rest = named_text (codes "rename #") node name (named_text (codes " #") target new_name rest)
operation_text (ops.Getattr node name) rest = named_text (codes "getattr #") node name rest
operation_text (ops.Setattr node name value) rest = named_text (codes "setattr #") node name (value_text value rest)
operation_text (ops.Delattr node name) rest = named_text (codes "delattr #") node name rest
operation_text (ops.Chown node who) rest = codes "chown #" ++ (decimal node.0 ++ (codes " " ++ (who ++ rest)))

-- a goal, the numbers of the statements that its proof cites, and the proof
abbrev pub cited_goal_text : Goal → List ℕ → ProofView → List ℕ
cited_goal_text goal numbers proof = goal_text goal (codes " " ++ (cited_text numbers ++ (codes " " ++ proof_text proof)))

abbrev pub command_text : Command → List ℕ
command_text (At second) = codes "at " ++ signed_decimal second
command_text (As who) = codes "as " ++ who
command_text (Register signature statement) = codes "register " ++ (signature_text signature ++ (codes " " ++ statement_text statement))
command_text (Withdraw number signature) = codes "withdraw " ++ (decimal number ++ (codes " " ++ signature_text signature))
command_text (Procap number) = codes "procap " ++ decimal number
command_text Checkpoint = codes "checkpoint"
command_text (Verify goal numbers proof) = codes "verify " ++ cited_goal_text goal numbers proof
command_text (Check goal numbers proof) = codes "check " ++ cited_goal_text goal numbers proof
command_text (Do op procaps) = codes "do " ++ operation_text op (procaps_text procaps)

-- the line that asks for this
abbrev pub asked_text : Line → List ℕ
asked_text (lines.Command command) = command_text command
asked_text (lines.Login who signature) = codes "login " ++ (who ++ (codes " " ++ hex_word signature))
asked_text (lines.Statement statement) = codes "statement " ++ statement_text statement
asked_text (lines.Goal goal proof) = codes "goal " ++ goal_text goal (codes " " ++ proof_text proof)
