-- What an event is, in words (this project's own).
use Rattle.std.specs.Prelude.{ℕ, ◌+◌, List, [], ◌++◌, length, codes, Option, Some, None}
use Rattle.std.specs.Fmt.{decimal}
use Rattle.bl_syntax.specs.declared.terms.NodeId.{NodeId}
use Rattle.bl_syntax.specs.Grant.{GrantView}
use Rattle.bl_syntax.specs.Statement.{StatementView}
use Rattle.bl_text.specs.Printed.{permission_text, statement_text}
use Rattle.policy_statement.specs.Registry.{statement_of_number}
use Rattle.file_world.specs.declared.operation.Op.{Op}
use Rattle.file_world.specs.declared.operation.Op.TheVariants.{Write}
use Rattle.line_forms.specs.declared.command.Command.TheVariants.{Do}
use Rattle.line_writing.specs.LineTexts.{command_text}
use Rattle.journal_records.specs.declared.event.Event.{Event}
use Rattle.journal_records.specs.declared.event.Event.TheVariants.{Registered, Withdrawn, Issued, Acted}
use Rattle.access_history.specs.Base.{BaseView}

-- an operation as it was asked for, without its procaps; of what is written into a file, how many
-- bytes it is
abbrev pub operation_words : Op → List ℕ
operation_words (Write node offset bytes) = codes "do write #"
    ++ (decimal node.0 ++ (codes " "
    ++ (decimal offset ++ (codes " bytes " ++ decimal (length bytes)))))
operation_words op = command_text (Do op [])

-- a statement after a space, if there is one
abbrev pub spaced_statement : Option StatementView → List ℕ
spaced_statement None = []
spaced_statement (Some s) = codes " " ++ statement_text s

abbrev pub node_text : Option NodeId → List ℕ
node_text None = []
node_text (Some node) = codes " node #" ++ decimal node.0

abbrev pub goal_words : GrantView → List ℕ
goal_words g = codes "verify #" ++ (decimal g.goal.file.0 ++ (codes " " ++ permission_text g.goal.perm))

-- what an event is, over the state before it, which makes that node
abbrev pub words_text : BaseView → Event → Option NodeId → List ℕ
words_text state (Registered pass s signature) about = codes "register " ++ (decimal (length state.statements + 1) ++ (codes " " ++ statement_text s))
words_text state (Withdrawn pass number signature) about = codes "withdraw "
    ++ (decimal number ++ spaced_statement (statement_of_number state.statements number))
words_text state (Issued pass cited proof g) about = goal_words g
words_text state (Acted pass caller op procaps moment) about = operation_words op ++ node_text about
