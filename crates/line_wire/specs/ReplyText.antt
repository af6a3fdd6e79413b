-- The line that a reply is written as, without its end (this project's own).
use Rattle.std.specs.Prelude.{ℕ, List, [], ◌∷◌, ◌++◌, codes}
use Rattle.std.specs.Fmt.{decimal}
use Rattle.std.specs.List.{flat_map}
use Rattle.line_text.specs.HexWord.{hex_word}
use Rattle.procap.specs.Procap.{procap_spelling}
use Rattle.access_history.specs.declared.reply.StepReply.{StepReply}
use Rattle.access_history.specs.declared.reply.StepReply.TheVariants as steps
use Rattle.line_wire.specs.declared.reply.LineReply.{LineReply}
use Rattle.line_wire.specs.declared.reply.LineReply.TheVariants as replies
use Rattle.line_wire.specs.CheckedText.{checked_text}
use Rattle.line_wire.specs.FaultText.{unproved_text, fault_text}
use Rattle.line_wire.specs.GateText.{denial_text, refused_text, rejection_text}
use Rattle.line_wire.specs.OperationText.{operation_text}

-- the number of an issue, and how many conditions on time and on the state its grant has
abbrev pub issue_text : ℕ → ℕ → ℕ → List ℕ
issue_text number times states = codes "ok issue " ++ (decimal number ++ (codes " time " ++ (decimal times ++ (codes " state " ++ decimal states))))

abbrev pub step_text : StepReply → List ℕ
step_text (steps.Statement number) = codes "ok statement " ++ decimal number
step_text steps.Withdrawn = codes "ok"
step_text (steps.Issue number times states) = issue_text number times states
step_text (steps.Procap p) = codes "ok procap " ++ hex_word (procap_spelling p)
step_text (steps.Operation reply) = operation_text reply
step_text (steps.Denied denial) = denial_text denial
step_text (steps.Refused refusal at) = refused_text refusal at
step_text (steps.Rejected rejection) = rejection_text rejection
step_text (steps.Absent number) = codes "absent " ++ decimal number

abbrev pub reply_text : LineReply → List ℕ
reply_text replies.Done = codes "ok"
reply_text (replies.Step step) = step_text step
reply_text (replies.Checked g) = checked_text g
reply_text (replies.Unproved fault) = unproved_text fault
reply_text (replies.Faulty fault) = fault_text fault
reply_text replies.TooLong = codes "bad 3"
reply_text replies.NotLoggedIn = codes "rejected 4"
reply_text replies.Checkpointed = codes "ok checkpoint"
reply_text replies.Full = codes "full"
reply_text replies.Stopped = codes "stopped"
reply_text replies.NoMemory = codes "nomemory"

-- each reply as a line, with its end
abbrev pub output_of : List LineReply → List ℕ
output_of answers = flat_map (λ reply. reply_text reply ++ 10 ∷ []) answers
