-- The word that each reply begins with, by which a client tells apart what was done, denied,
-- refused and faulty (this project's own).
use Rattle.std.specs.Prelude.{ℕ, List, codes}
use Rattle.bl_tokens.specs.declared.faults.TextFault.{TextFault}
use Rattle.bl_tokens.specs.declared.faults.TextFault.TheVariants as texts
use Rattle.proof_verifier.specs.declared.fault.CheckFault.{CheckFault}
use Rattle.proof_verifier.specs.declared.fault.CheckFault.TheVariants as faults
use Rattle.line_forms.specs.declared.fault.LineFault.{LineFault}
use Rattle.line_forms.specs.declared.fault.LineFault.TheVariants as lines
use Rattle.access_history.specs.declared.reply.StepReply.{StepReply}
use Rattle.access_history.specs.declared.reply.StepReply.TheVariants as steps
use Rattle.line_wire.specs.declared.reply.LineReply.{LineReply}
use Rattle.line_wire.specs.declared.reply.LineReply.TheVariants as replies

abbrev pub step_word : StepReply → List ℕ
step_word (steps.Statement number) = codes "ok"
step_word steps.Withdrawn = codes "ok"
step_word (steps.Issue number times states) = codes "ok"
step_word (steps.Procap p) = codes "ok"
step_word (steps.Operation reply) = codes "ok"
step_word (steps.Denied denial) = codes "denied"
step_word (steps.Refused refusal at) = codes "refused"
step_word (steps.Rejected rejection) = codes "rejected"
step_word (steps.Absent number) = codes "absent"

abbrev pub unproved_word : CheckFault → List ℕ
unproved_word (faults.NoHypothesis node) = codes "unproved"
unproved_word (faults.WrongShape node) = codes "unproved"
unproved_word (faults.NotEntailed node) = codes "unproved"
unproved_word (faults.NotInState node) = codes "unproved"
unproved_word (faults.ViewTooWeak node) = codes "unproved"
unproved_word (faults.BadTerm node) = codes "unproved"
unproved_word (faults.TooManyConditions node) = codes "unproved"
unproved_word faults.NoMemory = codes "nomemory"

abbrev pub text_word : TextFault → List ℕ
text_word (texts.Unexpected at) = codes "bad"
text_word (texts.UnknownName at) = codes "bad"
text_word (texts.BadDate at) = codes "bad"
text_word (texts.Sort at) = codes "bad"
text_word (texts.TooLarge at) = codes "bad"
text_word texts.NoMemory = codes "nomemory"

abbrev pub fault_word : LineFault → List ℕ
fault_word (lines.BadWord place) = codes "bad"
fault_word lines.BadCount = codes "bad"
fault_word (lines.BadText fault) = text_word fault
fault_word lines.NoMemory = codes "nomemory"

-- only what was done begins with `ok`
abbrev pub reply_word : LineReply → List ℕ
reply_word replies.Done = codes "ok"
reply_word (replies.Step step) = step_word step
reply_word (replies.Checked g) = codes "ok"
reply_word (replies.Unproved fault) = unproved_word fault
reply_word (replies.Faulty fault) = fault_word fault
reply_word replies.TooLong = codes "bad"
reply_word replies.NotLoggedIn = codes "rejected"
reply_word replies.Checkpointed = codes "ok"
reply_word replies.Full = codes "full"
reply_word replies.Stopped = codes "stopped"
reply_word replies.NoMemory = codes "nomemory"
