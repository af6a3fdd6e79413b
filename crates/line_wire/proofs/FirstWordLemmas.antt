-- A reply begins with its word: the space after it, or the end of the reply, ends the first word.
use Rattle.std.proofs.Common.{◌≡◌, [], ◌∷◌, codes, refl}
use Rattle.bl_tokens.specs.declared.faults.TextFault.{TextFault}
use Rattle.bl_tokens.specs.declared.faults.TextFault.TheVariants as texts
use Rattle.proof_verifier.specs.declared.fault.CheckFault.{CheckFault}
use Rattle.proof_verifier.specs.declared.fault.CheckFault.TheVariants as faults
use Rattle.file_world.specs.declared.reply.TreeReply.{TreeReply}
use Rattle.file_world.specs.declared.reply.TreeReply.TheVariants as trees
use Rattle.file_world.specs.declared.reply.MetaReply.{MetaReply}
use Rattle.file_world.specs.declared.reply.MetaReply.TheVariants as metas
use Rattle.file_world.specs.declared.reply.OpReply.{OpReply}
use Rattle.file_world.specs.declared.reply.OpReply.TheVariants.{Tree, Meta}
use Rattle.line_words.specs.Cutting.{first_cut}
use Rattle.line_forms.specs.declared.fault.LineFault.{LineFault}
use Rattle.line_forms.specs.declared.fault.LineFault.TheVariants as lines
use Rattle.access_history.specs.declared.reply.Rejection.{Rejection}
use Rattle.access_history.specs.declared.reply.Rejection.TheVariants.{BadSignature, RegistryFull, Duplicate}
use Rattle.access_history.specs.declared.reply.StepReply.{StepReply}
use Rattle.access_history.specs.declared.reply.StepReply.TheVariants as steps
use Rattle.line_wire.specs.declared.reply.LineReply.{LineReply}
use Rattle.line_wire.specs.declared.reply.LineReply.TheVariants as replies
use Rattle.line_wire.specs.FirstWord.{step_word, unproved_word, text_word, fault_word, reply_word}
use Rattle.line_wire.specs.FaultText.{unproved_text, bad_text_text, fault_text}
use Rattle.line_wire.specs.GateText.{rejection_text}
use Rattle.line_wire.specs.OperationText.{tree_text, attribute_text, operation_text}
use Rattle.line_wire.specs.ReplyText.{step_text, reply_text}

tree_first : (reply : TreeReply) → (first_cut (tree_text reply)).word ≡ codes "ok"
tree_first trees.Done = refl
tree_first (trees.Bytes bytes) = refl
tree_first (trees.Names []) = refl
tree_first (trees.Names (name ∷ names)) = refl
tree_first (trees.Node node) = refl

attribute_first : (reply : MetaReply) → (first_cut (attribute_text reply)).word ≡ codes "ok"
attribute_first metas.Done = refl
attribute_first (metas.Text value) = refl

operation_first : (reply : OpReply) → (first_cut (operation_text reply)).word ≡ codes "ok"
operation_first (Tree reply) = tree_first reply
operation_first (Meta reply) = attribute_first reply

rejection_first : (rejection : Rejection) → (first_cut (rejection_text rejection)).word ≡ codes "rejected"
rejection_first BadSignature = refl
rejection_first RegistryFull = refl
rejection_first (Duplicate number) = refl

step_first : (step : StepReply) → (first_cut (step_text step)).word ≡ step_word step
step_first (steps.Statement number) = refl
step_first steps.Withdrawn = refl
step_first (steps.Issue number times states) = refl
step_first (steps.Procap p) = refl
step_first (steps.Operation reply) = operation_first reply
step_first (steps.Denied denial) = refl
step_first (steps.Refused refusal at) = refl
step_first (steps.Rejected rejection) = rejection_first rejection
step_first (steps.Absent number) = refl

unproved_first : (fault : CheckFault) → (first_cut (unproved_text fault)).word ≡ unproved_word fault
unproved_first (faults.NoHypothesis node) = refl
unproved_first (faults.WrongShape node) = refl
unproved_first (faults.NotEntailed node) = refl
unproved_first (faults.NotInState node) = refl
unproved_first (faults.ViewTooWeak node) = refl
unproved_first (faults.BadTerm node) = refl
unproved_first (faults.TooManyConditions node) = refl
unproved_first faults.NoMemory = refl

text_first : (fault : TextFault) → (first_cut (bad_text_text fault)).word ≡ text_word fault
text_first (texts.Unexpected at) = refl
text_first (texts.UnknownName at) = refl
text_first (texts.BadDate at) = refl
text_first (texts.Sort at) = refl
text_first (texts.TooLarge at) = refl
text_first texts.NoMemory = refl

fault_first : (fault : LineFault) → (first_cut (fault_text fault)).word ≡ fault_word fault
fault_first (lines.BadWord place) = refl
fault_first lines.BadCount = refl
fault_first (lines.BadText fault) = text_first fault
fault_first lines.NoMemory = refl

pub reply_first : (reply : LineReply) → (first_cut (reply_text reply)).word ≡ reply_word reply
reply_first replies.Done = refl
reply_first (replies.Step step) = step_first step
reply_first (replies.Checked g) = refl
reply_first (replies.Unproved fault) = unproved_first fault
reply_first (replies.Faulty fault) = fault_first fault
reply_first replies.TooLong = refl
reply_first replies.NotLoggedIn = refl
reply_first replies.Checkpointed = refl
reply_first replies.Full = refl
reply_first replies.Stopped = refl
reply_first replies.NoMemory = refl
