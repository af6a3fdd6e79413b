-- How a line of a session is to be answered, from what was read.
use Rattle.std.proofs.Common.{◌≡◌, ℕ, List, Some, refl, sym, subst}
use Rattle.std.specs.Prelude.{◌≢◌}
use Rattle.line_forms.specs.declared.asked.Line.TheVariants as lines
use Rattle.line_forms.specs.declared.fault.LineFault.{LineFault}
use Rattle.line_forms.specs.declared.fault.LineFault.TheVariants as faults
use Rattle.line_forms.specs.declared.mode.Mode.TheVariants.{User}
use Rattle.line_forms.specs.Lines.{IsUnreadIn}
use Rattle.line_wire.specs.declared.guest_line.GuestLine.{GuestLine}
use Rattle.line_wire.specs.declared.guest_line.GuestLine.TheVariants as guests
use Rattle.line_wire.specs.declared.reply.LineReply.{LineReply}
use Rattle.line_wire.specs.declared.reply.LineReply.TheVariants as replies
use Rattle.line_wire.specs.Guest.{IsGuestLine, is_faulty, logs_in, is_rejected, without_memory}
use Rattle.session_history.specs.declared.request.TurnRequest.TheVariants.{Login}
use Rattle.session_history.specs.declared.task.LineTask.{LineTask}
use Rattle.session_history.specs.declared.task.LineTask.TheVariants as tasks
use Rattle.session_history.specs.SessionState.{SessionState, guest_with}
use Rattle.session_history.specs.Tasks.{IsTaskOf, faulty, read}

abbrev user_state : List ℕ → List ℕ → SessionState
user_state nonce who = record { nonce = nonce; caller = Some who }

pub task_faulty : (nonce who line : List ℕ) (fault : LineFault) (task : LineTask) → IsUnreadIn (User who) line fault → (task ≡ tasks.Reply (replies.Faulty fault)) × (fault ≢ faults.NoMemory) → IsTaskOf (user_state nonce who) line task
task_faulty nonce who line faults.NoMemory task unread told = absurd (told.1 refl)
task_faulty nonce who line (faults.BadWord place) task unread told = subst (IsTaskOf (user_state nonce who) line) (sym told.0) (faulty (faults.BadWord place) unread)
task_faulty nonce who line faults.BadCount task unread told = subst (IsTaskOf (user_state nonce who) line) (sym told.0) (faulty faults.BadCount unread)
task_faulty nonce who line (faults.BadText fault) task unread told = subst (IsTaskOf (user_state nonce who) line) (sym told.0) (faulty (faults.BadText fault) unread)

guest_reply : (nonce line : List ℕ) (g : GuestLine) (reply : LineReply) → g ≡ guests.Answered reply → reply ≢ replies.NoMemory → IsGuestLine line g → IsTaskOf (guest_with nonce) line (tasks.Reply reply)
guest_reply nonce line _ reply same some (is_faulty fault bad) = let is : replies.Faulty fault ≡ reply = cc in subst (λ (r : LineReply). IsTaskOf (guest_with nonce) line (tasks.Reply r)) is (faulty fault bad)
guest_reply nonce line _ reply same some (logs_in who signature is) = absurd cc
guest_reply nonce line _ reply same some (is_rejected command is) =
    let told : replies.NotLoggedIn ≡ reply = cc in subst (λ (r : LineReply). IsTaskOf (guest_with nonce) line (tasks.Reply r)) told (read (lines.Command command) (tasks.Reply replies.NotLoggedIn) is refl)
guest_reply nonce line _ reply same some without_memory = let told : replies.NoMemory ≡ reply = cc in absurd (some (sym told))

pub guest_told : (nonce line : List ℕ) (reply : LineReply) (task : LineTask) → (task ≡ tasks.Reply reply) × (reply ≢ replies.NoMemory) → IsGuestLine line (guests.Answered reply) → IsTaskOf (guest_with nonce) line task
guest_told nonce line reply task told is = subst (IsTaskOf (guest_with nonce) line) (sym told.0) (guest_reply nonce line (guests.Answered reply) reply refl told.1 is)

guest_login : (nonce line : List ℕ) (g : GuestLine) (who signature : List ℕ) → g ≡ guests.Login who signature → IsGuestLine line g → IsTaskOf (guest_with nonce) line (tasks.Turn (Login who nonce signature))
guest_login nonce line _ who signature same (is_faulty fault bad) = absurd cc
guest_login nonce line _ who signature same (logs_in person over is) =
    let name : person ≡ who = cc in
    let tag : over ≡ signature = cc in
    subst (λ (n : List ℕ). IsTaskOf (guest_with nonce) line (tasks.Turn (Login n nonce signature))) name
    (subst (λ (t : List ℕ). IsTaskOf (guest_with nonce) line (tasks.Turn (Login person nonce t))) tag (read (lines.Login person over) (tasks.Turn (Login person nonce over)) is refl))
guest_login nonce line _ who signature same (is_rejected command is) = absurd cc
guest_login nonce line _ who signature same without_memory = absurd cc

pub guest_logs_in : (nonce line who signature : List ℕ) (task : LineTask) → task ≡ tasks.Turn (Login who nonce signature) → IsGuestLine line (guests.Login who signature) → IsTaskOf (guest_with nonce) line task
guest_logs_in nonce line who signature task told is = subst (IsTaskOf (guest_with nonce) line) (sym told) (guest_login nonce line (guests.Login who signature) who signature refl is)
