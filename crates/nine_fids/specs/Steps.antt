-- What a request comes to: it is refused, or answered at once, or a turn at the store is taken for
-- it, or one for each name of a walk (this project's own).
use Rattle.std.specs.Prelude.{◌-◌, ℕ, List, [], ◌∷◌, ◌++◌, length, take, codes, Bool, true, ◌||◌, ◌==◌, min, if◌then◌else◌, Option, Some, None}
use Rattle.std.specs.Str.{bytes_eq}
use Rattle.nine_messages.specs.declared.framing.TheConstants.{MOST_SIZE}
use Rattle.bl_syntax.specs.declared.terms.NodeId.{NodeId}
use Rattle.bl_syntax.specs.declared.terms.Perm.TheVariants as perms
use Rattle.procap.specs.declared.procap.Procap.{Procap}
use Rattle.nine_messages.specs.Requests.{RequestView, tversion, tattach, tflush, twalk, topen, tread, twrite, tclunk, tother}
use Rattle.nine_messages.specs.Replies.{ReplyView, rversion, rattach, rflush, rwalk, ropen, rread, rwrite, rclunk}
use Rattle.nine_fids.specs.declared.error.NineError.{NineError}
use Rattle.nine_fids.specs.declared.error.NineError.TheVariants as errors
use Rattle.nine_fids.specs.declared.fid.FidFile.{FidFile}
use Rattle.nine_fids.specs.declared.fid.FidFile.TheVariants as files
use Rattle.nine_fids.specs.declared.fid.Fid.{Fid}
use Rattle.nine_fids.specs.declared.control.Control.{Control}
use Rattle.nine_fids.specs.declared.control.Control.TheVariants as controls
use Rattle.nine_fids.specs.declared.step.Answer.{Answer}
use Rattle.nine_fids.specs.declared.step.Answer.TheVariants as answers
use Rattle.nine_fids.specs.declared.step.Step.{Step}
use Rattle.nine_fids.specs.declared.step.Step.TheVariants as steps
use Rattle.nine_fids.specs.declared.connection.Connection.{Connection}
use Rattle.nine_fids.specs.Errors.{first_holding, Tests}
use Rattle.nine_fids.specs.Files.{qid_of, closed, mode_of}
use Rattle.nine_fids.specs.Nonce.{greeting}
use Rattle.nine_fids.specs.States.{fid_at, with_fid, without_fid}
use Rattle.nine_fids.specs.Tests.{fitting_of, has_names, tests_of}

-- ---- replies that need no turn

-- the version that is served, alone or before a dot
abbrev pub is_served : List ℕ → Bool
is_served version = bytes_eq version (codes "9P2000") || bytes_eq (take 7 version) (codes "9P2000.")

abbrev pub version_text : Bool → List ℕ
version_text served = if served then codes "9P2000" else codes "unknown"

abbrev pub answer_view : List ℕ → Answer → ReplyView
answer_view nonce (answers.Version msize served) = rversion msize (version_text served)
answer_view nonce (answers.Attach qid) = rattach qid
answer_view nonce answers.Flush = rflush
answer_view nonce answers.Walk = rwalk []
answer_view nonce (answers.Open qid) = ropen qid
answer_view nonce (answers.Greeting count) = rread (take count (greeting nonce))
answer_view nonce (answers.Written count) = rwrite count
answer_view nonce answers.Clunk = rclunk

-- ---- what is done, and the state after it

abbrev pub Outcome : Type 0
Outcome = Step × Connection

-- the state stays
abbrev pub refused : Connection → NineError → Outcome
refused s error = (steps.Refused error, s)

-- the reply, and the state after it
abbrev pub answered : Answer → Connection → Outcome
answered answer after = (steps.Answered answer, after)

-- the error of the first test that holds, or what is done if none does
abbrev pub unless_refused : Connection → Option NineError → Outcome → Outcome
unless_refused s (Some error) outcome = refused s error
unless_refused s None outcome = outcome

abbrev pub tested : Connection → Tests → Outcome → Outcome
tested s tests outcome = unless_refused s (first_holding tests) outcome

-- ---- each kind of request, if no test refuses it

-- all fids go, whatever the version
abbrev pub version_outcome : Connection → ℕ → List ℕ → Outcome
version_outcome s msize version = answered (answers.Version (min msize MOST_SIZE) (is_served version))
    (record s { is_agreed = is_served version; msize = min msize MOST_SIZE; fids = [] })

abbrev pub root_file : FidFile
root_file = files.Node (record { 0 = 1 }) true

abbrev pub file_named : List ℕ → FidFile
file_named aname = if bytes_eq aname [] then root_file else files.Control

abbrev pub attach_file : Connection → ℕ → FidFile → Outcome
attach_file s fid file = answered (answers.Attach (qid_of file)) (with_fid s fid (closed file))

abbrev pub attach_outcome : Connection → ℕ → List ℕ → Outcome
attach_outcome s fid aname = attach_file s fid (file_named aname)

-- a walk without names makes the new fid stand for the same file
abbrev pub walk_nowhere : Connection → ℕ → ℕ → FidFile → Outcome
walk_nowhere s fid newfid file = answered answers.Walk (if fid == newfid then s else with_fid s newfid (closed file))

abbrev pub walk_names : FidFile → Step
walk_names files.Control = steps.Refused errors.NoControl
walk_names (files.Node node is_directory) = steps.Walk node

abbrev pub walk_from : Connection → ℕ → ℕ → List (List ℕ) → FidFile → Outcome
walk_from s fid newfid names file = if has_names names then (walk_names file, s) else walk_nowhere s fid newfid file

abbrev pub at_fid : Connection → Option Fid → (FidFile → Outcome) → Outcome
at_fid s None outcome = refused s errors.NoFid
at_fid s (Some fid) outcome = outcome fid.file

abbrev pub walk_outcome : Connection → ℕ → ℕ → List (List ℕ) → Outcome
walk_outcome s fid newfid names = at_fid s (fid_at s fid) (walk_from s fid newfid names)

abbrev pub open_file : Connection → ℕ → ℕ → FidFile → Outcome
open_file s fid mode file =
    answered (answers.Open (qid_of file)) (with_fid s fid (record { file = file; mode = Some (mode_of mode) }))

abbrev pub open_outcome : Connection → ℕ → ℕ → Outcome
open_outcome s fid mode = at_fid s (fid_at s fid) (open_file s fid mode)

-- a turn with the first procap that fits
abbrev pub with_procap : Connection → Option Procap → (Procap → Step) → Outcome
with_procap s None step = refused s errors.NoProcap
with_procap s (Some p) step = (step p, s)

-- at most so many bytes are read at once
abbrev pub read_len : ℕ → ℕ → ℕ
read_len msize count = min count (min MOST_SIZE (msize - 11))

abbrev pub read_node : Connection → ℕ → ℕ → NodeId → Outcome
read_node s offset count node =
    with_procap s (fitting_of s s.caller node perms.Read) (λ p. steps.Read node p offset (read_len s.msize count))

abbrev pub read_file : Connection → ℕ → ℕ → FidFile → Outcome
read_file s offset count files.Control = answered (answers.Greeting count) s
read_file s offset count (files.Node node is_directory) = read_node s offset count node

abbrev pub read_outcome : Connection → ℕ → ℕ → ℕ → Outcome
read_outcome s fid offset count = at_fid s (fid_at s fid) (read_file s offset count)

-- what a line of the control file does, which was written by so many bytes
abbrev pub control_done : Connection → ℕ → Control → Outcome
control_done s count (controls.Login who signature) = (steps.Login who signature, s)
control_done s count (controls.Brings p) = answered (answers.Written count) (record s { purse = s.purse ++ p ∷ [] })
control_done s count controls.Empties = answered (answers.Written count) (record s { purse = [] })

abbrev pub control_outcome : Connection → ℕ → Option Control → Outcome
control_outcome s count None = refused s errors.NoControl
control_outcome s count (Some c) = control_done s count c

abbrev pub write_node : Connection → ℕ → NodeId → Outcome
write_node s offset node = with_procap s (fitting_of s s.caller node perms.Write) (λ p. steps.Write node p offset)

abbrev pub write_file : Connection → Option Control → ℕ → ℕ → FidFile → Outcome
write_file s asked offset count files.Control = control_outcome s count asked
write_file s asked offset count (files.Node node is_directory) = write_node s offset node

abbrev pub write_outcome : Connection → Option Control → ℕ → ℕ → ℕ → Outcome
write_outcome s asked fid offset count = at_fid s (fid_at s fid) (write_file s asked offset count)

unfoldable pub outcome_of : Connection → Option Control → RequestView → Outcome
outcome_of s asked (tversion msize version) = version_outcome s msize version
outcome_of s asked (tattach fid afid uname aname) = attach_outcome s fid aname
outcome_of s asked (tflush oldtag) = answered answers.Flush s
outcome_of s asked (twalk fid newfid names) = walk_outcome s fid newfid names
outcome_of s asked (topen fid mode) = open_outcome s fid mode
outcome_of s asked (tread fid offset count) = read_outcome s fid offset count
outcome_of s asked (twrite fid offset bytes) = write_outcome s asked fid offset (length bytes)
outcome_of s asked (tclunk fid) = answered answers.Clunk (without_fid s fid)
outcome_of s asked (tother kind body) = refused s errors.NotServed

-- what a request comes to, given what it asks of the control file
abbrev pub decided : Connection → Option Control → RequestView → Outcome
decided s asked m = tested s (tests_of s asked m) (outcome_of s asked m)
