-- A request asks one thing, and one turn; and what a turn replies is told in one way.
use Rattle.std.proofs.Common.{◌≡◌, ◌∙◌, ℕ, List, Bool, true, false, Option, Some, sym, ap}
use Rattle.file_world.specs.declared.operation.Op.{Op}
use Rattle.file_world.specs.declared.operation.Op.TheVariants as operations
use Rattle.procap.specs.declared.procap.Procap.{Procap}
use Rattle.session_history.specs.declared.request.TurnRequest.{TurnRequest}
use Rattle.session_history.specs.declared.reply.TurnReply.{TurnReply}
use Rattle.session_history.specs.declared.reply.TurnReply.TheVariants as turn_replies
use Rattle.nine_messages.specs.Requests.{RequestView, tversion, tattach, tflush, twalk, topen, tread, twrite, tclunk, tother}
use Rattle.nine_messages.specs.Replies.{ReplyView}
use Rattle.nine_fids.specs.declared.connection.Connection.{Connection}
use Rattle.nine_fids.specs.declared.control.Control.{Control}
use Rattle.nine_fids.specs.declared.step.Step.{Step}
use Rattle.nine_fids.specs.declared.step.Step.TheVariants as steps
use Rattle.nine_fids.specs.States.{fid_at}
use Rattle.nine_fids.specs.Tests.{IsAskedIf, IsAskedBy, takes_lines}
use Rattle.nine_fids.proofs.ControlLemmas.{asked_once}
use Rattle.nine_front.specs.Asking.{bytes_of, act_of, IsAct, IsTurnOf, IsReplyTo}

asked_if_once : (is_control : Bool) (bytes : List ℕ) (asked other : Option Control) → IsAskedIf is_control bytes asked → IsAskedIf is_control bytes other → asked ≡ other
asked_if_once true bytes asked other one two = asked_once bytes asked other one two
asked_if_once false bytes asked other one two = one ∙ sym two

pub asked_by_once : (s : Connection) (m : RequestView) (asked other : Option Control) → IsAskedBy s m asked → IsAskedBy s m other → asked ≡ other
asked_by_once s (tversion msize version) asked other one two = one ∙ sym two
asked_by_once s (tattach fid afid uname aname) asked other one two = one ∙ sym two
asked_by_once s (tflush oldtag) asked other one two = one ∙ sym two
asked_by_once s (twalk fid newfid names) asked other one two = one ∙ sym two
asked_by_once s (topen fid mode) asked other one two = one ∙ sym two
asked_by_once s (tread fid offset count) asked other one two = one ∙ sym two
asked_by_once s (twrite fid offset bytes) asked other one two = asked_if_once (takes_lines s.is_agreed (fid_at s fid)) bytes asked other one two
asked_by_once s (tclunk fid) asked other one two = one ∙ sym two
asked_by_once s (tother kind body) asked other one two = one ∙ sym two

act_once : (s : Connection) (op : Op) (p : Procap) (request other : TurnRequest) → IsAct s op p request → IsAct s op p other → request ≡ other
act_once s op p request other one two =
    let both : Some one.0 ≡ Some two.0 = sym one.1 ∙ two.1 in
    let same : one.0 ≡ two.0 = cc in
    one.2 ∙ ap (λ (who : List ℕ). act_of who op p) same ∙ sym two.2

pub turn_once : (s : Connection) (m : RequestView) (step : Step) (request other : TurnRequest) → IsTurnOf s m step request → IsTurnOf s m step other → request ≡ other
turn_once s m (steps.Refused error) request other one two = absurd one
turn_once s m (steps.Answered answer) request other one two = absurd one
turn_once s m (steps.Login who signature) request other one two = one ∙ sym two
turn_once s m (steps.Read node p offset len) request other one two = act_once s (operations.Read node offset len) p request other one two
turn_once s m (steps.Write node p offset) request other one two = act_once s (operations.Write node offset (bytes_of m)) p request other one two
turn_once s m (steps.Walk node) request other one two = absurd one

pub reply_once : (count : ℕ) (replied : TurnReply) (reply other : ReplyView) → IsReplyTo count replied reply → IsReplyTo count replied other → reply ≡ other
reply_once count (turn_replies.Step answer) reply other one two = one ∙ sym two
reply_once count (turn_replies.Cited cites) reply other one two = absurd one
reply_once count turn_replies.LoggedIn reply other one two = one ∙ sym two
reply_once count turn_replies.Checkpointed reply other one two = one ∙ sym two
reply_once count turn_replies.Full reply other one two = one ∙ sym two
reply_once count turn_replies.Stopped reply other one two = one ∙ sym two
reply_once count turn_replies.NoMemory reply other one two = one ∙ sym two
