-- A connection stays within its limits.
use Rattle.std.proofs.Common.{◌≡◌, ◌∙◌, ℕ, List, length, Option, None, sym, ap, subst}
use Rattle.std.specs.Prelude.{ℤ}
use Rattle.bl_syntax.specs.declared.terms.NodeId.{NodeId}
use Rattle.pcfs_store.specs.Entries.{StoreEntry}
use Rattle.session_history.specs.declared.reply.TurnReply.{TurnReply}
use Rattle.session_history.specs.declared.reply.TurnReply.TheVariants as turn_replies
use Rattle.session_history.specs.Turn.{StorePass}
use Rattle.nine_messages.specs.Requests.{RequestView, twalk}
use Rattle.nine_messages.specs.Replies.{ReplyView}
use Rattle.nine_fids.specs.declared.connection.Connection.{Connection}
use Rattle.nine_fids.specs.declared.control.Control.{Control}
use Rattle.nine_fids.specs.declared.fid.FidFile.{FidFile}
use Rattle.nine_fids.specs.declared.step.Answer.{Answer}
use Rattle.nine_fids.specs.declared.step.Step.{Step}
use Rattle.nine_fids.specs.declared.step.Step.TheVariants as steps
use Rattle.nine_fids.specs.States.{IsWithin}
use Rattle.nine_fids.specs.Steps.{Outcome, decided}
use Rattle.nine_fids.specs.Walks.{walked}
use Rattle.nine_fids.proofs.LawLemmas.{within_decided, within_walked, walk_has_room}
use Rattle.nine_front.specs.Asking.{after_login, after_turn}
use Rattle.nine_front.specs.Placed.{MessagePlaced, refused, answered, in_a_turn, walks}
use Rattle.nine_front.specs.Placed as places

within_login : (s : Connection) (who : List ℕ) (replied : TurnReply) → IsWithin s → IsWithin (after_login s who replied)
within_login s who (turn_replies.Step reply) within = within
within_login s who (turn_replies.Cited cites) within = within
within_login s who turn_replies.LoggedIn within = record { procaps = within.procaps; numbers = within.numbers; least = within.least; most = within.most }
within_login s who turn_replies.Checkpointed within = within
within_login s who turn_replies.Full within = within
within_login s who turn_replies.Stopped within = within
within_login s who turn_replies.NoMemory within = within

within_turn : (s : Connection) (step : Step) (replied : TurnReply) → IsWithin s → IsWithin (after_turn s step replied)
within_turn s (steps.Refused error) replied within = within
within_turn s (steps.Answered answer) replied within = within
within_turn s (steps.Login who signature) replied within = within_login s who replied within
within_turn s (steps.Read node p offset len) replied within = within
within_turn s (steps.Write node p offset) replied within = within
within_turn s (steps.Walk node) replied within = within

within_answered : (s : Connection) (asked : Option Control) (m : RequestView) (answer : Answer) (after : Connection) → IsWithin s → decided s asked m ≡ (steps.Answered answer, after) → IsWithin after
within_answered s asked m answer after within is = subst IsWithin (ap (λ (o : Outcome). o.1) is) (within_decided s asked m within)

within_walk : (s : Connection) (m : RequestView) (fid newfid : ℕ) (names : List (List ℕ)) (node : NodeId) (found : List FidFile) → IsWithin s → m ≡ twalk fid newfid names → decided s None m ≡ (steps.Walk node, s) → IsWithin (walked s newfid (length names) found)
within_walk s m fid newfid names node found within same is =
    within_walked s newfid (length names) found within (walk_has_room s s None fid newfid names node (sym is ∙ ap (decided s None) same))

pub within_message : (gives : List StoreEntry → ℤ → Type 0) (p : StorePass) (history : List StoreEntry) (s : Connection) (from : ℕ) (m : RequestView) (reply : ReplyView) (after : Connection) (to : ℕ) (given : List StoreEntry) →
    IsWithin s → MessagePlaced gives p history from s m reply after to given → IsWithin after
within_message gives p history s from m _ _ _ _ within (refused asked error asks is) = within
within_message gives p history s from m _ _ _ _ within (answered asked answer after asks is) = within_answered s asked m answer after within is
within_message gives p history s from m _ _ _ _ within (in_a_turn asked step request replied reply to given asks is turns turn told) = within_turn s step replied within
within_message gives p history s from m _ _ _ _ within (walks fid newfid names node who found end to given same is caller walk) = within_walk s m fid newfid names node found within same is
within_message gives p history s from m _ _ _ _ within (places.without_memory may) = within
