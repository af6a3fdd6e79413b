-- It is told that the store is stopped only if a mark is among the entries up to the place.
use Rattle.std.proofs.Common.{◌≡◌, ◌∙◌, ◌+◌, ℕ, List, [], ◌∷◌, ◌++◌, length, take, true, Option, None, refl, sym, ap, codes, append_assoc, length-append}
use Rattle.std.specs.Prelude.{ℤ}
use Rattle.std.proofs.Math.Seq.{take-append_seam}
use Rattle.bl_syntax.specs.declared.terms.NodeId.{NodeId}
use Rattle.procap.specs.declared.procap.Procap.{Procap}
use Rattle.line_wire.specs.declared.reply.LineReply.{LineReply}
use Rattle.line_wire.specs.ReplyText.{reply_text}
use Rattle.pcfs_store.specs.Entries.{StoreEntry}
use Rattle.session_history.specs.Passes.{has_stop}
use Rattle.session_history.specs.declared.request.TurnRequest.{TurnRequest}
use Rattle.session_history.specs.declared.reply.TurnReply.{TurnReply}
use Rattle.session_history.specs.declared.reply.TurnReply.TheVariants as turn_replies
use Rattle.session_history.specs.Turn.{StorePass, TurnPlaced}
use Rattle.session_history.specs.Placed.{IsReplyOf}
use Rattle.session_history.proofs.StopLemmas.{stop_there}
use Rattle.nine_messages.specs.Requests.{RequestView}
use Rattle.nine_messages.specs.Replies.{ReplyView, rwrite}
use Rattle.nine_fids.specs.declared.connection.Connection.{Connection}
use Rattle.nine_fids.specs.declared.error.NineError.TheVariants as errors
use Rattle.nine_fids.specs.declared.fid.FidFile.{FidFile}
use Rattle.nine_fids.specs.declared.fid.FidFile.TheVariants as files
use Rattle.nine_front.specs.Asking.{bytes_of, IsReplyTo}
use Rattle.nine_front.specs.Placed.{WalksPlaced, all_found, goes_on, no_procap, walk_reply, MessagePlaced, refused, answered, in_a_turn, walks}
use Rattle.nine_front.specs.Placed as places
use Rattle.nine_front.specs.Said.{IsStopped}
use Rattle.nine_front.proofs.WordLemmas.{stopped_apart, text_in, not_it, no_step_text, no_error, no_text, no_answer, no_step}

abbrev word : List ℕ
word = codes "stopped"

-- a turn that is told so replies so
pub stopped_reply : (count : ℕ) (replied : TurnReply) (reply : ReplyView) → IsReplyTo count replied reply → IsStopped reply → replied ≡ turn_replies.Stopped
stopped_reply count (turn_replies.Step answer) reply told is = absurd (no_step word stopped_apart count answer (sym told ∙ is))
stopped_reply count (turn_replies.Cited cites) reply told is = absurd told
stopped_reply count turn_replies.LoggedIn reply told is = absurd (no_text word stopped_apart (rwrite count) refl (sym told ∙ is))
stopped_reply count turn_replies.Checkpointed reply told is = absurd (not_it word stopped_apart (codes "ok checkpoint") refl (ap text_in (sym told ∙ is)))
stopped_reply count turn_replies.Full reply told is = absurd (not_it word stopped_apart (codes "full") refl (ap text_in (sym told ∙ is)))
stopped_reply count turn_replies.Stopped reply told is = refl
stopped_reply count turn_replies.NoMemory reply told is = absurd (not_it word stopped_apart (codes "nomemory") refl (ap text_in (sym told ∙ is)))

-- and so does one of a walk
pub stopped_line : (replied : TurnReply) (line : LineReply) → IsReplyOf replied line → reply_text line ≡ codes "stopped" → replied ≡ turn_replies.Stopped
stopped_line (turn_replies.Step answer) line told is = absurd (no_step_text word stopped_apart answer (ap reply_text (sym told) ∙ is))
stopped_line (turn_replies.Cited cites) line told is = absurd told
stopped_line turn_replies.LoggedIn line told is = absurd (not_it word stopped_apart (codes "ok") refl (ap reply_text (sym told) ∙ is))
stopped_line turn_replies.Checkpointed line told is = absurd (not_it word stopped_apart (codes "ok checkpoint") refl (ap reply_text (sym told) ∙ is))
stopped_line turn_replies.Full line told is = absurd (not_it word stopped_apart (codes "full") refl (ap reply_text (sym told) ∙ is))
stopped_line turn_replies.Stopped line told is = refl
stopped_line turn_replies.NoMemory line told is = absurd (not_it word stopped_apart (codes "nomemory") refl (ap reply_text (sym told) ∙ is))

-- ---- in a history

module _ (gives : List StoreEntry → ℤ → Type 0) (p : StorePass) (history : List StoreEntry) where
  -- the entries up to where a turn came
  front_of : (before given after : List StoreEntry) (to : ℕ) → history ≡ before ++ (given ++ after) → to ≡ length before + length given → take to history ≡ before ++ given
  front_of before given after to parts place =
      ap (take to) (parts ∙ sym (append_assoc before given after)) ∙ ap (λ (n : ℕ). take n ((before ++ given) ++ after)) (place ∙ sym (length-append before given)) ∙ take-append_seam (before ++ given) after

  turn_stopped : (from : ℕ) (request : TurnRequest) (reply : TurnReply) (to : ℕ) (given : List StoreEntry) → TurnPlaced gives p history from request reply to given → reply ≡ turn_replies.Stopped → has_stop (take to history) ≡ true
  turn_stopped from request reply to given t is = ap has_stop (front_of t.before given t.after to t.parts t.place) ∙ stop_there gives p t.before request reply given t.turn is

  walk_stopped : (purse : List Procap) (who : List ℕ) (from : ℕ) (node : NodeId) (names : List (List ℕ)) (found : List FidFile) (end : Option (List ℕ)) (to : ℕ) (given : List StoreEntry) → WalksPlaced gives p history purse who from node names found end to given → IsStopped (walk_reply found end) → has_stop (take to history) ≡ true
  walk_stopped purse who _ _ _ _ _ _ _ (all_found from node) is = absurd (no_text word stopped_apart (walk_reply [] None) refl is)
  walk_stopped purse who _ _ _ _ _ _ _ (goes_on from at to node child name names q replied kind found end given others fits turn named rest) is =
      absurd (no_text word stopped_apart (walk_reply (files.Node child kind ∷ found) end) refl is)
  walk_stopped purse who _ _ _ _ _ _ _ (places.ends from to node name names q replied kind line given fits turn named told) is = turn_stopped from _ replied to given turn.placed (stopped_line replied line told (ap text_in is))
  walk_stopped purse who _ _ _ _ _ _ _ (no_procap from node name names none) is = absurd (no_error word stopped_apart errors.NoProcap (ap text_in is))
  walk_stopped purse who _ _ _ _ _ _ _ (places.lacks_memory from node name names q fits) is = absurd (not_it word stopped_apart (codes "nomemory") refl (ap text_in is))

  pub message_stopped : (s : Connection) (from : ℕ) (m : RequestView) (reply : ReplyView) (after : Connection) (to : ℕ) (given : List StoreEntry) → IsStopped reply → MessagePlaced gives p history from s m reply after to given → has_stop (take to history) ≡ true
  message_stopped s from m _ _ _ _ is (refused asked error asks decides) = absurd (no_error word stopped_apart error (ap text_in is))
  message_stopped s from m _ _ _ _ is (answered asked answer after asks decides) = absurd (no_answer word stopped_apart s.nonce answer is)
  message_stopped s from m _ _ _ _ is (in_a_turn asked step request replied reply to given asks decides turns turn told) = turn_stopped from request replied to given turn (stopped_reply (length (bytes_of m)) replied reply told is)
  message_stopped s from m _ _ _ _ is (walks fid newfid names node who found end to given same decides caller walk) = walk_stopped s.purse who from node names found end to given walk is
  message_stopped s from m _ _ _ _ is (places.without_memory may) = absurd (not_it word stopped_apart (codes "nomemory") refl (ap text_in is))
