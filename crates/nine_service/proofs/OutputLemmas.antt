-- What an output holds at the end of a connection that speaks 9P2000 is its own.
use Rattle.std.proofs.Common.{◌≡◌, ◌∙◌, ℕ, List, [], Option, Some, None, sym, ap, ap₂, subst}
use Rattle.std.specs.Prelude.{ℤ, IfSome}
use Rattle.pcfs_ports.specs.Observable.{with_back, ReadsToEnd}
use Rattle.pcfs_store.specs.Entries.{StoreEntry}
use Rattle.pcfs_session.specs.Streams.{Streams}
use Rattle.session_service.specs.Conversation.{ConnectionTells, AreThese, streams_at}
use Rattle.nine_messages.specs.Cutting.{Cuts}
use Rattle.nine_messages.specs.Requests.{MessageView}
use Rattle.nine_messages.specs.Replies.{ReplyView}
use Rattle.nine_front.specs.declared.nine_end.NineEnd.{NineEnd}
use Rattle.nine_front.specs.declared.nine_end.NineEnd.TheVariants as nine_ends
use Rattle.nine_front.specs.Ends.{NineRepliesBy, NineEndsBy}
use Rattle.nine_front.specs.Ends as ends
use Rattle.nine_front.specs.Taken.{output_of, HoldsButLast, IsReadWhole}
use Rattle.nine_service.specs.Conversation.{IsNineConversation}
use Rattle.nine_service.specs.Laws.{AreMessages, DoneAnswersAll, OutputsHoldTheirOwn}
use Rattle.nine_service.specs.Outputs.{HoldsAll, HoldsAtEnd}

-- all messages of an input that was read to its end
all_messages : (left left_after : Option (List ℕ)) (bytes : List ℕ) (agreed : ℕ) (messages : List MessageView) → ReadsToEnd left left_after bytes → Cuts 65536 bytes messages agreed [] → IfSome left (λ all. AreMessages all messages)
all_messages None left_after bytes agreed messages reads cut = tt
all_messages (Some all) left_after bytes agreed messages reads cut = record { agreed = agreed; cut = subst (λ (b : List ℕ). Cuts 65536 b messages agreed []) (sym reads.all) cut }

module _ (messages : List MessageView) (replies : List ReplyView) (before after : Streams) where
  -- what was written are these replies
  all_out : (answered : List MessageView) (others : List ReplyView) → AreThese messages replies answered others → after.held ≡ with_back before.held (output_of answered others) → HoldsAll before.held after.held messages replies
  all_out answered others these out = out ∙ ap₂ (λ (ms : List MessageView) (rs : List ReplyView). with_back before.held (output_of ms rs)) these.0 these.1

  -- but some end of the last
  most_out : (answered : List MessageView) (others : List ReplyView) → AreThese messages replies answered others → HoldsButLast before.held after.held answered others → HoldsButLast before.held after.held messages replies
  most_out answered others these most =
      subst (λ (ms : List MessageView). HoldsButLast before.held after.held ms replies) these.0
      (subst (λ (rs : List ReplyView). HoldsButLast before.held after.held answered rs) these.1 most)

  by_replies : (how : NineEnd) (answered : List MessageView) (others : List ReplyView) → NineRepliesBy (AreThese messages replies) before after how answered others → after.held ≡ with_back before.held (output_of answered others) → HoldsAtEnd how before.held after.held messages replies
  by_replies _ _ _ (ends.done answered others all these) out = all_out answered others these out
  by_replies _ _ _ (ends.at_bad answered others all these) out = all_out answered others these out
  by_replies _ _ _ (ends.cut_off answered others all these) out = all_out answered others these out
  by_replies _ _ _ (ends.read_fault answered others risen all these) out = all_out answered others these out
  by_replies _ _ _ (ends.input_too_long answered others much all these) out = all_out answered others these out

  -- a connection that is done answered all messages of its input
  done_replies : (how : NineEnd) (answered : List MessageView) (others : List ReplyView) → NineRepliesBy (AreThese messages replies) before after how answered others → how ≡ nine_ends.Done → IfSome before.left (λ all. AreMessages all messages)
  done_replies _ _ _ (ends.done answered others all these) is =
      let whole : IsReadWhole before.left after.left messages = subst (λ (ms : List MessageView). IsReadWhole before.left after.left ms) these.0 all in
      all_messages before.left after.left whole.bytes whole.agreed messages whole.read whole.cut
  done_replies _ _ _ (ends.at_bad answered others all these) is = absurd cc
  done_replies _ _ _ (ends.cut_off answered others all these) is = absurd cc
  done_replies _ _ _ (ends.read_fault answered others risen all these) is = absurd cc
  done_replies _ _ _ (ends.input_too_long answered others much all these) is = absurd cc

module _ (messages : List MessageView) (replies : List ReplyView) (before : Streams) where
  by_end : (how : NineEnd) (after : Streams) → NineEndsBy (AreThese messages replies) before how after → HoldsAtEnd how before.held after.held messages replies
  by_end _ _ (ends.written how after answered others all out) = by_replies messages replies before after how answered others all out
  by_end _ _ (ends.write_fault after answered others risen all these most) = most_out messages replies before after answered others these most
  by_end _ _ (ends.no_memory after answered others all these most) = most_out messages replies before after answered others these most

  by_done : (how : NineEnd) (after : Streams) → NineEndsBy (AreThese messages replies) before how after → how ≡ nine_ends.Done → IfSome before.left (λ all. AreMessages all messages)
  by_done _ _ (ends.written how after answered others all out) is = done_replies messages replies before after how answered others all is
  by_done _ _ (ends.write_fault after answered others risen all these most) is = absurd cc
  by_done _ _ (ends.no_memory after answered others all these most) is = absurd cc

module _ {I O : Type 0} (gives : List StoreEntry → ℤ → Type 0) (tells : ConnectionTells I O) (queue : Option (List (I × O))) (nonces : Option (List ℕ)) where
  pub OutputsHoldTheirOwn-nine : OutputsHoldTheirOwn gives tells queue nonces
  OutputsHoldTheirOwn-nine p history own s =
      let t : IsNineConversation tells queue p.number s.messages s.replies = s.told in
      by_end s.messages s.replies (streams_at tells t.input t.output) t.how (streams_at tells t.input_after t.output_after) t.ends

  pub DoneAnswersAll-nine : DoneAnswersAll gives tells queue nonces
  DoneAnswersAll-nine p history own s done =
      let t : IsNineConversation tells queue p.number s.messages s.replies = s.told in
      let before = streams_at tells t.input t.output in
      let after = streams_at tells t.input_after t.output_after in
      let at_end : HoldsAtEnd nine_ends.Done before.held after.held s.messages s.replies =
      subst (λ (how : NineEnd). HoldsAtEnd how before.held after.held s.messages s.replies) done (by_end s.messages s.replies before t.how after t.ends) in
      (by_done s.messages s.replies before t.how after t.ends done, at_end)
