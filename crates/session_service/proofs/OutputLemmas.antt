-- What an output holds at the end of a session is its own.
use Rattle.std.proofs.Common.{◌≡◌, ◌∙◌, inl, inr, ℕ, List, [], ◌∷◌, ◌++◌, Option, refl, sym, ap, subst}
use Rattle.std.specs.Prelude.{ℤ}
use Rattle.line_wire.specs.declared.reply.LineReply.{LineReply}
use Rattle.line_wire.specs.declared.reply.LineReply.TheVariants.{TooLong}
use Rattle.pcfs_ports.specs.Observable.{with_back}
use Rattle.pcfs_store.specs.Entries.{StoreEntry}
use Rattle.pcfs_session.specs.Streams.{Streams}
use Rattle.pcfs_session.specs.declared.outbox.SendFault.{SendFault}
use Rattle.pcfs_session.specs.declared.outbox.SendFault.TheVariants.{Write, NoMemory}
use Rattle.session_history.specs.Output.{session_output}
use Rattle.session_service.specs.declared.session_end.SessionEnd.{SessionEnd}
use Rattle.session_service.specs.declared.session_end.SessionEnd.TheVariants as session_ends
use Rattle.session_service.specs.Ends.{unsent_end}
use Rattle.session_service.specs.Laws.{OutputsHoldTheirOwn}
use Rattle.session_service.specs.Outputs.{HoldsMost, HoldsAtEnd}
use Rattle.session_service.specs.SessionEnds.{IsUnderWayBy, SessionRepliesBy, SessionEndsBy}
use Rattle.session_service.specs.SessionEnds as ends
use Rattle.session_service.specs.Written.{HoldsUpToLast}
use Rattle.session_service.specs.Conversation.{ConnectionTells, AreThese, IsConversation, streams_at}

module _ (nonce : List ℕ) (lines : List (List ℕ)) (answers : List LineReply) (before after : Streams) where
  -- the replies that were written are these
  these_out : (written others : List LineReply) → written ≡ others → after.held ≡ with_back before.held (session_output nonce written) → after.held ≡ with_back before.held (session_output nonce others)
  these_out written others same out = out ∙ ap (λ (a : List LineReply). with_back before.held (session_output nonce a)) same

  and_long : (others : List LineReply) → others ≡ answers → others ++ TooLong ∷ [] ≡ answers ++ TooLong ∷ []
  and_long others same = ap (λ (a : List LineReply). a ++ TooLong ∷ []) same

  all_written : (how : SessionEnd) (written : List LineReply) → SessionRepliesBy (AreThese lines answers) before after how written → after.held ≡ with_back before.held (session_output nonce written) → HoldsAtEnd how nonce before.held after.held answers
  all_written _ _ (ends.done bytes others reads short these) out = these_out others answers these.1 out
  all_written _ _ (ends.line_too_long ls others cut these) out = these_out (others ++ TooLong ∷ []) (answers ++ TooLong ∷ []) (and_long others these.1) out
  all_written _ _ (ends.read_fault ls others risen all these) out = these_out others answers these.1 out
  all_written _ _ (ends.input_too_long ls others much all these) out = these_out others answers these.1 out

  -- of which the last may be cut off
  by_way : (written : List LineReply) → IsUnderWayBy (AreThese lines answers) before after written → written ≡ answers
  by_way written (ends.while_reading ls taken these) = these.1
  by_way written (ends.all_read bytes reads short these) = these.1

  with_long : (how : SessionEnd) (written : List LineReply) → SessionRepliesBy (AreThese lines answers) before after how written → how ≡ session_ends.LineTooLong → written ≡ answers ++ TooLong ∷ []
  with_long _ _ (ends.done bytes others reads short these) is = absurd cc
  with_long _ _ (ends.line_too_long ls others cut these) is = and_long others these.1
  with_long _ _ (ends.read_fault ls others risen all these) is = absurd cc
  with_long _ _ (ends.input_too_long ls others much all these) is = absurd cc

  most_written : (written others : List LineReply) → written ≡ others → HoldsUpToLast nonce before.held after.held written → HoldsUpToLast nonce before.held after.held others
  most_written written others same most = subst (λ (a : List LineReply). HoldsUpToLast nonce before.held after.held a) same most

  by_fault : (fault : SendFault) → HoldsMost nonce before.held after.held answers → HoldsAtEnd (unsent_end fault) nonce before.held after.held answers
  by_fault Write most = inr most
  by_fault NoMemory most = most

module _ (nonce : List ℕ) (lines : List (List ℕ)) (answers : List LineReply) (before : Streams) where
  by_end : (how : SessionEnd) (after : Streams) → SessionEndsBy (AreThese lines answers) nonce before how after → HoldsAtEnd how nonce before.held after.held answers
  by_end _ _ (ends.written how after written replies out) = all_written nonce lines answers before after how written replies out
  by_end _ _ (ends.greeting_cut_short after risen left reads some these) = inl (sym these.1, some)
  by_end _ _ (ends.cut_short fault after written risen way most) =
      by_fault nonce lines answers before after fault (inl (most_written nonce lines answers before after written answers (by_way nonce lines answers before after written way) most))
  by_end _ _ (ends.cut_at_long_line fault after written risen replies most) =
      by_fault nonce lines answers before after fault
      (inr (most_written nonce lines answers before after written (answers ++ TooLong ∷ []) (with_long nonce lines answers before after session_ends.LineTooLong written replies refl) most))

pub OutputsHoldTheirOwn-session : {I O : Type 0} (gives : List StoreEntry → ℤ → Type 0) (tells : ConnectionTells I O) (queue : Option (List (I × O))) (nonces : Option (List ℕ)) → OutputsHoldTheirOwn gives tells queue nonces
OutputsHoldTheirOwn-session gives tells queue nonces p history own s =
    let t : IsConversation tells queue p.number s.nonce s.lines s.answers = s.told in
    by_end s.nonce s.lines s.answers (streams_at tells t.input t.output) t.how (streams_at tells t.input_after t.output_after) t.ends
