-- A session that ended as its input did answered all lines of it.
use Rattle.std.proofs.Common.{◌≡◌, ◌∙◌, ℕ, List, Option, Some, None, sym, ap}
use Rattle.std.specs.Prelude.{ℤ, IfSome}
use Rattle.line_text.specs.Lines.{lines_of}
use Rattle.line_wire.specs.declared.reply.LineReply.{LineReply}
use Rattle.pcfs_ports.specs.Observable.{with_back}
use Rattle.pcfs_store.specs.Entries.{StoreEntry}
use Rattle.pcfs_session.specs.Streams.{Streams}
use Rattle.pcfs_session.specs.declared.outbox.SendFault.{SendFault}
use Rattle.pcfs_session.specs.declared.outbox.SendFault.TheVariants.{Write, NoMemory}
use Rattle.session_history.specs.Output.{session_output}
use Rattle.session_history.specs.Turn.{StorePass}
use Rattle.session_service.specs.declared.session_end.SessionEnd.{SessionEnd}
use Rattle.session_service.specs.declared.session_end.SessionEnd.TheVariants as session_ends
use Rattle.session_service.specs.Ends.{unsent_end}
use Rattle.session_service.specs.Laws.{DoneAnswersAll}
use Rattle.session_service.specs.Sessions.{sources_of, AreOfSession}
use Rattle.session_service.specs.SessionEnds.{SessionRepliesBy, SessionEndsBy}
use Rattle.session_service.specs.SessionEnds as ends
use Rattle.session_service.specs.Conversation.{ConnectionTells, AreThese, IsConversation, streams_at}

-- a session of which a reply was not sent is not done
not_done : (fault : SendFault) → unsent_end fault ≡ session_ends.Done → ⊥
not_done Write is = cc
not_done NoMemory is = cc

-- all lines of an input that was read to its end
all_lines : (left : Option (List ℕ)) (bytes : List ℕ) (lines : List (List ℕ)) → IfSome left (λ all. all ≡ bytes) → lines_of bytes ≡ lines → IfSome left (λ all. lines ≡ lines_of all)
all_lines None bytes lines is these = tt
all_lines (Some all) bytes lines is these = sym these ∙ ap lines_of (sym is)

module _ (nonce : List ℕ) (lines : List (List ℕ)) (answers : List LineReply) (before : Streams) where
  -- a session that is done replied to all lines of its input
  done_replies : (after : Streams) (how : SessionEnd) (written : List LineReply) → SessionRepliesBy (AreThese lines answers) before after how written → how ≡ session_ends.Done → IfSome before.left (λ all. lines ≡ lines_of all) × (written ≡ answers)
  done_replies after _ _ (ends.done bytes others reads short these) is = (all_lines before.left bytes lines reads.all these.0, these.1)
  done_replies after _ _ (ends.line_too_long ls others cut these) is = absurd cc
  done_replies after _ _ (ends.read_fault ls others risen all these) is = absurd cc
  done_replies after _ _ (ends.input_too_long ls others much all these) is = absurd cc

  done_end : (how : SessionEnd) (after : Streams) → SessionEndsBy (AreThese lines answers) nonce before how after → how ≡ session_ends.Done → IfSome before.left (λ all. lines ≡ lines_of all) × (after.held ≡ with_back before.held (session_output nonce answers))
  done_end _ _ (ends.written how after written replies out) is =
      let d = done_replies after how written replies is in
      (d.0, out ∙ ap (λ (a : List LineReply). with_back before.held (session_output nonce a)) d.1)
  done_end _ _ (ends.greeting_cut_short after risen left reads some these) is = absurd cc
  done_end _ _ (ends.cut_short fault after written risen way some) is = absurd (not_done fault is)
  done_end _ _ (ends.cut_at_long_line fault after written risen replies some) is = absurd (not_done fault is)

pub DoneAnswersAll-session : {I O : Type 0} (gives : List StoreEntry → ℤ → Type 0) (tells : ConnectionTells I O) (queue : Option (List (I × O))) (nonces : Option (List ℕ)) → DoneAnswersAll gives tells queue nonces
DoneAnswersAll-session gives tells queue nonces p history own s done =
    let t : IsConversation tells queue p.number s.nonce s.lines s.answers = s.told in
    done_end s.nonce s.lines s.answers (streams_at tells t.input t.output) t.how (streams_at tells t.input_after t.output_after) t.ends done
