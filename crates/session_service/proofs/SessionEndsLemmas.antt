-- How a session ends, by whether its greeting was written, and how it goes on.
use Rattle.std.proofs.Common.{◌≡◌, ◌∙◌, inr, ◌+◌, ◌≤◌, ℕ, List, [], ◌∷◌, ◌++◌, length, take, Option, sym, ap, subst, arith, length-append}
use Rattle.std.proofs.Math.Seq.{take-append-add}
use Rattle.std.specs.Prelude.{ℤ}
use Rattle.pcfs_ports.specs.Faults.{HasRisen}
use Rattle.pcfs_ports.specs.Observable.{with_back, ReadsToEnd, TakesFirst, HoldsSome}
use Rattle.pcfs_ports.proofs.TakesLemmas.{with_back-with_back}
use Rattle.tree_lock.specs.Seen.{PassView}
use Rattle.line_wire.specs.declared.reply.LineReply.{LineReply}
use Rattle.line_wire.specs.ReplyText.{output_of}
use Rattle.line_text.specs.Greeting.{greeting_text}
use Rattle.shared_store.specs.declared.entry.LockEntry.{LockEntry}
use Rattle.session_history.specs.SessionState.{guest_with}
use Rattle.session_loop.specs.Written.{but_last}
use Rattle.pcfs_session.specs.Streams.{Streams}
use Rattle.pcfs_session.specs.Taken.{AreTaken, AreAllTaken, IsCutAtLong}
use Rattle.pcfs_session.specs.declared.outbox.SendFault.{SendFault}
use Rattle.pcfs_session.specs.declared.outbox.SendFault.TheVariants.{Write}
use Rattle.pcfs_session.proofs.StoredLemmas.{HasRisen-earlier}
use Rattle.pcfs_store.specs.Entries.{StoreEntry}
use Rattle.session_service.specs.declared.session_end.SessionEnd.{SessionEnd}
use Rattle.session_service.specs.declared.session_end.SessionEnd.TheVariants as session_ends
use Rattle.session_service.specs.SaidLaws.{HasSaid-none}
use Rattle.session_service.specs.SessionEnds.{IsUnderWay, SessionReplies, SessionEnds, GoesOnToEnd, GreetsFirst}
use Rattle.session_service.specs.SessionEnds as ends
use Rattle.session_service.specs.Written.{HoldsButLast, HoldsUpToLast}
use Rattle.session_service.proofs.SaidLemmas.{Speaks-said}

-- ---- the greeting

abbrev greeted : List ℕ → List ℕ
greeted nonce = greeting_text nonce ++ 10 ∷ []

module _ {D : Type 0} (faults : D → ℕ) (gives : List StoreEntry → ℤ → Type 0) (nonce : List ℕ) where
  -- it was not written
  pub SessionEnds-ungreeted : (pass : PassView (LockEntry D)) (before after : Streams) → after.left ≡ before.left → after.read_faults ≡ before.read_faults → HasRisen before.write_faults after.write_faults → HoldsSome before.held after.held (greeted nonce) →
      SessionEnds faults gives nonce pass pass before session_ends.WriteFault after
  SessionEnds-ungreeted pass before after left reads risen some =
      ends.greeting_cut_short after risen left reads some (Speaks-said faults gives nonce (guest_with nonce) pass pass [] [] (HasSaid-none faults gives (guest_with nonce) pass))

  module _ (old new : PassView (LockEntry D)) (before mid after : Streams) (same : mid.left ≡ before.left) (reads : mid.read_faults ≡ before.read_faults) (later : before.write_faults ≤ mid.write_faults) (out : mid.held ≡ with_back before.held (greeted nonce)) where
    -- what was taken since is what was taken
    way_before : (answers : List LineReply) → IsUnderWay faults gives nonce old new mid after answers → IsUnderWay faults gives nonce old new before after answers
    way_before answers (ends.while_reading lines taken said) = ends.while_reading lines (subst (λ (l : Option (List ℕ)). AreTaken l after.left lines) same taken) said
    way_before answers (ends.all_read bytes reads_all short said) = ends.all_read bytes (subst (λ (l : Option (List ℕ)). ReadsToEnd l after.left bytes) same reads_all) short said

    replies_before : (how : SessionEnd) (answers : List LineReply) → SessionReplies faults gives nonce old new mid after how answers → SessionReplies faults gives nonce old new before after how answers
    replies_before _ _ (ends.done bytes answers reads_all short said) = ends.done bytes answers (subst (λ (l : Option (List ℕ)). ReadsToEnd l after.left bytes) same reads_all) short said
    replies_before _ _ (ends.line_too_long lines answers cut said) = ends.line_too_long lines answers (subst (λ (l : Option (List ℕ)). IsCutAtLong l after.left lines) same cut) said
    replies_before _ _ (ends.read_fault lines answers risen all said) =
        ends.read_fault lines answers (subst (λ (n : ℕ). HasRisen n after.read_faults) reads risen) (subst (λ (l : Option (List ℕ)). AreAllTaken l after.left lines) same all) said
    replies_before _ _ (ends.input_too_long lines answers first all said) =
        ends.input_too_long lines answers (subst (λ (l : Option (List ℕ)). TakesFirst 1073741824 l after.left) same first) (subst (λ (l : Option (List ℕ)). AreAllTaken l after.left lines) same all) said

    out_behind : (bytes : List ℕ) → after.held ≡ with_back mid.held bytes → after.held ≡ with_back before.held ((greeted nonce) ++ bytes)
    out_behind bytes more = more ∙ ap (λ (t : Option (List ℕ)). with_back t bytes) out ∙ with_back-with_back before.held (greeted nonce) bytes

    last_behind : (answers : List LineReply) → HoldsButLast mid.held after.held answers → HoldsUpToLast nonce before.held after.held answers
    last_behind answers last = record {
      some = record {
        count = length (greeted nonce) + last.some.count;
        within = omega (arith, last.some.within, length-append (greeted nonce) (output_of answers));
        held =
            last.some.held ∙ ap (λ (t : Option (List ℕ)). with_back t (take last.some.count (output_of answers))) out ∙ with_back-with_back before.held (greeted nonce) (take last.some.count (output_of answers))
            ∙ ap (with_back before.held) (sym (take-append-add (greeted nonce) (output_of answers) last.some.count));
      };
      earlier = omega (arith, last.earlier, length-append (greeted nonce) (output_of (but_last answers)));
    }

    risen_before : (fault : SendFault) → (fault ≡ Write → HasRisen mid.write_faults after.write_faults) → fault ≡ Write → HasRisen before.write_faults after.write_faults
    risen_before fault risen is = HasRisen-earlier before.write_faults mid.write_faults after.write_faults later (risen is)

  pub SessionEnds-greeted : (old new : PassView (LockEntry D)) (before mid after : Streams) (how : SessionEnd) → mid.left ≡ before.left → mid.read_faults ≡ before.read_faults → before.write_faults ≤ mid.write_faults → mid.held ≡ with_back before.held (greeted nonce) →
      GoesOnToEnd faults gives nonce old new mid how after → SessionEnds faults gives nonce old new before how after
  SessionEnds-greeted old new before mid _ _ same reads later out (ends.rest_written how after answers replies all) =
      ends.written how after answers (replies_before old new before mid after same reads later out how answers replies) (out_behind old new before mid after same reads later out (output_of answers) all)
  SessionEnds-greeted old new before mid _ _ same reads later out (ends.rest_cut_short fault after answers risen way last) =
      ends.cut_short fault after answers (risen_before old new before mid after same reads later out fault risen) (way_before old new before mid after same reads later out answers way)
      (last_behind old new before mid after same reads later out answers last)
  SessionEnds-greeted old new before mid _ _ same reads later out (ends.rest_cut_at_long_line fault after answers risen replies last) =
      ends.cut_at_long_line fault after answers (risen_before old new before mid after same reads later out fault risen) (replies_before old new before mid after same reads later out session_ends.LineTooLong answers replies)
      (last_behind old new before mid after same reads later out answers last)

  -- the greeting was out before the input was asked
  what_follows : (old new : PassView (LockEntry D)) (before : Streams) (how : SessionEnd) (after : Streams) → GoesOnToEnd faults gives nonce old new before how after → (more : List ℕ) × (after.held ≡ with_back before.held more)
  what_follows old new before _ _ (ends.rest_written how after answers replies all) = (output_of answers, all)
  what_follows old new before _ _ (ends.rest_cut_short fault after answers risen way last) = (take last.some.count (output_of answers), last.some.held)
  what_follows old new before _ _ (ends.rest_cut_at_long_line fault after answers risen replies last) = (take last.some.count (output_of answers), last.some.held)

  pub GreetsFirst-greeted : (old new : PassView (LockEntry D)) (before mid after : Streams) (how : SessionEnd) → mid.held ≡ with_back before.held (greeted nonce) → GoesOnToEnd faults gives nonce old new mid how after → GreetsFirst nonce before after
  GreetsFirst-greeted old new before mid after how out goes =
      let m = what_follows old new mid how after goes in
      inr (m.0, m.1 ∙ ap (λ (t : Option (List ℕ)). with_back t m.0) out ∙ with_back-with_back before.held (greeted nonce) m.0)
