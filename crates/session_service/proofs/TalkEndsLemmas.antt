-- How a session ends after its greeting, by how its talk does.
use Rattle.std.proofs.Common.{◌≡◌, ◌∙◌, ◌≤◌, ℕ, List, [], ◌∷◌, ◌++◌, length, take, Option, refl, sym, ap, subst, arith, append_assoc, append-nil}
use Rattle.std.specs.Prelude.{ℤ}
use Rattle.pcfs_ports.specs.Faults.{HasRisen}
use Rattle.pcfs_ports.specs.Observable.{with_back, ReadsToEnd}
use Rattle.line_text.specs.Lines.{lines_of}
use Rattle.line_framer.specs.Framing.{ended, IsLine}
use Rattle.line_framer.specs.Feeding.{AreShort}
use Rattle.line_framer.specs.Scanning.{HasLong}
use Rattle.line_framer.proofs.FramingLemmas.{lines_of-whole}
use Rattle.line_wire.specs.declared.reply.LineReply.{LineReply}
use Rattle.line_wire.specs.declared.reply.LineReply.TheVariants.{TooLong}
use Rattle.line_wire.specs.ReplyText.{reply_text, output_of}
use Rattle.tree_lock.specs.Seen.{PassView}
use Rattle.pcfs_store.specs.Entries.{StoreEntry}
use Rattle.pcfs_session.specs.Streams.{Streams}
use Rattle.pcfs_session.specs.Taken.{AreFirst, AreTaken, AreAllTaken, IsCutAtLong}
use Rattle.pcfs_session.specs.declared.outbox.SendFault.TheVariants as sends
use Rattle.pcfs_session.proofs.ScriptLemmas.{output-append, output-one}
use Rattle.pcfs_session.proofs.TakenLemmas.{AreFirst-none, AreShort-then, AreShort-open, HasLong-then}
use Rattle.session_history.specs.SessionState.{guest_with}
use Rattle.session_loop.specs.declared.talk_end.TalkEnd.{TalkEnd}
use Rattle.session_loop.specs.declared.talk_end.TalkEnd.TheVariants as hows
use Rattle.session_loop.specs.declared.talk_end.Unsent.{Unsent}
use Rattle.session_loop.specs.declared.talk_end.Unsent.TheVariants as unsents
use Rattle.session_loop.specs.Cutting as cuts
use Rattle.session_loop.specs.Ends as talk_ends
use Rattle.session_loop.specs.Taken as talks
use Rattle.session_loop.specs.TalkEnds.{TalkReplies, TalkEnds, all_told}
use Rattle.session_loop.specs.TalkEnds as talk
use Rattle.session_loop.specs.Written as writes
use Rattle.session_loop.specs.Written.{but_last}
use Rattle.shared_store.specs.declared.entry.LockEntry.{LockEntry}
use Rattle.session_service.specs.declared.session_end.SessionEnd.{SessionEnd}
use Rattle.session_service.specs.declared.session_end.SessionEnd.TheVariants as session_ends
use Rattle.session_service.specs.LineTalking.{line_cutting, line_talking, reply_line, session_end}
use Rattle.session_service.specs.SessionEnds.{Speaks, IsUnderWay, SessionReplies, GoesOnToEnd}
use Rattle.session_service.specs.SessionEnds as ends
use Rattle.session_service.specs.Written.{HoldsButLast}
use Rattle.session_service.proofs.SaidLemmas.{Speaks-said}
use Rattle.session_service.proofs.StillLemmas.{ports_in}

-- ---- what was taken

are_first : (mark to : Unit {0}) (bytes rest : List ℕ) (lines : List (List ℕ)) → cuts.Cuts line_cutting mark bytes lines to rest → AreFirst bytes lines rest
are_first _ _ _ _ _ (cuts.none mark bytes) = AreFirst-none bytes
are_first _ _ _ _ _ (cuts.one_more mark bytes line after behind lines to rest next others) =
    let more = are_first after to behind rest lines others in
    record {
      whole = (record { one = next.first.one; few = next.few }, more.whole);
      parts = next.first.parts ∙ ap (λ (b : List ℕ). line ++ 10 ∷ b) more.parts ∙ sym (append_assoc line (10 ∷ ended lines) rest);
    }

-- no line is too long of lines that were taken and an open one
short_then : (bytes rest : List ℕ) (lines : List (List ℕ)) → AreFirst bytes lines rest → IsLine rest → AreShort bytes
short_then bytes rest lines first is = subst AreShort (sym first.parts) (AreShort-then lines rest first.whole (AreShort-open rest is))

module _ (left left_after : Option (List ℕ)) (lines : List (List ℕ)) where
  are_taken : talks.AreTaken line_cutting left left_after lines → AreTaken left left_after lines
  are_taken a = record { bytes = a.bytes; rest = a.rest; taken = a.taken; first = are_first tt a.mark a.bytes a.rest lines a.cut; few = a.few }

  are_all_taken : talks.AreAllTaken line_cutting left left_after lines → AreAllTaken left left_after lines
  are_all_taken a = record { bytes = a.bytes; rest = a.rest; taken = a.taken; first = are_first tt a.mark a.bytes a.rest lines a.cut; is_open = a.is_open }

  cut_at_long : talks.IsCutAtBad line_cutting left left_after lines → IsCutAtLong left left_after lines
  cut_at_long b =
      let first = are_first tt b.mark_after (b.bytes ++ b.piece) b.rest_after lines b.cut in
      let has = HasLong-then lines [] b.rest_after first.whole b.is_bad in
      record {
        bytes = b.bytes;
        piece = b.piece;
        taken = b.taken;
        short = short_then b.bytes b.rest b.earlier (are_first tt b.mark b.bytes b.rest b.earlier b.cut_earlier) b.was_open;
        few = b.few;
        has_long = subst (λ (bs : List ℕ). HasLong bs lines) (sym first.parts) (subst (HasLong (ended lines ++ b.rest_after)) (append-nil lines) has);
      }

  -- all of an input, and its lines
  record IsAllRead : Type 0 where
    bytes : List ℕ
    read : ReadsToEnd left left_after bytes
    are_short : AreShort bytes
    lines_are : lines ≡ lines_of bytes

  all_read : talks.IsReadWhole line_cutting left left_after lines → IsAllRead
  all_read w =
      let first = are_first tt w.mark w.bytes w.rest w.whole w.cut in
      record {
        bytes = w.bytes;
        read = w.read;
        are_short = short_then w.bytes w.rest w.whole first w.is_open;
        lines_are = w.items_are ∙ ap (λ (ls : List (List ℕ)). w.whole ++ ls) w.is_last ∙ sym (lines_of-whole w.whole w.rest first.whole) ∙ ap lines_of (sym first.parts);
      }

-- ---- what was written

-- of fewer replies than lines, too
outputs_are : (lines : List (List ℕ)) (answers : List LineReply) → length answers ≤ length lines → writes.output_of reply_line lines answers ≡ output_of answers
outputs_are [] [] few = refl
outputs_are [] (reply ∷ answers) few = absurd (omega (arith, few))
outputs_are (line ∷ lines) [] few = refl
outputs_are (line ∷ lines) (reply ∷ answers) few = ap (λ (b : List ℕ). (reply_text reply ++ 10 ∷ []) ++ b) (outputs_are lines answers (omega (arith, few)))

but_last_few : (answers : List LineReply) → length (but_last answers) ≤ length answers
but_last_few [] = omega arith
but_last_few (reply ∷ []) = omega arith
but_last_few (reply ∷ (next ∷ answers)) = omega (arith, but_last_few (next ∷ answers))

but_last_one : (answers : List LineReply) (reply : LineReply) → but_last (answers ++ reply ∷ []) ≡ answers
but_last_one [] reply = refl
but_last_one (first ∷ []) reply = refl
but_last_one (first ∷ (next ∷ answers)) reply = ap (λ (others : List LineReply). first ∷ others) (but_last_one (next ∷ answers) reply)

module _ (held held_after : Option (List ℕ)) (lines : List (List ℕ)) (answers : List LineReply) (each : length answers ≡ length lines) where
  same_output : writes.output_of reply_line lines answers ≡ output_of answers
  same_output = outputs_are lines answers (omega (arith, each))

  all_but_last : writes.HoldsButLast reply_line held held_after lines answers → HoldsButLast held held_after answers
  all_but_last h = record {
    some = record {
      count = h.some.count;
      within = omega (arith, h.some.within, ap length same_output);
      held = h.some.held ∙ ap (λ (b : List ℕ). with_back held (take h.some.count b)) same_output;
    };
    earlier = omega (arith, h.earlier, ap length (outputs_are lines (but_last answers) (omega (arith, each, but_last_few answers))));
  }

  -- and after them that a line is too long
  with_long : writes.output_of reply_line lines answers ++ (reply_text TooLong ++ 10 ∷ []) ≡ output_of (answers ++ TooLong ∷ [])
  with_long = ap (λ (b : List ℕ). b ++ (reply_text TooLong ++ 10 ∷ [])) same_output ∙ ap (λ (b : List ℕ). output_of answers ++ b) (sym (output-one TooLong)) ∙ sym (output-append answers (TooLong ∷ []))

  all_of_them : writes.HoldsReplies reply_line (reply_text TooLong ++ 10 ∷ []) held held_after lines answers → HoldsButLast held held_after (answers ++ TooLong ∷ [])
  all_of_them h = record {
    some = record {
      count = h.some.count;
      within = omega (arith, h.some.within, ap length with_long);
      held = h.some.held ∙ ap (λ (b : List ℕ). with_back held (take h.some.count b)) with_long;
    };
    earlier = omega (arith, h.earlier, ap length same_output, ap (λ (a : List LineReply). length (output_of a)) (but_last_one answers TooLong));
  }

-- ---- how it ends

module _ {D : Type 0} (faults : D → ℕ) (gives : List StoreEntry → ℤ → Type 0) (nonce : List ℕ) (old new : PassView (LockEntry D)) (before after : Streams) where
  speaks : (lines : List (List ℕ)) (answers : List LineReply) → talk.Speaks (line_talking faults gives) (guest_with nonce) old new lines answers → Speaks faults gives nonce old new lines answers
  speaks lines answers s = Speaks-said faults gives nonce s.end old new lines answers s.said.said

  speaks_all : (lines also : List (List ℕ)) (answers : List LineReply) → lines ≡ also → talk.Speaks (line_talking faults gives) (guest_with nonce) old new lines answers → Speaks faults gives nonce old new also answers
  speaks_all lines also answers same s = subst (λ (ls : List (List ℕ)). Speaks faults gives nonce old new ls answers) same (speaks lines answers s)

  under_way : (lines : List (List ℕ)) (answers : List LineReply) → talk.IsUnderWay (line_talking faults gives) (guest_with nonce) old new (ports_in before) (ports_in after) lines answers →
      (length answers ≡ length lines) × IsUnderWay faults gives nonce old new before after answers
  under_way lines answers (talk.while_reading a s) = (s.said.each, ends.while_reading lines (are_taken before.left after.left lines a) (speaks lines answers s))
  under_way lines answers (talk.all_read w s) =
      let r = all_read before.left after.left lines w in
      (s.said.each, ends.all_read r.bytes r.read r.are_short (speaks_all lines (lines_of r.bytes) answers r.lines_are s))

  at_long : (lines : List (List ℕ)) (answers : List LineReply) → TalkReplies (line_talking faults gives) (guest_with nonce) old new (ports_in before) (ports_in after) lines answers hows.Bad →
      (length answers ≡ length lines) × SessionReplies faults gives nonce old new before after session_ends.LineTooLong (answers ++ TooLong ∷ [])
  at_long lines answers (talk.at_bad b s) = (s.said.each, ends.line_too_long lines answers (cut_at_long before.left after.left lines b) (speaks lines answers s))
  at_long lines answers (talk.cut_off w s) = absurd w.is_bad

  cut_so : (fault : Unsent) (answers : List LineReply) → (fault ≡ unsents.Write → HasRisen before.write_faults after.write_faults) → IsUnderWay faults gives nonce old new before after answers → HoldsButLast before.held after.held answers →
      GoesOnToEnd faults gives nonce old new before (session_end (talk_ends.unsent_end fault)) after
  cut_so unsents.Write answers risen way some = ends.rest_cut_short sends.Write after answers (λ is. risen refl) way some
  cut_so unsents.NoMemory answers risen way some = ends.rest_cut_short sends.NoMemory after answers (λ is. absurd cc) way some

  cut_so_at_long : (fault : Unsent) (answers : List LineReply) → (fault ≡ unsents.Write → HasRisen before.write_faults after.write_faults) → SessionReplies faults gives nonce old new before after session_ends.LineTooLong answers → HoldsButLast before.held after.held answers →
      GoesOnToEnd faults gives nonce old new before (session_end (talk_ends.unsent_end fault)) after
  cut_so_at_long unsents.Write answers risen replies some = ends.rest_cut_at_long_line sends.Write after answers (λ is. risen refl) replies some
  cut_so_at_long unsents.NoMemory answers risen replies some = ends.rest_cut_at_long_line sends.NoMemory after answers (λ is. absurd cc) replies some

  written_so : (how : TalkEnd) (lines : List (List ℕ)) (answers : List LineReply) → TalkReplies (line_talking faults gives) (guest_with nonce) old new (ports_in before) (ports_in after) lines answers how →
      after.held ≡ with_back before.held (all_told (line_talking faults gives) how (writes.output_of reply_line lines answers)) → GoesOnToEnd faults gives nonce old new before (session_end how) after
  written_so _ lines answers (talk.done w s) out =
      let r = all_read before.left after.left lines w in
      ends.rest_written session_ends.Done after answers (ends.done r.bytes answers r.read r.are_short (speaks_all lines (lines_of r.bytes) answers r.lines_are s))
      (out ∙ ap (with_back before.held) (same_output before.held after.held lines answers s.said.each))
  written_so _ lines answers (talk.at_bad b s) out =
      ends.rest_written session_ends.LineTooLong after (answers ++ TooLong ∷ []) (ends.line_too_long lines answers (cut_at_long before.left after.left lines b) (speaks lines answers s))
      (out ∙ ap (with_back before.held) (with_long before.held after.held lines answers s.said.each))
  written_so _ lines answers (talk.cut_off w s) out = absurd w.is_bad
  written_so _ lines answers (talk.read_fault risen a s) out =
      ends.rest_written session_ends.ReadFault after answers (ends.read_fault lines answers risen (are_all_taken before.left after.left lines a) (speaks lines answers s))
      (out ∙ ap (with_back before.held) (same_output before.held after.held lines answers s.said.each))
  written_so _ lines answers (talk.input_too_long first a s) out =
      ends.rest_written session_ends.InputTooLong after answers (ends.input_too_long lines answers first (are_all_taken before.left after.left lines a) (speaks lines answers s))
      (out ∙ ap (with_back before.held) (same_output before.held after.held lines answers s.said.each))

  by_talk : (how : TalkEnd) → TalkEnds (line_talking faults gives) (guest_with nonce) old new (ports_in before) (ports_in after) how → GoesOnToEnd faults gives nonce old new before (session_end how) after
  by_talk _ (talk.written how lines answers replies out) = written_so how lines answers replies out
  by_talk _ (talk.cut_short fault lines answers risen way some) =
      let u = under_way lines answers way in
      cut_so fault answers risen u.1 (all_but_last before.held after.held lines answers u.0 some)
  by_talk _ (talk.cut_at_bad fault lines answers risen replies all) =
      let u = at_long lines answers replies in
      cut_so_at_long fault (answers ++ TooLong ∷ []) risen u.1 (all_of_them before.held after.held lines answers u.0 all)

  pub GoesOnToEnd-talk : (how : TalkEnd) (end : SessionEnd) → end ≡ session_end how → TalkEnds (line_talking faults gives) (guest_with nonce) old new (ports_in before) (ports_in after) how → GoesOnToEnd faults gives nonce old new before end after
  GoesOnToEnd-talk how end is ended = subst (λ (n : SessionEnd). GoesOnToEnd faults gives nonce old new before n after) (sym is) (by_talk how ended)
