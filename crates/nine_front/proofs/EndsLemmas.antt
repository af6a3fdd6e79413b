-- How a connection ends, by how its talk does.
use Rattle.std.proofs.Common.{◌≡◌, ◌∙◌, ◌≤◌, ℕ, List, [], ◌++◌, length, Option, Some, None, refl, sym, ap, subst, arith, append-nil}
use Rattle.std.specs.Prelude.{ℤ}
use Rattle.pcfs_ports.specs.Faults.{HasRisen}
use Rattle.pcfs_ports.specs.Observable.{with_front, with_back, ReadsToEnd}
use Rattle.tree_lock.specs.Seen.{PassView}
use Rattle.shared_store.specs.declared.entry.LockEntry.{LockEntry}
use Rattle.pcfs_session.specs.Streams.{Streams}
use Rattle.pcfs_store.specs.Entries.{StoreEntry}
use Rattle.session_loop.specs.declared.talk_end.TalkEnd.{TalkEnd}
use Rattle.session_loop.specs.declared.talk_end.TalkEnd.TheVariants as hows
use Rattle.session_loop.specs.declared.talk_end.Unsent.{Unsent}
use Rattle.session_loop.specs.declared.talk_end.Unsent.TheVariants as unsents
use Rattle.session_loop.specs.Cutting as cuts
use Rattle.session_loop.specs.Ends.{unsent_end}
use Rattle.session_loop.specs.Taken as talks
use Rattle.session_loop.specs.TalkEnds.{TalkReplies, IsUnderWay, TalkEnds, all_told}
use Rattle.session_loop.specs.TalkEnds as talk
use Rattle.session_loop.proofs.WrittenLemmas.{replies_alone}
use Rattle.nine_messages.specs.Requests.{MessageView}
use Rattle.nine_messages.specs.Replies.{ReplyView}
use Rattle.nine_messages.specs.Cutting.{Cuts, none, one_more}
use Rattle.nine_fids.specs.States.{begun_with}
use Rattle.nine_front.specs.declared.nine_end.NineEnd.{NineEnd}
use Rattle.nine_front.specs.Ends.{NineReplies, NineEnds}
use Rattle.nine_front.specs.Ends as whole
use Rattle.nine_front.specs.NineTalking.{nine_cutting, nine_cutting_laws, nine_talking, nine_end}
use Rattle.nine_front.specs.Said.{Speaks}
use Rattle.nine_front.specs.SaidLaws.{Speaks-said}
use Rattle.nine_front.specs.Taken.{AreTaken, AreAllTaken, IsCutAtBad, IsReadWhole, IsCutOff, HoldsButLast, output_of, reply_bytes}
use Rattle.nine_front.proofs.StillLemmas.{ports_in}

-- ---- what was taken

cuts_are : (agreed to : ℕ) (left end : List ℕ) (messages : List MessageView) → cuts.Cuts nine_cutting agreed left messages to end → Cuts agreed left messages to end
cuts_are _ _ _ _ _ (cuts.none agreed left) = none agreed left
cuts_are _ _ _ _ _ (cuts.one_more agreed left m after rest messages to end first others) =
    one_more agreed left m rest messages to end first.next (subst (λ (n : ℕ). Cuts n rest messages to end) first.agrees (cuts_are after to rest end messages others))

-- what was read to its end was taken
taken_read : (bytes : List ℕ) (left left_after : Option (List ℕ)) → ReadsToEnd left left_after bytes → left ≡ with_front bytes left_after
taken_read bytes None left_after read = ap (with_front bytes) (sym read.end)
taken_read bytes (Some left) left_after read = ap Some (read.all ∙ sym (append-nil bytes)) ∙ ap (with_front bytes) (sym read.end)

module _ (left left_after : Option (List ℕ)) (messages : List MessageView) where
  are_taken : talks.AreTaken nine_cutting left left_after messages → AreTaken left left_after messages
  are_taken a = record { bytes = a.bytes; rest = a.rest; agreed = a.mark; taken = a.taken; cut = cuts_are 65536 a.mark a.bytes a.rest messages a.cut; few = a.few; limit = a.limit }

  are_all_taken : talks.AreAllTaken nine_cutting left left_after messages → AreAllTaken left left_after messages
  are_all_taken a = record { bytes = a.bytes; rest = a.rest; agreed = a.mark; taken = a.taken; cut = cuts_are 65536 a.mark a.bytes a.rest messages a.cut; is_open = a.is_open.is_open; limit = a.limit }

  at_bad : talks.IsCutAtBad nine_cutting left left_after messages → IsCutAtBad left left_after messages
  at_bad b = record {
    bytes = b.bytes ++ b.piece;
    rest = b.rest_after;
    agreed = b.mark_after;
    taken = b.taken;
    cut = cuts_are 65536 b.mark_after (b.bytes ++ b.piece) b.rest_after messages b.cut;
    is_bad = b.is_bad;
    few = b.few_left;
    limit = b.limit;
  }

  read_whole : talks.IsReadWhole nine_cutting left left_after messages → IsReadWhole left left_after messages
  read_whole w =
      let same : w.whole ≡ messages = sym (w.items_are ∙ ap (λ (l : List MessageView). w.whole ++ l) w.is_last.messages_are ∙ append-nil w.whole) in
      let cut = cuts_are 65536 w.mark w.bytes w.rest w.whole w.cut in
      record {
        bytes = w.bytes;
        agreed = w.mark;
        read = w.read;
        cut = subst (λ (b : List ℕ). Cuts 65536 w.bytes messages w.mark b) w.is_last.left_is (subst (λ (l : List MessageView). Cuts 65536 w.bytes l w.mark w.rest) same cut);
        limit = w.limit;
      }

  cut_off : talks.IsCutOff nine_cutting left left_after messages → IsCutOff left left_after messages
  cut_off w = record { bytes = w.bytes; rest = w.rest; agreed = w.mark; read = w.read; cut = cuts_are 65536 w.mark w.bytes w.rest messages w.cut; some = w.is_bad; is_open = w.is_open.is_open; limit = w.limit }

  -- what was answered was taken
  taken_at_bad : IsCutAtBad left left_after messages → AreTaken left left_after messages
  taken_at_bad b = record { bytes = b.bytes; rest = b.rest; agreed = b.agreed; taken = b.taken; cut = b.cut; few = b.few; limit = b.limit }

  taken_whole : IsReadWhole left left_after messages → AreTaken left left_after messages
  taken_whole w = record { bytes = w.bytes; rest = []; agreed = w.agreed; taken = taken_read w.bytes left left_after w.read; cut = w.cut; few = omega arith; limit = omega (arith, w.limit) }

  taken_cut_off : (w : talks.IsCutOff nine_cutting left left_after messages) → length w.rest ≤ 65536 → AreTaken left left_after messages
  taken_cut_off w few = record {
    bytes = w.bytes;
    rest = w.rest;
    agreed = w.mark;
    taken = taken_read w.bytes left left_after w.read;
    cut = cuts_are 65536 w.mark w.bytes w.rest messages w.cut;
    few = omega (arith, few);
    limit = omega (arith, w.limit);
  }

-- ---- how it ends

module _ {D : Type 0} (faults : D → ℕ) (gives : List StoreEntry → ℤ → Type 0) (nonce : List ℕ) (old new : PassView (LockEntry D)) (before after : Streams) where
  speaks : (messages : List MessageView) (replies : List ReplyView) → talk.Speaks (nine_talking faults gives) (begun_with nonce) old new messages replies → Speaks faults gives nonce old new messages replies
  speaks messages replies s = Speaks-said faults gives nonce s.end old new messages replies s.said

  replies_are : (messages : List MessageView) (replies : List ReplyView) (how : TalkEnd) → TalkReplies (nine_talking faults gives) (begun_with nonce) old new (ports_in before) (ports_in after) messages replies how → NineReplies faults gives nonce old new before after (nine_end how) messages replies
  replies_are messages replies _ (talk.done w s) = whole.done messages replies (read_whole before.left after.left messages w) (speaks messages replies s)
  replies_are messages replies _ (talk.at_bad b s) = whole.at_bad messages replies (at_bad before.left after.left messages b) (speaks messages replies s)
  replies_are messages replies _ (talk.cut_off w s) = whole.cut_off messages replies (cut_off before.left after.left messages w) (speaks messages replies s)
  replies_are messages replies _ (talk.read_fault risen a s) = whole.read_fault messages replies risen (are_all_taken before.left after.left messages a) (speaks messages replies s)
  replies_are messages replies _ (talk.input_too_long first a s) = whole.input_too_long messages replies first (are_all_taken before.left after.left messages a) (speaks messages replies s)

  -- nothing is told of what is no message
  told_is : (how : TalkEnd) (bytes : List ℕ) → all_told (nine_talking faults gives) how bytes ≡ bytes
  told_is hows.Done bytes = refl
  told_is hows.Bad bytes = append-nil bytes
  told_is hows.ReadFault bytes = refl
  told_is hows.WriteFault bytes = refl
  told_is hows.NoMemory bytes = refl
  told_is hows.InputTooLong bytes = refl

  -- bytes were not written, since the output failed or memory ran out
  by_fault : (fault : Unsent) (messages : List MessageView) (replies : List ReplyView) → (fault ≡ unsents.Write → HasRisen before.write_faults after.write_faults) → AreTaken before.left after.left messages → Speaks faults gives nonce old new messages replies → HoldsButLast before.held after.held messages replies →
      NineEnds faults gives nonce old new before (nine_end (unsent_end fault)) after
  by_fault unsents.Write messages replies risen taken said some = whole.write_fault after messages replies (risen refl) taken said some
  by_fault unsents.NoMemory messages replies risen taken said some = whole.no_memory after messages replies taken said some

  under_way : (messages : List MessageView) (replies : List ReplyView) → IsUnderWay (nine_talking faults gives) (begun_with nonce) old new (ports_in before) (ports_in after) messages replies → AreTaken before.left after.left messages × Speaks faults gives nonce old new messages replies
  under_way messages replies (talk.while_reading a s) = (are_taken before.left after.left messages a, speaks messages replies s)
  under_way messages replies (talk.all_read w s) = (taken_whole before.left after.left messages (read_whole before.left after.left messages w), speaks messages replies s)

  under_way_at_bad : (messages : List MessageView) (replies : List ReplyView) → TalkReplies (nine_talking faults gives) (begun_with nonce) old new (ports_in before) (ports_in after) messages replies hows.Bad → AreTaken before.left after.left messages × Speaks faults gives nonce old new messages replies
  under_way_at_bad messages replies (talk.at_bad b s) = (taken_at_bad before.left after.left messages (at_bad before.left after.left messages b), speaks messages replies s)
  under_way_at_bad messages replies (talk.cut_off w s) = (taken_cut_off before.left after.left messages w (nine_cutting_laws.few w.mark w.rest w.is_open), speaks messages replies s)

  by_talk : (how : TalkEnd) → TalkEnds (nine_talking faults gives) (begun_with nonce) old new (ports_in before) (ports_in after) how → NineEnds faults gives nonce old new before (nine_end how) after
  by_talk _ (talk.written how messages replies all out) =
      whole.written (nine_end how) after messages replies (replies_are messages replies how all) (out ∙ ap (with_back before.held) (told_is how (output_of messages replies)))
  by_talk _ (talk.cut_short fault messages replies risen way some) = let u = under_way messages replies way in by_fault fault messages replies risen u.0 u.1 some
  by_talk _ (talk.cut_at_bad fault messages replies risen all some) =
      let u = under_way_at_bad messages replies all in
      by_fault fault messages replies risen u.0 u.1 (replies_alone reply_bytes before.held after.held messages replies some)

  pub NineEnds-talk : (how : TalkEnd) (end : NineEnd) → end ≡ nine_end how → TalkEnds (nine_talking faults gives) (begun_with nonce) old new (ports_in before) (ports_in after) how → NineEnds faults gives nonce old new before end after
  NineEnds-talk how end is ended = subst (λ (n : NineEnd). NineEnds faults gives nonce old new before n after) (sym is) (by_talk how ended)
