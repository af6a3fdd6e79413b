-- The entries of a pass under which a connection ended are those of its messages.
use Rattle.std.proofs.Common.{◌≡◌, ◌∙◌, ℕ, List, [], ◌++◌, Option, Some, None, refl, sym, ap, subst}
use mathlib.Core.List.{IsPrefix}
use Rattle.pcfs_ports.specs.Observable.{with_front, ReadsToEnd}
use Rattle.tree_lock.specs.Seen.{PassView}
use Rattle.tree_lock.proofs.EntryLemmas.{prefix_trans}
use Rattle.shared_store.specs.declared.entry.LockEntry.{LockEntry}
use Rattle.shared_store.specs.LockHistory.{numbered, lock_history}
use Rattle.shared_store.specs.Turning.{pass_at}
use Rattle.shared_store.specs.Asking.{entries_seen}
use Rattle.pcfs_session.specs.Streams.{Streams}
use Rattle.nine_messages.specs.Cutting.{Cuts}
use Rattle.nine_messages.specs.Requests.{MessageView}
use Rattle.nine_messages.specs.Replies.{ReplyView}
use Rattle.nine_messages.proofs.CuttingLemmas.{cuts_more}
use Rattle.nine_fids.specs.States.{begun_with}
use Rattle.nine_front.specs.declared.nine_end.NineEnd.{NineEnd}
use Rattle.nine_front.specs.Said.{Speaks}
use Rattle.nine_front.specs.Ends.{NineReplies, NineRepliesBy, NineEnds, NineEndsBy}
use Rattle.nine_front.specs.Ends as ends
use Rattle.nine_front.proofs.AskedLemmas.{entries_asked}
use Rattle.nine_front.proofs.CallerLemmas.{callers_accepted}
use Rattle.nine_front.proofs.PlacedLemmas.{messages_given}
use Rattle.session_service.specs.Conversation.{AreThese}
use Rattle.nine_service.specs.Passes.{NineSources, AreFirstMessages, AreOfNine, AreOfSeenNine}

-- ---- messages that were answered are the first of the input

-- the input has what was taken, and then what is left
front : (left_after : Option (List ℕ)) (bytes rest : List ℕ) (agreed : ℕ) (messages : List MessageView) → Cuts 65536 bytes messages agreed rest → AreFirstMessages (with_front bytes left_after) messages
front None bytes rest agreed messages cut = tt
front (Some more) bytes rest agreed messages cut = record { agreed = agreed; rest = rest ++ more; cut = cuts_more 65536 agreed bytes rest more messages cut }

taken_first : (left left_after : Option (List ℕ)) (bytes rest : List ℕ) (agreed : ℕ) (messages : List MessageView) → left ≡ with_front bytes left_after → Cuts 65536 bytes messages agreed rest → AreFirstMessages left messages
taken_first left left_after bytes rest agreed messages taken cut = subst (λ (o : Option (List ℕ)). AreFirstMessages o messages) (sym taken) (front left_after bytes rest agreed messages cut)

read_first : (left left_after : Option (List ℕ)) (bytes rest : List ℕ) (agreed : ℕ) (messages : List MessageView) → ReadsToEnd left left_after bytes → Cuts 65536 bytes messages agreed rest → AreFirstMessages left messages
read_first None left_after bytes rest agreed messages reads cut = tt
read_first (Some all) left_after bytes rest agreed messages reads cut =
    record { agreed = agreed; rest = rest; cut = subst (λ (b : List ℕ). Cuts 65536 b messages agreed rest) (sym reads.all) cut }

-- ---- a connection that ended

module _ {D : Type 0} (faults : D → ℕ) (sources : NineSources) (nonce : List ℕ) (old new : PassView (LockEntry D)) (before : Streams) where
  -- what was answered by these replies, and whatever the end: the first messages of the input
  record HasReplies (after : Streams) (how : NineEnd) (messages : List MessageView) (replies : List ReplyView) : Type 0 where
    speaks : Speaks faults sources.gives nonce old new messages replies
    first : AreFirstMessages before.left messages
    told : NineRepliesBy (AreThese messages replies) before after how messages replies

  record HasAnswered (how : NineEnd) (after : Streams) : Type 0 where
    messages : List MessageView
    replies : List ReplyView
    speaks : Speaks faults sources.gives nonce old new messages replies
    first : AreFirstMessages before.left messages
    told : NineEndsBy (AreThese messages replies) before how after

  by_replies : (after : Streams) (how : NineEnd) (messages : List MessageView) (replies : List ReplyView) → NineReplies faults sources.gives nonce old new before after how messages replies → HasReplies after how messages replies
  by_replies after _ _ _ (ends.done messages replies all said) = record { speaks = said; first = read_first before.left after.left all.bytes [] all.agreed messages all.read all.cut; told = ends.done messages replies all (refl, refl) }
  by_replies after _ _ _ (ends.at_bad messages replies all said) = record { speaks = said; first = taken_first before.left after.left all.bytes all.rest all.agreed messages all.taken all.cut; told = ends.at_bad messages replies all (refl, refl) }
  by_replies after _ _ _ (ends.cut_off messages replies all said) = record { speaks = said; first = read_first before.left after.left all.bytes all.rest all.agreed messages all.read all.cut; told = ends.cut_off messages replies all (refl, refl) }
  by_replies after _ _ _ (ends.read_fault messages replies risen all said) =
      record { speaks = said; first = taken_first before.left after.left all.bytes all.rest all.agreed messages all.taken all.cut; told = ends.read_fault messages replies risen all (refl, refl) }
  by_replies after _ _ _ (ends.input_too_long messages replies much all said) =
      record { speaks = said; first = taken_first before.left after.left all.bytes all.rest all.agreed messages all.taken all.cut; told = ends.input_too_long messages replies much all (refl, refl) }

  by_end : (how : NineEnd) (after : Streams) → NineEnds faults sources.gives nonce old new before how after → HasAnswered how after
  by_end _ _ (ends.written how after messages replies all out) =
      let h = by_replies after how messages replies all in
      record { messages = messages; replies = replies; speaks = h.speaks; first = h.first; told = ends.written how after messages replies h.told out }
  by_end _ _ (ends.write_fault after messages replies risen all said some) =
      record {
        messages = messages;
        replies = replies;
        speaks = said;
        first = taken_first before.left after.left all.bytes all.rest all.agreed messages all.taken all.cut;
        told = ends.write_fault after messages replies risen all (refl, refl) some;
      }
  by_end _ _ (ends.no_memory after messages replies all said some) =
      record {
        messages = messages;
        replies = replies;
        speaks = said;
        first = taken_first before.left after.left all.bytes all.rest all.agreed messages all.taken all.cut;
        told = ends.no_memory after messages replies all (refl, refl) some;
      }

  -- the pass has its number
  pub number_ended : (how : NineEnd) (after : Streams) → NineEnds faults sources.gives nonce old new before how after → new.number ≡ old.number
  number_ended how after ended = (by_end how after ended).speaks.goes_on.number

  -- a pass that had no entries has those that the replies were given
  of_answered : (messages : List MessageView) (replies : List ReplyView) → old.own ≡ [] → Speaks faults sources.gives nonce old new messages replies → sources.may_send old.number nonce messages → sources.is_told old.number messages replies →
      AreOfSeenNine sources new.seen new.number new.own
  of_answered messages replies none s sent told = record {
    given = s.given;
    own_is = s.goes_on.own ∙ ap (λ (l : List (ℕ × LockEntry D)). l ++ numbered s.given) none;
    nine = λ opening entries begins.
        let placed = (s.placed opening entries begins).0 in
        subst (λ (n : ℕ). AreOfNine sources (pass_at opening n) entries s.given) (sym s.goes_on.number)
        (record {
          nonce = nonce;
          messages = messages;
          replies = replies;
          from = entries_seen old;
          end = s.end;
          to = s.to;
          sent = sent;
          told = told;
          placed = placed;
          of_pass = messages_given sources.gives (pass_at opening old.number) entries (begun_with nonce) (entries_seen old) messages replies s.end s.to s.given placed;
          asked = entries_asked sources.gives (pass_at opening old.number) entries (begun_with nonce) (entries_seen old) messages replies s.end s.to s.given placed;
          callers = callers_accepted sources.gives (pass_at opening old.number) entries nonce (entries_seen old) messages replies s.end s.to s.given placed;
        });
  }

  pub AreOfSeenNine-ended : (how : NineEnd) (after : Streams) → old.own ≡ [] → ((messages : List MessageView) → AreFirstMessages before.left messages → sources.may_send old.number nonce messages) →
      ((messages : List MessageView) (replies : List ReplyView) → NineEndsBy (AreThese messages replies) before how after → sources.is_told old.number messages replies) → NineEnds faults sources.gives nonce old new before how after →
      AreOfSeenNine sources new.seen new.number new.own
  AreOfSeenNine-ended how after none sends tells ended =
      let h = by_end how after ended in
      of_answered h.messages h.replies none h.speaks (sends h.messages h.first) (tells h.messages h.replies h.told)

-- ---- who has seen more has seen it

pub AreOfSeenNine-later : {D : Type 0} (sources : NineSources) (seen more : List (ℕ × LockEntry D)) (number : ℕ) (own : List (ℕ × LockEntry D)) → IsPrefix seen more → AreOfSeenNine sources seen number own → AreOfSeenNine sources more number own
AreOfSeenNine-later sources seen more number own later s =
    record { given = s.given; own_is = s.own_is; nine = λ opening entries begins. s.nine opening entries (prefix_trans seen more (lock_history opening entries) later begins) }
