-- The entries of a pass under which a session ended are those of that session.
use Rattle.std.proofs.Common.{◌≡◌, ◌∙◌, ℕ, List, [], ◌++◌, Option, Some, None, refl, sym, ap, subst, append_assoc}
use mathlib.Core.List.{IsPrefix}
use Rattle.pcfs_ports.specs.Observable.{with_front, ReadsToEnd}
use Rattle.line_text.specs.Lines.{lines_of}
use Rattle.line_framer.specs.Framing.{ended}
use Rattle.line_framer.proofs.FramingLemmas.{lines_of-whole}
use Rattle.line_wire.specs.declared.reply.LineReply.{LineReply}
use Rattle.tree_lock.specs.Seen.{PassView}
use Rattle.tree_lock.proofs.EntryLemmas.{prefix_refl, prefix_trans}
use Rattle.session_history.specs.SessionState.{guest_with}
use Rattle.session_history.proofs.AskedLemmas.{entries_asked}
use Rattle.session_history.proofs.CallerLemmas.{callers_accepted}
use Rattle.shared_store.specs.declared.entry.LockEntry.{LockEntry}
use Rattle.shared_store.specs.LockHistory.{numbered, lock_history}
use Rattle.shared_store.specs.Turning.{pass_at}
use Rattle.shared_store.specs.Asking.{entries_seen}
use Rattle.pcfs_session.specs.Streams.{Streams}
use Rattle.pcfs_session.specs.Taken.{AreFirst}
use Rattle.pcfs_session.proofs.TakenLemmas.{IsBefore-long}
use Rattle.session_service.specs.declared.session_end.SessionEnd.{SessionEnd}
use Rattle.session_service.specs.declared.session_end.SessionEnd.TheVariants as session_ends
use Rattle.session_service.specs.Sessions.{SessionSources, AreFirstLines, AreOfSession, AreOfSeenSession}
use Rattle.session_service.specs.SessionEnds.{Speaks, IsUnderWay, IsUnderWayBy, SessionReplies, SessionRepliesBy, SessionEnds, SessionEndsBy}
use Rattle.session_service.specs.SessionEnds as ends
use Rattle.session_service.specs.Conversation.{AreThese}

-- ---- lines that were answered are the first of the input

first_of_all : (bytes rest more : List ℕ) (lines : List (List ℕ)) → AreFirst bytes lines rest → IsPrefix lines (lines_of (bytes ++ more))
first_of_all bytes rest more lines first = (
  lines_of (rest ++ more),
  sym (ap (λ (b : List ℕ). lines_of (b ++ more)) first.parts ∙ ap lines_of (append_assoc (ended lines) rest more) ∙ lines_of-whole lines (rest ++ more) first.whole),
)

-- the input has what was taken, and then what is left
AreFirstLines-front : (left_after : Option (List ℕ)) (bytes rest : List ℕ) (lines : List (List ℕ)) → AreFirst bytes lines rest → AreFirstLines (with_front bytes left_after) lines
AreFirstLines-front None bytes rest lines first = tt
AreFirstLines-front (Some more) bytes rest lines first = first_of_all bytes rest more lines first

AreFirstLines-taken : (left left_after : Option (List ℕ)) (bytes rest : List ℕ) (lines : List (List ℕ)) → left ≡ with_front bytes left_after → AreFirst bytes lines rest → AreFirstLines left lines
AreFirstLines-taken left left_after bytes rest lines taken first = subst (λ (o : Option (List ℕ)). AreFirstLines o lines) (sym taken) (AreFirstLines-front left_after bytes rest lines first)

AreFirstLines-read : (left left_after : Option (List ℕ)) (bytes : List ℕ) → ReadsToEnd left left_after bytes → AreFirstLines left (lines_of bytes)
AreFirstLines-read None left_after bytes reads = tt
AreFirstLines-read (Some all) left_after bytes reads = subst (λ (b : List ℕ). IsPrefix (lines_of bytes) (lines_of b)) (sym reads.all) (prefix_refl (lines_of bytes))

no_first_lines : (left : Option (List ℕ)) → AreFirstLines left []
no_first_lines None = tt
no_first_lines (Some bytes) = (lines_of bytes, refl)

-- ---- a session that ended

module _ {D : Type 0} (faults : D → ℕ) (sources : SessionSources) (nonce : List ℕ) (old new : PassView (LockEntry D)) (before : Streams) where
  -- what a session answered that is under way, and whatever it replied: the first lines of its input
  record HasWay (after : Streams) (answers : List LineReply) : Type 0 where
    lines : List (List ℕ)
    speaks : Speaks faults sources.gives nonce old new lines answers
    first : AreFirstLines before.left lines
    way : IsUnderWayBy (AreThese lines answers) before after answers

  record HasReplies (after : Streams) (how : SessionEnd) (written : List LineReply) : Type 0 where
    lines : List (List ℕ)
    answers : List LineReply
    speaks : Speaks faults sources.gives nonce old new lines answers
    first : AreFirstLines before.left lines
    replies : SessionRepliesBy (AreThese lines answers) before after how written

  -- and whatever its end
  record HasAnswered (how : SessionEnd) (after : Streams) : Type 0 where
    lines : List (List ℕ)
    answers : List LineReply
    speaks : Speaks faults sources.gives nonce old new lines answers
    first : AreFirstLines before.left lines
    told : SessionEndsBy (AreThese lines answers) nonce before how after

  by_way : (after : Streams) (answers : List LineReply) → IsUnderWay faults sources.gives nonce old new before after answers → HasWay after answers
  by_way after answers (ends.while_reading lines taken said) =
      record { lines = lines; speaks = said; first = AreFirstLines-taken before.left after.left taken.bytes taken.rest lines taken.taken taken.first; way = ends.while_reading lines taken (refl, refl) }
  by_way after answers (ends.all_read bytes reads short said) =
      record { lines = lines_of bytes; speaks = said; first = AreFirstLines-read before.left after.left bytes reads; way = ends.all_read bytes reads short (refl, refl) }

  by_replies : (after : Streams) (how : SessionEnd) (written : List LineReply) → SessionReplies faults sources.gives nonce old new before after how written → HasReplies after how written
  by_replies after _ _ (ends.done bytes answers reads short said) =
      record { lines = lines_of bytes; answers = answers; speaks = said; first = AreFirstLines-read before.left after.left bytes reads; replies = ends.done bytes answers reads short (refl, refl) }
  by_replies after _ _ (ends.line_too_long lines answers cut said) =
      let found = IsBefore-long (cut.bytes ++ cut.piece) lines cut.has_long in
      record {
        lines = lines;
        answers = answers;
        speaks = said;
        first = AreFirstLines-taken before.left after.left (cut.bytes ++ cut.piece) found.rest lines cut.taken found.first;
        replies = ends.line_too_long lines answers cut (refl, refl);
      }
  by_replies after _ _ (ends.read_fault lines answers risen all said) =
      record {
        lines = lines;
        answers = answers;
        speaks = said;
        first = AreFirstLines-taken before.left after.left all.bytes all.rest lines all.taken all.first;
        replies = ends.read_fault lines answers risen all (refl, refl);
      }
  by_replies after _ _ (ends.input_too_long lines answers much all said) =
      record {
        lines = lines;
        answers = answers;
        speaks = said;
        first = AreFirstLines-taken before.left after.left all.bytes all.rest lines all.taken all.first;
        replies = ends.input_too_long lines answers much all (refl, refl);
      }

  by_end : (how : SessionEnd) (after : Streams) → SessionEnds faults sources.gives nonce old new before how after → HasAnswered how after
  by_end _ _ (ends.written how after written replies out) =
      let h = by_replies after how written replies in
      record { lines = h.lines; answers = h.answers; speaks = h.speaks; first = h.first; told = ends.written how after written h.replies out }
  by_end _ _ (ends.greeting_cut_short after risen left reads some said) =
      record { lines = []; answers = []; speaks = said; first = no_first_lines before.left; told = ends.greeting_cut_short after risen left reads some (refl, refl) }
  by_end _ _ (ends.cut_short fault after answers risen way some) =
      let h = by_way after answers way in
      record { lines = h.lines; answers = answers; speaks = h.speaks; first = h.first; told = ends.cut_short fault after answers risen h.way some }
  by_end _ _ (ends.cut_at_long_line fault after written risen replies some) =
      let h = by_replies after session_ends.LineTooLong written replies in
      record { lines = h.lines; answers = h.answers; speaks = h.speaks; first = h.first; told = ends.cut_at_long_line fault after written risen h.replies some }

  -- the pass has its number
  pub number_ended : (how : SessionEnd) (after : Streams) → SessionEnds faults sources.gives nonce old new before how after → new.number ≡ old.number
  number_ended how after ended = (by_end how after ended).speaks.goes_on.number

  -- a pass that had no entries has those that the replies were given
  of_answered : (lines : List (List ℕ)) (answers : List LineReply) → old.own ≡ [] → Speaks faults sources.gives nonce old new lines answers → sources.may_say old.number nonce lines → sources.is_told old.number nonce lines answers →
      AreOfSeenSession sources new.seen new.number new.own
  of_answered lines answers none s said told = record {
    given = s.given;
    own_is = s.goes_on.own ∙ ap (λ (l : List (ℕ × LockEntry D)). l ++ numbered s.given) none;
    session = λ opening entries begins.
        let placed = s.placed opening entries begins in
        subst (λ (n : ℕ). AreOfSession sources (pass_at opening n) entries s.given) (sym s.goes_on.number)
        (record {
          nonce = nonce;
          lines = lines;
          answers = answers;
          from = entries_seen old;
          end = s.end;
          to = s.to;
          said = said;
          told = told;
          placed = placed;
          asked = entries_asked sources.gives (pass_at opening old.number) entries (guest_with nonce) (entries_seen old) lines answers s.end s.to s.given placed;
          callers = callers_accepted sources.gives (pass_at opening old.number) entries nonce (entries_seen old) lines answers s.end s.to s.given placed;
        });
  }

  pub AreOfSeenSession-ended : (how : SessionEnd) (after : Streams) → old.own ≡ [] → ((lines : List (List ℕ)) → AreFirstLines before.left lines → sources.may_say old.number nonce lines) →
      ((lines : List (List ℕ)) (answers : List LineReply) → SessionEndsBy (AreThese lines answers) nonce before how after → sources.is_told old.number nonce lines answers) → SessionEnds faults sources.gives nonce old new before how after →
      AreOfSeenSession sources new.seen new.number new.own
  AreOfSeenSession-ended how after none says tells ended =
      let h = by_end how after ended in
      of_answered h.lines h.answers none h.speaks (says h.lines h.first) (tells h.lines h.answers h.told)

-- ---- who has seen more has seen it

pub AreOfSeenSession-later : {D : Type 0} (sources : SessionSources) (seen more : List (ℕ × LockEntry D)) (number : ℕ) (own : List (ℕ × LockEntry D)) → IsPrefix seen more → AreOfSeenSession sources seen number own → AreOfSeenSession sources more number own
AreOfSeenSession-later sources seen more number own later s =
    record { given = s.given; own_is = s.own_is; session = λ opening entries begins. s.session opening entries (prefix_trans seen more (lock_history opening entries) later begins) }
