-- How a run ends, by what was taken and answered.
use Rattle.std.proofs.Common.{◌≡◌, ◌≢◌, ◌≤◌, ◌+◌, ℕ, List, [], ◌∷◌, ◌++◌, length, Option, None, refl, sym, ap, ◌∙◌, subst, append_assoc, append-nil, length-append, arith}
use Rattle.std.specs.List.{AllByRecursion}
use Rattle.pcfs_ports.specs.Observable.{with_front, IsAtEnd, ReadsToEnd}
use Rattle.pcfs_ports.proofs.TakesLemmas.{first_of_taken}
use Rattle.bl_syntax.specs.Codec.{AreBytes}
use Rattle.event_messages.specs.Messages.{Message, IsMessage, messages_spelling}
use Rattle.event_messages.specs.Reader.{ReaderState, MayGoOn}
use Rattle.follower.specs.declared.taking.Taken.{Taken}
use Rattle.pcfs_server.specs.Ends.{FailedLast}
use Rattle.pcfs_store.specs.Entries.{StoreEntry}
use Rattle.pcfs_store.specs.StoreView.{StoreView}
use Rattle.pcfs_session.specs.ScriptRun.{IsLawfulStanding}
use Rattle.pcfs_session.specs.Streams.{Streams}
use Rattle.pcfs_session.proofs.OutboxLemmas.{with_back-nil}
use Rattle.pcfs_session.proofs.StoredLemmas.{StoreGoesOn-same}
use Rattle.pcfs_session.proofs.TakenLemmas.{with_front-with_front, with_front-nil, ReadsToEnd-taken}
use Rattle.pcfs_tools.specs.Broken.{Broken}
use Rattle.follow_run.specs.AnswerText.{answer_lines}
use Rattle.follow_run.specs.FollowRun.{FollowsOver, HasEnded, done, bad_frame, read_fault, input_too_long, stopped, frame_line}
use Rattle.follow_run.specs.Followed.{standing_at, status_of, last_line_of, all_told, unwritten, without_memory, WereTaken, AreAnswered, HaltsAt, TakesAll, StopsWithin, halted, no_message, EndsFollowing}
use Rattle.follow_run.specs.Taken.{AreFirst, AreTaken, AreAllTaken, HasBadFrame}
use Rattle.follow_run.specs.Taken as frames
use Rattle.follow_run.specs.declared.follow_end.FollowEnd.{FollowEnd}
use Rattle.follow_run.specs.declared.follow_end.FollowEnd.TheVariants as ends
use Rattle.follow_run.proofs.AnsweredLemmas.{AreFirst-none, AreFirst-then, AreAnswered-none, AreAnswered-then, HaltsAt-then, runs_on}
use Rattle.follow_run.proofs.BoundLemmas.{few_open, MayGoOn-none, AreBytes-none}
use Rattle.follow_run.proofs.RunLemmas.{FollowsOver-ran, FollowsOver-none}

module _ {D : Type 0} (clock : D → ℕ) (left_since : D → ℕ → List ℕ → Type 0) (image : D → Option (List ℕ)) (faults : D → ℕ) (start : StoreView D) (before : Streams) where
  abbrev Answered : List Message → StoreView D → StoreView D → Option (List ℕ) → Option (List ℕ) → Type 0
  Answered messages old new held held_after = AreAnswered clock left_since image faults messages old new held held_after

  abbrev Ends : FollowEnd → StoreView D → Streams → Broken → Type 0
  Ends how new after broken = EndsFollowing clock left_since image faults start before how new after broken

  -- the input was taken so far: its messages were taken and the lines for them are out. This is left of the bytes, of which there were so many
  pub record IsReading (now : StoreView D) (reader : ReaderState) (left held : Option (List ℕ)) (count : ℕ) : Type 0 where
    pub messages : List Message
    pub whole : AllByRecursion IsMessage messages
    pub taken : before.left ≡ with_front (messages_spelling messages ++ reader.left) left
    pub counted : length (messages_spelling messages ++ reader.left) ≡ count
    pub place_is : reader.place + length reader.left ≡ count
    pub bytes : AreBytes reader.left
    pub may_go_on : MayGoOn reader.left
    pub answered : Answered messages start now before.held held

  pub IsReading-start : (reader : ReaderState) → start.stop ≡ None → reader ≡ record { left = []; place = 0 } → IsReading start reader before.left before.held 0
  IsReading-start reader running new =
      subst (λ (r : ReaderState). IsReading start r before.left before.held 0) (sym new)
      (record { messages = []; whole = tt; taken = with_front-nil before.left; counted = refl; place_is = refl; bytes = AreBytes-none; may_go_on = MayGoOn-none; answered = AreAnswered-none clock left_since image faults start before.held running })

  pub running_now : (now : StoreView D) (reader : ReaderState) (left held : Option (List ℕ)) (count : ℕ) → IsReading now reader left held count → now.stop ≡ None
  running_now now reader left held count r = runs_on clock left_since image faults r.messages start now before.held held r.answered

  -- the bytes of a piece are taken too
  also_taken : (messages : List Message) (open_bytes piece : List ℕ) (left left_after : Option (List ℕ)) → before.left ≡ with_front (messages_spelling messages ++ open_bytes) left → left ≡ with_front piece left_after → before.left ≡ with_front (messages_spelling messages ++ (open_bytes ++ piece)) left_after
  also_taken messages open_bytes piece left left_after taken more =
      taken ∙ ap (with_front (messages_spelling messages ++ open_bytes)) more ∙ with_front-with_front (messages_spelling messages ++ open_bytes) piece left_after
      ∙ ap (λ (b : List ℕ). with_front b left_after) (append_assoc (messages_spelling messages) open_bytes piece)

  -- messages of what was left and a piece, after those before
  also_first : (messages others : List Message) (bytes rest : List ℕ) → AllByRecursion IsMessage messages → AreFirst bytes others rest → AreFirst (messages_spelling messages ++ bytes) (messages ++ others) rest
  also_first messages others bytes rest whole first = AreFirst-then (messages_spelling messages ++ bytes) bytes rest messages others (record { whole = whole; parts = refl }) first

  -- so many bytes there were
  all_counted : (messages : List Message) (open_bytes piece : List ℕ) (count len : ℕ) → length (messages_spelling messages ++ open_bytes) ≡ count → length piece ≡ len → length (messages_spelling messages ++ (open_bytes ++ piece)) ≡ count + len
  all_counted messages open_bytes piece count len counted is_len =
      omega (arith, counted, is_len, length-append (messages_spelling messages) open_bytes, length-append (messages_spelling messages) (open_bytes ++ piece), length-append open_bytes piece)

  pub IsReading-more : (now next : StoreView D) (reader after : ReaderState) (piece : List ℕ) (left left_after held held_after : Option (List ℕ)) (count len : ℕ) → IsReading now reader left held count → left ≡ with_front piece left_after → length piece ≡ len →
      TakesAll clock left_since image faults (reader.left ++ piece) after.left now next held held_after → AreBytes after.left → after.place + length after.left ≡ reader.place + length (reader.left ++ piece) → IsReading next after left_after held_after (count + len)
  IsReading-more now next reader after piece left left_after held held_after count len r more is_len all bytes counted =
      let first = also_first r.messages all.messages (reader.left ++ piece) after.left r.whole all.first in
      record {
        messages = r.messages ++ all.messages;
        whole = first.whole;
        taken = also_taken r.messages reader.left piece left left_after r.taken more ∙ ap (λ (b : List ℕ). with_front b left_after) first.parts;
        counted = ap length (sym first.parts) ∙ all_counted r.messages reader.left piece count len r.counted is_len;
        place_is = omega (arith, counted, r.place_is, is_len, length-append reader.left piece);
        bytes = bytes;
        may_go_on = all.may_go_on;
        answered = AreAnswered-then clock left_since image faults r.messages all.messages start now next before.held held held_after r.answered all.answered;
      }

  module _ (stands : IsLawfulStanding (standing_at start None)) (after : Streams) (broken : Broken) where
    runs_over : (messages : List Message) (new : StoreView D) (met : Option StoreEntry) (answers : List Taken) → WereTaken clock left_since image faults messages start new met answers → FollowsOver (standing_at start None) messages (standing_at new met) (answer_lines messages answers)
    runs_over messages new met answers were = FollowsOver-ran (standing_at start None) (standing_at new met) messages answers stands were.run

    -- memory ran out before anything was taken
    pub EndsFollowing-unbegun : start.stop ≡ None → after.left ≡ before.left → after.held ≡ before.held → after.read_faults ≡ before.read_faults → after.write_faults ≡ before.write_faults → Ends ends.NoMemory start after broken
    EndsFollowing-unbegun running left held reads writes = record {
      met = None;
      ends =
          without_memory [] [] refl (FollowsOver-none (standing_at start None) stands)
          (record { bytes = []; rest = []; taken = with_front-nil before.left ∙ ap (with_front []) (sym left); first = AreFirst-none []; few = omega arith }) reads refl
          (record { some = record { count = 0; within = omega arith; held = held ∙ with_back-nil before.held }; earlier = omega arith }) writes;
      goes_on = StoreGoesOn-same clock left_since image faults start running;
    }

    -- it ends for this, and all lines so far are out
    tells_all : (how : FollowEnd) (messages : List Message) (new : StoreView D) (answered : Answered messages start new before.held after.held) → HasEnded (standing_at new None) before after broken.input messages (status_of how) (last_line_of how) → after.write_faults ≡ before.write_faults → Ends how new after broken
    tells_all how messages new answered ended writes = record {
      met = None;
      ends = all_told messages (answer_lines messages answered.told) (runs_over messages new None answered.told answered.were) ended answered.out writes;
      goes_on = answered.were.goes_on;
    }

    all_taken : (now : StoreView D) (reader : ReaderState) (held : Option (List ℕ)) (count : ℕ) → (r : IsReading now reader after.left held count) → AreAllTaken before.left after.left r.messages
    all_taken now reader held count r = record { bytes = messages_spelling r.messages ++ reader.left; rest = reader.left; taken = r.taken; first = record { whole = r.whole; parts = refl }; may_go_on = r.may_go_on }

    pub EndsFollowing-read_fault : (now : StoreView D) (reader : ReaderState) (left : Option (List ℕ)) (count : ℕ) → IsReading now reader left after.held count → after.left ≡ left → FailedLast before.read_faults after.read_faults broken.input → after.write_faults ≡ before.write_faults → Ends ends.ReadFault now after broken
    EndsFollowing-read_fault now reader left count reading same failed writes =
        let r = subst (λ (l : Option (List ℕ)). IsReading now reader l after.held count) (sym same) reading in
        tells_all ends.ReadFault r.messages now r.answered (read_fault failed (all_taken now reader after.held count r) refl) writes

    pub EndsFollowing-too_long : (now : StoreView D) (reader : ReaderState) (count : ℕ) → IsReading now reader after.left after.held count → count ≡ 1073741824 → after.read_faults ≡ before.read_faults → after.write_faults ≡ before.write_faults → Ends ends.InputTooLong now after broken
    EndsFollowing-too_long now reader count r all reads writes =
        tells_all ends.InputTooLong r.messages now r.answered
        (input_too_long (first_of_taken (messages_spelling r.messages ++ reader.left) 1073741824 before.left after.left (r.counted ∙ all) r.taken) (all_taken now reader after.held count r) reads refl) writes

    -- ---- at a piece

    -- it halts, where these messages were taken
    halts_by : (how : FollowEnd) (messages : List Message) (new : StoreView D) → HaltsAt clock left_since image faults messages start new before.held how after.held → AreTaken before.left after.left messages → after.read_faults ≡ before.read_faults →
        (how ≢ ends.WriteFault → after.write_faults ≡ before.write_faults) → (how ≡ ends.WriteFault → FailedLast before.write_faults after.write_faults broken.output) → Ends how new after broken
    unfolding runs_over FollowsOver-ran
    halts_by ends.Stopped messages new h taken reads still failed = record {
      met = h.met;
      ends = all_told messages (answer_lines messages h.told) (runs_over messages new h.met h.told h.were) (stopped h.is_met.0 taken reads h.is_met.1) h.out (still (λ e. cc));
      goes_on = h.were.goes_on;
    }
    halts_by ends.WriteFault messages new h taken reads still failed = record {
      met = h.met;
      ends = unwritten messages (answer_lines messages h.told) refl (runs_over messages new h.met h.told h.were) taken reads h.is_met (failed refl) h.out;
      goes_on = h.were.goes_on;
    }
    halts_by ends.NoMemory messages new h taken reads still failed = record {
      met = h.met;
      ends = without_memory messages (answer_lines messages h.told) refl (runs_over messages new h.met h.told h.were) taken reads h.is_met h.out (still (λ e. cc));
      goes_on = h.were.goes_on;
    }
    halts_by ends.Done messages new h taken reads still failed = absurd h.out
    halts_by (ends.BadFrame place) messages new h taken reads still failed = absurd h.out
    halts_by ends.ReadFault messages new h taken reads still failed = absurd h.out
    halts_by ends.InputTooLong messages new h taken reads still failed = absurd h.out

    -- no message stands at that place
    framed : (messages : List Message) (new : StoreView D) (at : ℕ) (answered : Answered messages start new before.held after.held) → HasBadFrame before.left after.left messages → after.read_faults ≡ before.read_faults → after.write_faults ≡ before.write_faults → at ≡ length (messages_spelling messages) →
        Ends (ends.BadFrame at) new after broken
    framed messages new at answered bad reads writes at_is =
        tells_all (ends.BadFrame at) messages new answered (subst (λ (n : ℕ). HasEnded (standing_at new None) before after broken.input messages 16 (frame_line n)) (sym at_is) (bad_frame bad reads refl)) writes

    module _ (now new : StoreView D) (reader : ReaderState) (piece : List ℕ) (left held : Option (List ℕ)) (count : ℕ) (r : IsReading now reader left held count) where
      few_left : (messages : List Message) (rest : List ℕ) → length piece ≤ 65536 → AreFirst (reader.left ++ piece) messages rest → length rest ≤ 1114125
      few_left messages rest small first = omega (arith, small, few_open reader.left r.may_go_on, ap length first.parts, length-append reader.left piece, length-append (messages_spelling messages) rest)

      pub EndsFollowing-piece : (how : FollowEnd) → left ≡ with_front piece after.left → length piece ≤ 65536 → after.read_faults ≡ before.read_faults → (how ≢ ends.WriteFault → after.write_faults ≡ before.write_faults) →
          (how ≡ ends.WriteFault → FailedLast before.write_faults after.write_faults broken.output) → StopsWithin clock left_since image faults (reader.left ++ piece) reader.place now new held after.held how → Ends how new after broken
      EndsFollowing-piece _ more small reads still failed (halted how messages rest first halts) =
          halts_by how (r.messages ++ messages) new (HaltsAt-then clock left_since image faults r.messages messages start now new before.held held after.held how r.answered halts) (record {
            bytes = messages_spelling r.messages ++ (reader.left ++ piece);
            rest = rest;
            taken = also_taken r.messages reader.left piece left after.left r.taken more;
            first = also_first r.messages messages (reader.left ++ piece) rest r.whole first;
            few = few_left messages rest small first;
          }) reads still failed
      EndsFollowing-piece _ more small reads still failed (no_message at messages rest first none counted answered) =
          let both = also_first r.messages messages (reader.left ++ piece) rest r.whole first in
          let whole : length (messages_spelling r.messages ++ (reader.left ++ piece)) ≡ length (messages_spelling (r.messages ++ messages)) + length rest = ap length both.parts ∙ length-append (messages_spelling (r.messages ++ messages)) rest in
          let total = all_counted r.messages reader.left piece count (length piece) r.counted refl in
          let at_is : at ≡ length (messages_spelling (r.messages ++ messages)) = omega (arith, counted, r.place_is, whole, total, length-append reader.left piece) in
          framed (r.messages ++ messages) new at (AreAnswered-then clock left_since image faults r.messages messages start now new before.held held after.held r.answered answered)
          (frames.no_message (messages_spelling r.messages ++ (reader.left ++ piece)) rest (also_taken r.messages reader.left piece left after.left r.taken more) both none (few_left messages rest small first)) reads (still (λ e. cc)) at_is

    -- ---- the end of the input

    to_end : (now : StoreView D) (reader : ReaderState) (left : Option (List ℕ)) (count : ℕ) → (r : IsReading now reader left after.held count) → left ≡ after.left → IsAtEnd after.left → ReadsToEnd before.left after.left (messages_spelling r.messages ++ reader.left)
    to_end now reader left count r same at_end = ReadsToEnd-taken (messages_spelling r.messages ++ reader.left) before.left after.left (r.taken ∙ ap (with_front (messages_spelling r.messages ++ reader.left)) same) at_end

    at_none : (now : StoreView D) (reader : ReaderState) (left : Option (List ℕ)) (count : ℕ) → IsReading now reader left after.held count → left ≡ after.left → IsAtEnd after.left → after.read_faults ≡ before.read_faults → after.write_faults ≡ before.write_faults → reader.left ≡ [] → Ends ends.Done now after broken
    at_none now reader left count r same at_end reads writes none =
        let all : messages_spelling r.messages ++ reader.left ≡ messages_spelling r.messages = ap (λ (b : List ℕ). messages_spelling r.messages ++ b) none ∙ append-nil (messages_spelling r.messages) in
        tells_all ends.Done r.messages now r.answered (done (record { whole = r.whole; to_end = subst (ReadsToEnd before.left after.left) all (to_end now reader left count r same at_end) }) reads refl) writes

    at_some : (now : StoreView D) (reader : ReaderState) (left : Option (List ℕ)) (count : ℕ) → IsReading now reader left after.held count → left ≡ after.left → IsAtEnd after.left → after.read_faults ≡ before.read_faults → after.write_faults ≡ before.write_faults → (reader.left ≡ [] → ⊥) → Ends (ends.BadFrame reader.place) now after broken
    at_some now reader left count r same at_end reads writes some =
        let place_is : reader.place ≡ length (messages_spelling r.messages) = omega (arith, r.place_is, r.counted, length-append (messages_spelling r.messages) reader.left) in
        framed r.messages now reader.place r.answered
        (frames.cut_off (messages_spelling r.messages ++ reader.left) reader.left (to_end now reader left count r same at_end) (record { whole = r.whole; parts = refl }) r.may_go_on some) reads writes place_is

    none_or_some : (bytes : List ℕ) (P : Type 0) → (bytes ≡ [] → P) → ((bytes ≡ [] → ⊥) → P) → P
    none_or_some [] P none some = none refl
    none_or_some (byte ∷ bytes) P none some = some (λ is. cc)

    pub EndsFollowing-last : (now : StoreView D) (reader : ReaderState) (left : Option (List ℕ)) (count : ℕ) (how : FollowEnd) → IsReading now reader left after.held count → left ≡ after.left → IsAtEnd after.left → after.read_faults ≡ before.read_faults → after.write_faults ≡ before.write_faults →
        (reader.left ≡ [] → how ≡ ends.Done) → ((reader.left ≡ [] → ⊥) → how ≡ ends.BadFrame reader.place) → Ends how now after broken
    EndsFollowing-last now reader left count how r same at_end reads writes if_none if_some =
        none_or_some reader.left (Ends how now after broken) (λ none. subst (λ (h : FollowEnd). Ends h now after broken) (sym (if_none none)) (at_none now reader left count r same at_end reads writes none))
        (λ some. subst (λ (h : FollowEnd). Ends h now after broken) (sym (if_some some)) (at_some now reader left count r same at_end reads writes some))
