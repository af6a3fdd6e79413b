-- Messages that are taken by a store, one after the other.
use Rattle.std.proofs.Common.{◌≡◌, inl, inr, ℕ, ◌+◌, ◌≤◌, take, arith, append-nil, length-append, List, [], ◌∷◌, ◌++◌, length, Option, None, Result, OnOk, refl, sym, ap, subst, ◌∙◌, append_assoc}
use Rattle.std.specs.Prelude.{IfErr}
use Rattle.std.proofs.Math.Seq.{take-append-add}
use Rattle.std.specs.List.{AllByRecursion}
use Rattle.pcfs_ports.specs.Observable.{with_back}
use Rattle.pcfs_ports.proofs.TakesLemmas.{with_back-with_back}
use Rattle.event_messages.specs.Messages.{Message, IsMessage, messages_spelling}
use Rattle.event_messages.specs.Reader.{ReaderState, after_message, BeginsNoMessage, MayGoOn}
use Rattle.session_loop.specs.Written.{but_last}
use Rattle.follower.specs.declared.taking.Taken.{Taken}
use Rattle.pcfs_store.specs.Entries.{StoreEntry}
use Rattle.pcfs_store.specs.StoreView.{StoreView}
use Rattle.pcfs_session.specs.ScriptRun.{ScriptState}
use Rattle.pcfs_session.proofs.OutboxLemmas.{with_back-nil}
use Rattle.pcfs_session.proofs.StoredLemmas.{StoreGoesOn-on, StoreGoesOn-same, runs_for}
use Rattle.follow_run.specs.AnswerText.{answer_line, answer_lines, HoldsButLast}
use Rattle.follow_run.specs.FollowRun.{FollowRun}
use Rattle.follow_run.specs.FollowRun as follows
use Rattle.follow_run.specs.Followed.{standing_at, AreOutAt, WereTaken, AreAnswered, HaltsAt, HaltsBy, TakesAll, StopsWithin, halted, no_message}
use Rattle.follow_run.specs.Taken.{AreFirst}
use Rattle.follow_run.specs.declared.follow_end.FollowEnd.{FollowEnd}
use Rattle.follow_run.specs.declared.follow_end.FollowEnd.TheVariants as ends
use Rattle.follow_run.proofs.BoundLemmas.{IsFirst}
use Rattle.follow_run.proofs.StoreLemmas.{HaltsAt-none}
use Rattle.follow_run.proofs.RunLemmas.{FollowRun-then, lines-then, answers_each, spelling-append, spelling-one}

-- ---- the first messages of bytes

pub All-append : {A : Type 0} (P : A → Type 0) (xs ys : List A) → AllByRecursion P xs → AllByRecursion P ys → AllByRecursion P (xs ++ ys)
All-append P [] ys all others = others
All-append P (x ∷ xs) ys all others = (all.0, All-append P xs ys all.1 others)

pub AreFirst-none : (bytes : List ℕ) → AreFirst bytes [] bytes
AreFirst-none bytes = record { whole = tt; parts = refl }

-- those of bytes that stand after others
pub AreFirst-then : (bytes left rest : List ℕ) (messages others : List Message) → AreFirst bytes messages left → AreFirst left others rest → AreFirst bytes (messages ++ others) rest
AreFirst-then bytes left rest messages others first next = record {
  whole = All-append IsMessage messages others first.whole next.whole;
  parts =
      first.parts ∙ ap (λ (b : List ℕ). messages_spelling messages ++ b) next.parts ∙ sym (append_assoc (messages_spelling messages) (messages_spelling others) rest)
      ∙ ap (λ (b : List ℕ). b ++ rest) (sym (spelling-append messages others));
}

AreFirst-one : (bytes rest : List ℕ) (message : Message) → IsFirst bytes message rest → AreFirst bytes (message ∷ []) rest
AreFirst-one bytes rest message first = record { whole = (first.is_message, tt); parts = first.parts ∙ ap (λ (b : List ℕ). b ++ rest) (sym (spelling-one message)) }

-- ---- what is out

-- after bytes that are out
pub out_after : (held between held_after : Option (List ℕ)) (first more : List ℕ) → between ≡ with_back held first → held_after ≡ with_back between more → held_after ≡ with_back held (first ++ more)
out_after held between held_after first more out next = next ∙ ap (λ (t : Option (List ℕ)). with_back t more) out ∙ with_back-with_back held first more

-- the same bytes in front of fewer and of more
longer : (front few many more : List ℕ) → length few ≤ length many + length more → length (front ++ few) ≤ length (front ++ many) + length more
longer front few many more within = omega (arith, within, length-append front few, length-append front many)

-- all lines but the last of these messages, after those of others, have no more bytes than those of the others and all of these but the last
but_last_length : (messages others : List Message) (told after : List Taken) → length told ≡ length messages → length (answer_lines (messages ++ others) (but_last (told ++ after))) ≤ length (answer_lines messages told) + length (answer_lines others (but_last after))
but_last_length [] others [] after each = omega arith
but_last_length [] others (taken ∷ told) after each = absurd (omega (arith, each))
but_last_length (message ∷ messages) others [] after each = absurd (omega (arith, each))
but_last_length (message ∷ messages) others (taken ∷ []) [] each = omega arith
but_last_length (message ∷ []) others (taken ∷ []) (next ∷ after) each =
    longer (answer_line message.number taken) (answer_lines others (but_last (next ∷ after))) [] (answer_lines others (but_last (next ∷ after))) (omega arith)
but_last_length (message ∷ (second ∷ messages)) others (taken ∷ []) (next ∷ after) each = absurd (omega (arith, each))
but_last_length (message ∷ messages) others (taken ∷ (second ∷ told)) after each =
    longer (answer_line message.number taken) (answer_lines (messages ++ others) (but_last ((second ∷ told) ++ after))) (answer_lines messages (second ∷ told)) (answer_lines others (but_last after))
    (but_last_length messages others (second ∷ told) after (omega (arith, each)))

-- no line is out, and there is none
pub none_out : (held held_after : Option (List ℕ)) → held_after ≡ held → HoldsButLast held held_after [] []
none_out held held_after same = record { some = record { count = 0; within = omega arith; held = same ∙ with_back-nil held }; earlier = omega arith }

module _ (held between held_after : Option (List ℕ)) (messages others : List Message) (told after : List Taken) (each : length told ≡ length messages) (lines : answer_lines (messages ++ others) (told ++ after) ≡ answer_lines messages told ++ answer_lines others after) (out : between ≡ with_back held (answer_lines messages told)) where
  pub last_after : HoldsButLast between held_after others after → HoldsButLast held held_after (messages ++ others) (told ++ after)
  last_after last = record {
    some = record {
      count = length (answer_lines messages told) + last.some.count;
      within = omega (arith, last.some.within, ap length lines, length-append (answer_lines messages told) (answer_lines others after));
      held =
          last.some.held ∙ ap (λ (t : Option (List ℕ)). with_back t (take last.some.count (answer_lines others after))) out ∙ with_back-with_back held (answer_lines messages told) (take last.some.count (answer_lines others after))
          ∙ ap (with_back held)
          (sym (take-append-add (answer_lines messages told) (answer_lines others after) last.some.count) ∙ ap (take (length (answer_lines messages told) + last.some.count)) (sym lines));
    };
    earlier = omega (arith, but_last_length messages others told after each, last.earlier);
  }

  out_at-after : (how : FollowEnd) → AreOutAt how between held_after others after → AreOutAt how held held_after (messages ++ others) (told ++ after)
  out_at-after ends.Stopped next = out_after held between held_after (answer_lines messages told) (answer_lines others after) out next ∙ ap (with_back held) (sym lines)
  out_at-after ends.WriteFault next = last_after next
  out_at-after ends.NoMemory next = last_after next
  out_at-after ends.Done next = next
  out_at-after (ends.BadFrame place) next = next
  out_at-after ends.ReadFault next = next
  out_at-after ends.InputTooLong next = next

-- all lines of a run are out
pub all_but_last : (start end : ScriptState) (held held_after : Option (List ℕ)) (messages : List Message) (told : List Taken) → FollowRun start messages told end → held_after ≡ with_back held (answer_lines messages told) → HoldsButLast held held_after messages told
all_but_last start end held held_after messages told run out =
    let each = answers_each start end messages told run in
    let lines : answer_lines (messages ++ []) (told ++ []) ≡ answer_lines messages told ++ [] =
    ap (λ (ts : List Taken). answer_lines (messages ++ []) ts) (append-nil told) ∙ ap (λ (ms : List Message). answer_lines ms told) (append-nil messages) ∙ sym (append-nil (answer_lines messages told)) in
    subst (λ (ms : List Message). HoldsButLast held held_after ms told) (append-nil messages)
    (subst (λ (ts : List Taken). HoldsButLast held held_after (messages ++ []) ts) (append-nil told) (last_after held held_after held_after messages [] told [] each lines out (none_out held_after held_after refl)))

module _ {D : Type 0} (clock : D → ℕ) (left_since : D → ℕ → List ℕ → Type 0) (image : D → Option (List ℕ)) (faults : D → ℕ) where
  abbrev Answered : List Message → StoreView D → StoreView D → Option (List ℕ) → Option (List ℕ) → Type 0
  Answered messages old new held held_after = AreAnswered clock left_since image faults messages old new held held_after

  abbrev Halts : List Message → StoreView D → StoreView D → Option (List ℕ) → FollowEnd → Option (List ℕ) → Type 0
  Halts messages old new held how held_after = HaltsAt clock left_since image faults messages old new held how held_after

  -- ---- some messages, and others

  WereTaken-then : (messages others : List Message) (old mid new : StoreView D) (met : Option StoreEntry) (told after : List Taken) → WereTaken clock left_since image faults messages old mid None told → WereTaken clock left_since image faults others mid new met after →
      WereTaken clock left_since image faults (messages ++ others) old new met (told ++ after)
  WereTaken-then messages others old mid new met told after one other = record {
    run = FollowRun-then (standing_at old None) (standing_at mid None) (standing_at new met) messages others told after one.run other.run;
    goes_on = StoreGoesOn-on clock left_since image faults old mid new met one.goes_on other.goes_on;
  }

  pub AreAnswered-none : (s : StoreView D) (held : Option (List ℕ)) → s.stop ≡ None → Answered [] s s held held
  AreAnswered-none s held running = record {
    told = [];
    were = record { run = follows.ended (standing_at s None); goes_on = StoreGoesOn-same clock left_since image faults s running };
    out = with_back-nil held;
  }

  pub AreAnswered-then : (messages others : List Message) (old mid new : StoreView D) (held between held_after : Option (List ℕ)) → Answered messages old mid held between → Answered others mid new between held_after → Answered (messages ++ others) old new held held_after
  AreAnswered-then messages others old mid new held between held_after one other = record {
    told = one.told ++ other.told;
    were = WereTaken-then messages others old mid new None one.told other.told one.were other.were;
    out =
        out_after held between held_after (answer_lines messages one.told) (answer_lines others other.told) one.out other.out
        ∙ ap (with_back held) (sym (lines-then (standing_at old None) (standing_at mid None) messages others one.told other.told one.were.run));
  }

  pub HaltsAt-then : (messages others : List Message) (old mid new : StoreView D) (held between held_after : Option (List ℕ)) (how : FollowEnd) → Answered messages old mid held between → Halts others mid new between how held_after → Halts (messages ++ others) old new held how held_after
  HaltsAt-then messages others old mid new held between held_after how one other = record {
    told = one.told ++ other.told;
    met = other.met;
    were = WereTaken-then messages others old mid new other.met one.told other.told one.were other.were;
    is_met = other.is_met;
    out =
        out_at-after held between held_after messages others one.told other.told (answers_each (standing_at old None) (standing_at mid None) messages one.told one.were.run)
        (lines-then (standing_at old None) (standing_at mid None) messages others one.told other.told one.were.run) one.out how other.out;
  }

  -- where no disk failed the next message is taken
  pub runs_on : (messages : List Message) (old new : StoreView D) (held held_after : Option (List ℕ)) → Answered messages old new held held_after → new.stop ≡ None
  runs_on messages old new held held_after answered = runs_for new.stop answered.were.goes_on.stop_for

  -- ---- the messages that a reader has

  module _ (bytes : List ℕ) (start : StoreView D) (held : Option (List ℕ)) where
    -- the first messages of the bytes were taken, and this is left
    pub record IsTaking (now : StoreView D) (left : List ℕ) (held_now : Option (List ℕ)) : Type 0 where
      pub messages : List Message
      pub first : AreFirst bytes messages left
      pub answered : Answered messages start now held held_now

    pub IsTaking-start : start.stop ≡ None → IsTaking start bytes held
    IsTaking-start running = record { messages = []; first = AreFirst-none bytes; answered = AreAnswered-none start held running }

    pub running_now : (now : StoreView D) (left : List ℕ) (held_now : Option (List ℕ)) → IsTaking now left held_now → now.stop ≡ None
    running_now now left held_now so_far = runs_on so_far.messages start now held held_now so_far.answered

    pub IsTaking-more : (now next : StoreView D) (left rest : List ℕ) (message : Message) (held_now held_next : Option (List ℕ)) → IsTaking now left held_now → IsFirst left message rest → Answered (message ∷ []) now next held_now held_next → IsTaking next rest held_next
    IsTaking-more now next left rest message held_now held_next so_far first one = record {
      messages = so_far.messages ++ message ∷ [];
      first = AreFirst-then bytes left rest so_far.messages (message ∷ []) so_far.first (AreFirst-one left rest message first);
      answered = AreAnswered-then so_far.messages (message ∷ []) start now next held held_now held_next so_far.answered one;
    }

    -- and the reader took it
    pub IsTaking-taken : (now next : StoreView D) (before after : ReaderState) (rest : List ℕ) (message : Message) (held_now held_next : Option (List ℕ)) → IsTaking now before.left held_now → IsFirst before.left message rest → after ≡ after_message before message rest → Answered (message ∷ []) now next held_now held_next → IsTaking next after.left held_next
    IsTaking-taken now next before after rest message held_now held_next so_far first taken one =
        subst (λ (r : ReaderState). IsTaking next r.left held_next) (sym taken) (IsTaking-more now next before.left rest message held_now held_next so_far first one)

    pub TakesAll-now : (now : StoreView D) (left : List ℕ) (held_now : Option (List ℕ)) → IsTaking now left held_now → MayGoOn left → TakesAll clock left_since image faults bytes left start now held held_now
    TakesAll-now now left held_now so_far may_go_on = record { messages = so_far.messages; first = so_far.first; may_go_on = may_go_on; answered = so_far.answered }

    -- no message stands there
    pub StopsWithin-bad : (now : StoreView D) (left : List ℕ) (held_now : Option (List ℕ)) (place at : ℕ) → IsTaking now left held_now → BeginsNoMessage left → at + length left ≡ place + length bytes → StopsWithin clock left_since image faults bytes place start now held held_now (ends.BadFrame at)
    StopsWithin-bad now left held_now place at so_far none counted = no_message at so_far.messages left so_far.first none counted so_far.answered

    -- a call halts at the next message
    pub StopsWithin-halted : (now new : StoreView D) (left rest : List ℕ) (message : Message) (held_now held_after : Option (List ℕ)) (place : ℕ) (how : FollowEnd) → IsTaking now left held_now → IsFirst left message rest → HaltsBy clock left_since image faults message now new held_now how held_after →
        StopsWithin clock left_since image faults bytes place start new held held_after how
    StopsWithin-halted now new left rest message held_now held_after place how so_far first (inl halts) =
        halted how (so_far.messages ++ message ∷ []) rest (AreFirst-then bytes left rest so_far.messages (message ∷ []) so_far.first (AreFirst-one left rest message first))
        (HaltsAt-then so_far.messages (message ∷ []) start now new held held_now held_after how so_far.answered halts)
    StopsWithin-halted now new left rest message held_now held_after place how so_far first (inr halts) =
        halted how (so_far.messages ++ []) left (AreFirst-then bytes left left so_far.messages [] so_far.first (AreFirst-none left))
        (HaltsAt-then so_far.messages [] start now new held held_now held_after how so_far.answered halts)

  -- ---- a piece

  -- memory ran out for it
  pub StopsWithin-refused : (bytes : List ℕ) (place : ℕ) (s : StoreView D) (held held_after : Option (List ℕ)) → s.stop ≡ None → held_after ≡ held → StopsWithin clock left_since image faults bytes place s s held held_after ends.NoMemory
  StopsWithin-refused bytes place s held held_after running same = halted ends.NoMemory [] bytes (AreFirst-none bytes) (HaltsAt-none clock left_since image faults s held held_after running same)

  module _ (before after : ReaderState) (piece : List ℕ) (fed : after ≡ record before { left = before.left ++ piece }) where
    pub TakesAll-fed : {E : Type 0} (result : Result (Unit {0}) E) (left : List ℕ) (old new : StoreView D) (held held_after : Option (List ℕ)) → OnOk result (TakesAll clock left_since image faults after.left left old new held held_after) → OnOk result (TakesAll clock left_since image faults (before.left ++ piece) left old new held held_after)
    TakesAll-fed result left old new held held_after all = subst (λ (r : ReaderState). OnOk result (TakesAll clock left_since image faults r.left left old new held held_after)) fed all

    pub StopsWithin-fed : (result : Result (Unit {0}) FollowEnd) (old new : StoreView D) (held held_after : Option (List ℕ)) → IfErr result (StopsWithin clock left_since image faults after.left after.place old new held held_after) →
        IfErr result (StopsWithin clock left_since image faults (before.left ++ piece) before.place old new held held_after)
    StopsWithin-fed result old new held held_after stops = subst (λ (r : ReaderState). IfErr result (StopsWithin clock left_since image faults r.left r.place old new held held_after)) fed stops

pub as_many_fed : (before after : ReaderState) (piece : List ℕ) → after ≡ record before { left = before.left ++ piece } → {E : Type 0} (result : Result (Unit {0}) E) (count : ℕ) → OnOk result (count ≡ after.place + length after.left) → OnOk result (count ≡ before.place + length (before.left ++ piece))
as_many_fed before after piece fed result count same = subst (λ (r : ReaderState). OnOk result (count ≡ r.place + length r.left)) fed same
