-- A message that is taken by a store, and the store after it.
use Rattle.std.proofs.Common.{◌≡◌, ◌≢◌, ◌⊎◌, inl, inr, ◌≤◌, ℕ, Bool, true, false, List, [], ◌∷◌, Option, Some, None, Result, Ok, Err, refl, sym, ap, subst, ◌∙◌, arith, append-nil, ◌<◌, length}
use Rattle.std.specs.Prelude.{IfErr}
use Rattle.pcfs_ports.specs.Disk.{IsPinned}
use Rattle.pcfs_ports.specs.Faults.{HasRisen}
use Rattle.pcfs_ports.specs.Observable.{with_back, HoldsSome}
use Rattle.journal_records.specs.declared.event.Event.{Event}
use Rattle.event_messages.specs.Messages.{Message}
use Rattle.follower.specs.declared.taking.Taken.{Taken}
use Rattle.follower.specs.declared.taking.Taken.TheVariants as answers
use Rattle.follower.specs.Taking.{IsNextEvent, Takes}
use Rattle.follower.specs.Taking as takes
use Rattle.pcfs_store.specs.Checkpoints.{SurvivesMetAt}
use Rattle.pcfs_store.specs.Entries.{StoreEntry, happened, checkpointed}
use Rattle.pcfs_store.specs.Newest.{one_of, NewestBegins}
use Rattle.pcfs_store.specs.Ready.{IsReady, IsCurrent, IsAtRest, RestsSince, StopsNow, SurvivesStopAt}
use Rattle.pcfs_store.specs.StoreView.{StoreView, NoneFailed, first_disk, second_disk, body_of}
use Rattle.pcfs_store.specs.Steps.{with_event}
use Rattle.pcfs_store.proofs.SurvivalLemmas.{one_longer, rests_ready, rests_same}
use Rattle.pcfs_store.proofs.CountLemmas.{NoneFailed-same, NoneFailed-event}
use Rattle.pcfs_session.specs.Stored.{StoreGoesOn}
use Rattle.pcfs_session.proofs.OutboxLemmas.{with_back-nil}
use Rattle.pcfs_session.proofs.StoredLemmas.{none_some, event_no_checkpoint, running_for, StoreGoesOn-same}
use Rattle.follow_run.specs.AnswerText.{answer_line, HoldsButLast}
use Rattle.follow_run.specs.FollowRun.{IsNextIn, TakesIn}
use Rattle.follow_run.specs.FollowRun as follows
use Rattle.follow_run.specs.Followed.{standing_at, IsOutAt, AreOutAt, IsMetAt, WereTaken, AreAnswered, HaltsAt, HaltsBy}
use Rattle.follow_run.specs.declared.follow_end.FollowEnd.{FollowEnd}
use Rattle.follow_run.specs.declared.follow_end.FollowEnd.TheVariants as ends
use Rattle.follow_run.proofs.RunLemmas.{lines-one}

-- what follows of a fault from two facts on it
pub by_both : {A E : Type 0} (r : Result A E) (P Q R : E → Type 0) → ((e : E) → P e → Q e → R e) → IfErr r P → IfErr r Q → IfErr r R
by_both (Ok x) P Q R both p q = tt
by_both (Err e) P Q R both p q = both e p q

-- a result has one fault
pub one_fault : {A E : Type 0} (x y : E) (r : Result A E) → r ≡ Err x → r ≡ Err y → x ≡ y
one_fault x y r first second = cc

some_same : {A : Type 0} (x y : A) → Some x ≡ Some y → x ≡ y
some_same x y is = cc

-- the count of the disk in its place
risen_at : {D : Type 0} (faults : D → ℕ) (old active other : D) (second_active : Bool) → HasRisen (faults old) (faults active) →
    HasRisen (faults (one_of old other second_active)) (faults (one_of active other second_active)) ⊎ HasRisen (faults (one_of other old second_active)) (faults (one_of other active second_active))
risen_at faults old active other false risen = inl risen
risen_at faults old active other true risen = inr risen

-- the area stays in its place, the other disk is not touched, and no checkpoint is made
record StaysInPlace {D : Type 0} (old new : StoreView D) : Type 0 where
  generation : new.generation ≡ old.generation
  place : new.second_active ≡ old.second_active
  other : new.other ≡ old.other
  checkpoints : new.checkpoints ≡ old.checkpoints
  opened : new.opened ≡ old.opened

-- ---- the answer

next_in : {D : Type 0} (old : StoreView D) (message : Message) (event : Event) → IsNextEvent old message.number message.payload event → IsNextIn (standing_at old None) message event
next_in old message event n = record { numbered = n.numbered; payload_is = n.payload_is; enters = n.enters }

module _ {D : Type 0} (faults : D → ℕ) where
  takes_in : (old new : StoreView D) (message : Message) (taken : Taken) → taken ≢ answers.Stopped → taken ≢ answers.NoMemory → Takes faults old message.number message.payload taken new → TakesIn (standing_at old None) message taken (standing_at new None)
  takes_in old _ message _ going had (takes.stopped earlier is) = absurd (going refl)
  takes_in old _ message _ going had (takes.known goes few) = follows.known few
  takes_in old _ message _ going had (takes.missing goes more) = follows.missing more
  takes_in old _ message _ going had (takes.damaged damage goes at is) = follows.damaged damage at is
  takes_in old _ message _ going had (takes.full event goes n over) = follows.full event (next_in old message event n) over
  takes_in old _ message _ going had (takes.failed event active goes n fits risen) = absurd (going refl)
  takes_in old _ message _ going had (takes.kept event active goes n fits stood) = follows.kept event (next_in old message event n) fits
  takes_in old _ message _ going had (takes.without_memory goes at) = absurd (had refl)

  -- no disk failed for a message that is answered otherwise
  still_runs : (old new : StoreView D) (number : ℕ) (payload : List ℕ) (taken : Taken) → taken ≢ answers.Stopped → Takes faults old number payload taken new → new.stop ≡ None
  still_runs old _ number payload _ going (takes.stopped earlier is) = absurd (going refl)
  still_runs old _ number payload _ going (takes.known goes few) = goes
  still_runs old _ number payload _ going (takes.missing goes more) = goes
  still_runs old _ number payload _ going (takes.damaged damage goes at is) = goes
  still_runs old _ number payload _ going (takes.full event goes n over) = goes
  still_runs old _ number payload _ going (takes.failed event active goes n fits risen) = absurd (going refl)
  still_runs old _ number payload _ going (takes.kept event active goes n fits stood) = goes
  still_runs old _ number payload _ going (takes.without_memory goes at) = goes

  stays_in_place : (old new : StoreView D) (number : ℕ) (payload : List ℕ) (taken : Taken) → Takes faults old number payload taken new → StaysInPlace old new
  stays_in_place old _ number payload _ (takes.stopped earlier is) = record { generation = refl; place = refl; other = refl; checkpoints = refl; opened = refl }
  stays_in_place old _ number payload _ (takes.known goes few) = record { generation = refl; place = refl; other = refl; checkpoints = refl; opened = refl }
  stays_in_place old _ number payload _ (takes.missing goes more) = record { generation = refl; place = refl; other = refl; checkpoints = refl; opened = refl }
  stays_in_place old _ number payload _ (takes.damaged damage goes at is) = record { generation = refl; place = refl; other = refl; checkpoints = refl; opened = refl }
  stays_in_place old _ number payload _ (takes.full event goes n over) = record { generation = refl; place = refl; other = refl; checkpoints = refl; opened = refl }
  stays_in_place old _ number payload _ (takes.failed event active goes n fits risen) = record { generation = refl; place = refl; other = refl; checkpoints = refl; opened = refl }
  stays_in_place old _ number payload _ (takes.kept event active goes n fits stood) = record { generation = refl; place = refl; other = refl; checkpoints = refl; opened = refl }
  stays_in_place old _ number payload _ (takes.without_memory goes at) = record { generation = refl; place = refl; other = refl; checkpoints = refl; opened = refl }

  -- no call of a disk failed then
  none_failed_by : (old new : StoreView D) (number : ℕ) (payload : List ℕ) (taken : Taken) → taken ≢ answers.Stopped → Takes faults old number payload taken new → NoneFailed faults old new
  none_failed_by old _ number payload _ going (takes.stopped earlier is) = NoneFailed-same faults old
  none_failed_by old _ number payload _ going (takes.known goes few) = NoneFailed-same faults old
  none_failed_by old _ number payload _ going (takes.missing goes more) = NoneFailed-same faults old
  none_failed_by old _ number payload _ going (takes.damaged damage goes at is) = NoneFailed-same faults old
  none_failed_by old _ number payload _ going (takes.full event goes n over) = NoneFailed-same faults old
  none_failed_by old _ number payload _ going (takes.failed event active goes n fits risen) = absurd (going refl)
  none_failed_by old _ number payload _ going (takes.kept event active goes n fits stood) = NoneFailed-event faults old event active stood
  none_failed_by old _ number payload _ going (takes.without_memory goes at) = NoneFailed-same faults old

  no_memory : (old new : StoreView D) (number : ℕ) (payload : List ℕ) → Takes faults old number payload answers.NoMemory new → new ≡ old
  no_memory old _ number payload (takes.without_memory goes at) = refl

-- ---- its line

one_last : (held held_after : Option (List ℕ)) (message : Message) (taken : Taken) → HoldsSome held held_after (answer_line message.number taken) → HoldsButLast held held_after (message ∷ []) (taken ∷ [])
one_last held held_after message taken some = record { some = subst (HoldsSome held held_after) (sym (lines-one message taken)) some; earlier = omega arith }

out_at-one : (how : FollowEnd) (held held_after : Option (List ℕ)) (message : Message) (taken : Taken) → IsOutAt how held held_after (answer_line message.number taken) → AreOutAt how held held_after (message ∷ []) (taken ∷ [])
out_at-one ends.Stopped held held_after message taken out = out ∙ ap (with_back held) (sym (lines-one message taken))
out_at-one ends.WriteFault held held_after message taken out = one_last held held_after message taken out
out_at-one ends.NoMemory held held_after message taken out = one_last held held_after message taken out
out_at-one ends.Done held held_after message taken out = out
out_at-one (ends.BadFrame place) held held_after message taken out = out
out_at-one ends.ReadFault held held_after message taken out = out
out_at-one ends.InputTooLong held held_after message taken out = out

-- ---- the store goes on

module _ {D : Type 0} (clock : D → ℕ) (left_since : D → ℕ → List ℕ → Type 0) (image : D → Option (List ℕ)) (faults : D → ℕ) where
  -- what the taking of a message says
  pub record Took (old : StoreView D) (message : Message) (taken : Taken) (new : StoreView D) : Type 0 where
    pub answer : Takes faults old message.number message.payload taken new
    pub ready : IsReady clock left_since image old → taken ≢ answers.Stopped → IsReady clock left_since image new
    pub current : IsCurrent clock left_since image old → taken ≢ answers.Stopped → IsCurrent clock left_since image new
    pub met : IsReady clock left_since image old → taken ≡ answers.Stopped → StopsNow clock left_since image new (SurvivesStopAt old.base old.events old.generation old.second_active new.met)
    pub met_at_rest : IsAtRest clock left_since image old → taken ≡ answers.Stopped → StopsNow clock left_since image new (NewestBegins old.generation old.second_active (body_of old))
    pub makes_ready : IsCurrent clock left_since image old → length old.events < length new.events → (active other : List ℕ) → image old.active ≡ Some active → image old.other ≡ Some other → IsPinned clock left_since image old.other → IsReady clock left_since image new
    pub first_never_falls : faults (first_disk old) ≤ faults (first_disk new)
    pub second_never_falls : faults (second_disk old) ≤ faults (second_disk new)

  -- a store at rest is so after a message that was taken, and ready if its event was kept
  rests_since : (old new : StoreView D) (message : Message) (taken : Taken) → taken ≢ answers.Stopped → Took old message taken new → Takes faults old message.number message.payload taken new → IsAtRest clock left_since image old → RestsSince clock left_since image old new
  rests_since old _ message _ going t (takes.stopped earlier is) rest = absurd (going refl)
  rests_since old _ message _ going t (takes.known goes few) rest = rests_same clock left_since image old rest
  rests_since old _ message _ going t (takes.missing goes more) rest = rests_same clock left_since image old rest
  rests_since old _ message _ going t (takes.damaged damage goes at is) rest = rests_same clock left_since image old rest
  rests_since old _ message _ going t (takes.full event goes n over) rest = rests_same clock left_since image old rest
  rests_since old _ message _ going t (takes.failed event active goes n fits risen) rest = absurd (going refl)
  rests_since old _ message _ going t (takes.kept event active goes n fits stood) rest =
      rests_ready clock left_since image (with_event old event active) old (t.makes_ready rest.current (one_longer old.events event) rest.active_bytes rest.other_bytes rest.active_told rest.other_told rest.other_pinned)
  rests_since old _ message _ going t (takes.without_memory goes at) rest = rests_same clock left_since image old rest

  goes_running : (old new : StoreView D) (message : Message) (taken : Taken) → taken ≢ answers.Stopped → Took old message taken new → StoreGoesOn clock left_since image faults old new None
  goes_running old new message taken going t =
      let place = stays_in_place faults old new message.number message.payload taken t.answer in
      record {
        stop_for = running_for new.stop (still_runs faults old new message.number message.payload taken going t.answer);
        opened_stays = place.opened;
        checkpoints_go_on = ([], append-nil old.checkpoints ∙ sym place.checkpoints);
        generation_grows = omega (arith, place.generation);
        place_is = place.place;
        other_stays = λ none untried. place.other;
        ready = λ is none. t.ready is going;
        halts = λ is entry same. none_some entry same;
        at_rest = λ rest none. rests_since old new message taken going t t.answer rest;
        halts_mended = λ rest entry same. none_some entry same;
        halts_checkpoint = λ rest pass same. none_some (checkpointed pass) same;
        halts_event = λ rest event same. none_some (happened event) same;
        current = λ is none. t.current is going;
        first_never_falls = t.first_never_falls;
        second_never_falls = t.second_never_falls;
        none_failed = λ none. none_failed_by faults old new message.number message.payload taken going t.answer;
        failed = λ entry same. none_some entry same;
      }

  were_taken : (old new : StoreView D) (message : Message) (taken : Taken) → taken ≢ answers.Stopped → taken ≢ answers.NoMemory → Took old message taken new → WereTaken clock left_since image faults (message ∷ []) old new None (taken ∷ [])
  were_taken old new message taken going had t = record {
    run = follows.one_more (standing_at old None) message [] taken [] (standing_at new None) (standing_at new None) refl (takes_in faults old new message taken going had t.answer) (follows.ended (standing_at new None));
    goes_on = goes_running old new message taken going t;
  }

  -- ---- one message

  -- it was answered, and its line is out
  pub AreAnswered-one : (old new : StoreView D) (message : Message) (taken : Taken) (held held_after : Option (List ℕ)) → taken ≢ answers.Stopped → taken ≢ answers.NoMemory → Took old message taken new → held_after ≡ with_back held (answer_line message.number taken) →
      AreAnswered clock left_since image faults (message ∷ []) old new held held_after
  AreAnswered-one old new message taken held held_after going had t out = record {
    told = taken ∷ [];
    were = were_taken old new message taken going had t;
    out = out ∙ ap (with_back held) (sym (lines-one message taken));
  }

  -- it was answered, and its line is not all out
  pub HaltsBy-unwritten : (old new : StoreView D) (message : Message) (taken : Taken) (held held_after : Option (List ℕ)) (how : FollowEnd) → taken ≢ answers.Stopped → taken ≢ answers.NoMemory → Took old message taken new →
      IsOutAt how held held_after (answer_line message.number taken) → IsMetAt how None → HaltsBy clock left_since image faults message old new held how held_after
  HaltsBy-unwritten old new message taken held held_after how going had t out met = inl (record {
    told = taken ∷ [];
    met = None;
    were = were_taken old new message taken going had t;
    is_met = met;
    out = out_at-one how held held_after message taken out;
  })

  -- a disk failed for its event
  by_fault : (old new : StoreView D) (message : Message) (held held_after : Option (List ℕ)) → old.stop ≡ None → held_after ≡ held → Took old message answers.Stopped new → Takes faults old message.number message.payload answers.Stopped new →
      HaltsAt clock left_since image faults (message ∷ []) old new held ends.Stopped held_after
  by_fault old _ message held held_after running same t (takes.stopped earlier is) = none_some earlier (sym running ∙ is)
  by_fault old _ message held held_after running same t (takes.failed event active goes n fits risen) = record {
    told = answers.Stopped ∷ [];
    met = Some (happened event);
    were = record {
      run = follows.one_more (standing_at old None) message [] answers.Stopped [] (record (standing_at old None) { met = Some (happened event) }) (record (standing_at old None) { met = Some (happened event) }) refl (follows.failed event (next_in old message event n) fits) (follows.ended (record (standing_at old None) { met = Some (happened event) }));
      goes_on = record {
        stop_for = tt;
        opened_stays = refl;
        checkpoints_go_on = ([], append-nil old.checkpoints);
        generation_grows = omega arith;
        place_is = refl;
        other_stays = λ none untried. refl;
        ready = λ is_ready none. none_some (happened event) (sym none);
        halts = λ is_ready entry same.
            subst (λ (x : StoreEntry). StopsNow clock left_since image (record old { active = active; stop = Some 0; met = Some event }) (SurvivesMetAt old.base old.events old.generation old.second_active x)) (some_same (happened event) entry same) (t.met is_ready refl);
        at_rest = λ rest none. none_some (happened event) (sym none);
        halts_mended = λ rest entry same added. absurd (added (record { events_stay = refl; checkpoints_stay = refl }));
        halts_checkpoint = λ rest pass same. event_no_checkpoint event pass same;
        halts_event = λ rest e same. t.met_at_rest rest refl;
        current = λ is_current none. none_some (happened event) (sym none);
        first_never_falls = t.first_never_falls;
        second_never_falls = t.second_never_falls;
        none_failed = λ none. none_some (happened event) (sym none);
        failed = λ entry same. risen_at faults old.active active old.other old.second_active risen;
      };
    };
    is_met = (happened event, refl);
    out = same ∙ with_back-nil held;
  }

  pub HaltsBy-stopped : (old new : StoreView D) (message : Message) (taken : Taken) (held held_after : Option (List ℕ)) → taken ≡ answers.Stopped → old.stop ≡ None → held_after ≡ held → Took old message taken new → HaltsBy clock left_since image faults message old new held ends.Stopped held_after
  HaltsBy-stopped old new message taken held held_after is running same took =
      let t = subst (λ (x : Taken). Took old message x new) is took in
      inl (by_fault old new message held held_after running same t t.answer)

  -- no message was taken, and no line is out
  pub HaltsAt-none : (s : StoreView D) (held held_after : Option (List ℕ)) → s.stop ≡ None → held_after ≡ held → HaltsAt clock left_since image faults [] s s held ends.NoMemory held_after
  HaltsAt-none s held held_after running same = record {
    told = [];
    met = None;
    were = record { run = follows.ended (standing_at s None); goes_on = StoreGoesOn-same clock left_since image faults s running };
    is_met = refl;
    out = record { some = record { count = 0; within = omega arith; held = same ∙ with_back-nil held }; earlier = omega arith };
  }

  -- memory ran out for it
  pub HaltsBy-memory : (old new : StoreView D) (message : Message) (taken : Taken) (held held_after : Option (List ℕ)) → taken ≡ answers.NoMemory → old.stop ≡ None → held_after ≡ held → Took old message taken new → HaltsBy clock left_since image faults message old new held ends.NoMemory held_after
  HaltsBy-memory old new message taken held held_after is running same took =
      let t = subst (λ (x : Taken). Took old message x new) is took in
      inr (subst (λ (s : StoreView D). HaltsAt clock left_since image faults [] old s held ends.NoMemory held_after) (sym (no_memory faults old new message.number message.payload t.answer)) (HaltsAt-none old held held_after running same))
