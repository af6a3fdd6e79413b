-- What a step of a store says, at each of its ends.
use Rattle.std.proofs.Common.{◌≡◌, ℕ, ◌+◌, ◌<◌, ◌≤◌, List, [], ◌∷◌, ◌++◌, length, Some, None, IfSome, Bool, true, false, refl, sym, ◌∙◌, ap, subst, inl, inr, ⊎_elim, arith, length-append}
use Rattle.std.specs.Prelude.{Option, is_some, ℤ}
use Rattle.pcfs_ports.specs.Faults.{HasRisen}
use Rattle.pcfs_ports.specs.Disk.{LeavesOnly, IsPinned}
use Rattle.journal_core.specs.Area.{area_limit, record_bytes, Begins, StandsForBody, generation_of, Closed}
use Rattle.journal_core.specs.AreaView.{AreaView}
use Rattle.journal_core.specs.Rest.{Rests, IsWithOrWithout}
use Rattle.journal_core.proofs.RecordLemmas.{record_length}
use Rattle.journal_core.proofs.RestsLemmas.{some_same, at_told}
use Rattle.journal_records.specs.declared.event.Event.{Event}
use Rattle.access_history.specs.declared.request.StepRequest.{StepRequest}
use Rattle.access_history.specs.declared.reply.StepReply.{StepReply}
use Rattle.access_history.specs.Base.{BaseView}
use Rattle.bl_syntax.proofs.GrantLemmas.{AllByRecursion-push}
use Rattle.journal_records.specs.EventSpelling.{event_spelling, IsSpellableEvent}
use Rattle.pcfs_store.specs.declared.reply.StoreReply.{StoreReply}
use Rattle.pcfs_store.specs.declared.reply.StoreReply.TheVariants.{Step, Stopped}
use Rattle.pcfs_store.specs.StoredHistory.{area_since}
use Rattle.pcfs_store.specs.Newest.{one_of, NewestBegins, SurvivesWholeClosed}
use Rattle.pcfs_store.specs.StoreView.{StoreView, settled_of, image_since, image_of, body_of, AnswersIn, IsStore}
use Rattle.pcfs_store.specs.Ready.{IsBehind, IsReady, IsCurrent, IsAtRest, StopsNow, SurvivesWithOrWithout, SurvivesStopAt, Keeps, ready, halted}
use Rattle.pcfs_store.specs.Promises.{Promises}
use Rattle.pcfs_store.specs.Steps.{IsFullFor, with_event, Steps, kept, failed, LeavesStep}
use Rattle.pcfs_store.specs.Keeping.{Writes, HasWritten}
use Rattle.pcfs_store.proofs.SurvivalLemmas.{IsTellable, tellable_store, tellable_push, survives_there, begins_there, since_push, state_push, order_within, order_more, left_pairs, ready_survives_now, if_some}

none_more : (events : List Event) → length events < length events → ⊥
none_more events more = omega (arith, more)

none_some : (o : Option ℕ) (pass : ℕ) → o ≡ None → o ≡ Some pass → ⊥
none_some o pass none some = cc

module _ {D : Type 0} (clock : D → ℕ) (left_since : D → ℕ → List ℕ → Type 0) (image : D → Option (List ℕ)) (faults : D → ℕ) where
  -- all clauses of a step
  abbrev pub Clauses : StoreView D → ℕ → ℤ → StepRequest → StoreReply → StoreView D → Type 0
  Clauses old pass at request result new = Promises clock left_since image faults (Steps faults old pass at request) (LeavesStep old pass at request) Stopped old result new

  -- ---- nothing changed

  pub unchanged : {R : Type 0} (Answer : R → StoreView D → Type 0) (Left : List ℕ → List ℕ → Type 0) (halt : R) (old : StoreView D) (result : R) → IsStore old → Answer result old →
      ((x y : List ℕ) → SurvivesWholeClosed old.base old.events x y → Left x y) → (old.stop ≡ None → result ≡ halt → ⊥) → Promises clock left_since image faults Answer Left halt old result old
  unchanged Answer Left halt old result store answers whole runs = record {
    answer = answers;
    stays_ready = λ is_ready _. is_ready;
    stays_kept = λ keeps. keeps;
    stays_current = λ current _. current;
    makes_ready = λ _ more _ _ _ _ _. absurd (none_more old.events more);
    any_moment = λ is_ready x y left_x left_y. whole x y (ready_survives_now clock left_since image old store is_ready x y left_x left_y);
    met = λ is_ready is_stopped. absurd (runs is_ready.running is_stopped);
    met_at_rest = λ rest is_stopped. absurd (runs rest.current.running is_stopped);
    first_told = refl;
    second_told = refl;
    first_never_falls = omega arith;
    second_never_falls = omega arith;
  }

  pub nothing_changed : (old : StoreView D) (pass : ℕ) (at : ℤ) (request : StepRequest) (result : StoreReply) → IsStore old → Steps faults old pass at request result old →
      (old.stop ≡ None → result ≡ Stopped → ⊥) → Clauses old pass at request result old
  nothing_changed old pass at request result store steps runs =
      unchanged (Steps faults old pass at request) (LeavesStep old pass at request) Stopped old result store steps (λ x y whole. inl whole) runs

  -- ---- one of two disks

  told_first : (second : Bool) (active old other : D) → is_some (image active) ≡ is_some (image old) → is_some (image (one_of active other second)) ≡ is_some (image (one_of old other second))
  told_first false active old other told = told
  told_first true active old other told = refl

  told_second : (second : Bool) (active old other : D) → is_some (image active) ≡ is_some (image old) → is_some (image (one_of other active second)) ≡ is_some (image (one_of other old second))
  told_second false active old other told = refl
  told_second true active old other told = told

  falls_first : (second : Bool) (active old other : D) → faults old ≤ faults active → faults (one_of old other second) ≤ faults (one_of active other second)
  falls_first false active old other never = never
  falls_first true active old other never = omega arith

  falls_second : (second : Bool) (active old other : D) → faults old ≤ faults active → faults (one_of other old second) ≤ faults (one_of other active second)
  falls_second false active old other never = omega arith
  falls_second true active old other never = never

  later_first : (second : Bool) (active old other : D) → clock old ≤ clock active → clock (one_of old other second) ≤ clock (one_of active other second)
  later_first false active old other later = later
  later_first true active old other later = omega arith

  later_second : (second : Bool) (active old other : D) → clock old ≤ clock active → clock (one_of other old second) ≤ clock (one_of other active second)
  later_second false active old other later = omega arith
  later_second true active old other later = later

  -- ---- a record was being written

  module _ (old : StoreView D) (event : Event) (after : AreaView D) (store : IsStore old)
      (writes : Writes clock left_since image faults (record { disk = old.active; end = old.used }) after event) where
    abbrev payload : List ℕ
    payload = event_spelling event

    within : settled_of old ≤ length old.events
    within = order_within 0 (length old.events) old.checkpoints store.in_order

    abbrev pushed : StoreView D
    pushed = with_event old event after.disk

    -- the area begins with the same image
    image_is : image_of pushed ≡ image_of old
    image_is = ap (λ (head : BaseView). image_since old.opened head old.checkpoints) (state_push old.base old.events event (settled_of old) within)

    push_is : body_of pushed ≡ body_of old ++ record_bytes payload
    push_is =
        ap (λ (i : List ℕ). area_since old.generation i (old.events ++ event ∷ []) (settled_of old)) image_is
        ∙ since_push old.generation (image_of old) old.events event (settled_of old) within

    push_long : length (body_of pushed) ≡ old.used + (5 + length payload)
    push_long = omega (arith, ap length push_is, length-append (body_of old) (record_bytes payload), record_length payload, store.used_is)

    push_fits : length (body_of pushed) < area_limit
    push_fits = omega (arith, push_long, writes.room)

    push_tellable : IsTellable old.generation (image_of pushed) old.base (old.events ++ event ∷ []) (settled_of old)
    push_tellable =
        tellable_push old.generation (image_of pushed) old.base old.events (settled_of old) event
        (subst (λ (i : List ℕ). IsTellable old.generation i old.base old.events (settled_of old)) (sym image_is) (tellable_store old store)) writes.spelled push_fits

    -- a store keeps what a store keeps
    pub push_store : IsStore (with_event old event after.disk)
    push_store = record {
      generated = store.generated;
      counted = store.counted;
      in_order = let more = length-append old.events (event ∷ []) in order_more 0 (length old.events) (length (old.events ++ event ∷ [])) old.checkpoints (omega (arith, more)) store.in_order;
      is_image = push_tellable.is_image;
      spelled = AllByRecursion-push IsSpellableEvent old.events event store.spelled writes.spelled;
      used_is = sym push_long;
      fits = subst (λ (n : ℕ). n < area_limit) push_long push_fits;
    }

    goes_on : (is_ready : IsReady clock left_since image old) → LeavesOnly clock left_since old.active after.disk (IsWithOrWithout (body_of old) payload)
    goes_on is_ready = writes.any_moment (body_of old) (sym store.used_is) is_ready.rests

    -- an area that is older than that of the history
    abbrev Older : List ℕ → Type 0
    Older other = IsBehind old.second_active old.generation (generation_of other)

    -- bytes with the history, or with it the event, beside an area that is older
    survives_pair : (a o : List ℕ) → Older o → IsWithOrWithout (body_of old) payload a →
        SurvivesStopAt old.base old.events old.generation old.second_active (Some event) (one_of a o old.second_active) (one_of o a old.second_active)
    survives_pair a o behind (inl without) =
        let there = survives_there old.second_active a o old.generation (image_of old) old.base old.events (settled_of old) (tellable_store old store) without behind in
        (inl there.0, there.1)
    survives_pair a o behind (inr with_it) =
        let there = survives_there old.second_active a o old.generation (image_of pushed) old.base (old.events ++ event ∷ []) (settled_of old) push_tellable (subst (λ (body : List ℕ). Closed body a) (sym push_is) with_it) behind in
        (inr there.0, there.1)

    -- a crash since then leaves the history, or with it the event, where it was
    leaves : IsReady clock left_since image old → (x y : List ℕ) → left_since (one_of after.disk old.other old.second_active) (clock (one_of old.active old.other old.second_active)) x →
        left_since (one_of old.other after.disk old.second_active) (clock (one_of old.other old.active old.second_active)) y →
        SurvivesStopAt old.base old.events old.generation old.second_active (Some event) x y
    leaves is_ready x y left_x left_y =
        left_pairs clock left_since old.second_active old.active after.disk old.other (SurvivesStopAt old.base old.events old.generation old.second_active (Some event))
        (λ a o left_a left_o. survives_pair a o (subst Older (some_same is_ready.other_bytes o (sym is_ready.other_told ∙ is_ready.other_pinned o left_o)) is_ready.behind) ((goes_on is_ready).each a left_a))
        x y left_x left_y

    -- what a crash leaves of an area that may lack its closed gate begins with that of the history
    abbrev Begun : List ℕ → List ℕ → Type 0
    Begun = NewestBegins old.generation old.second_active (body_of old)

    keeps_front : (rest : IsAtRest clock left_since image old) → LeavesOnly clock left_since old.active after.disk (Begins (body_of old))
    keeps_front rest =
        writes.front (body_of old) rest.active_bytes (sym store.used_is) rest.active_told
        (at_told (image old.active) (StandsForBody (body_of old)) rest.active_bytes rest.active_told rest.current.active).front rest.active_pinned

    begun : IsAtRest clock left_since image old → (x y : List ℕ) → left_since (one_of after.disk old.other old.second_active) (clock (one_of old.active old.other old.second_active)) x →
        left_since (one_of old.other after.disk old.second_active) (clock (one_of old.other old.active old.second_active)) y → Begun x y
    begun rest x y left_x left_y =
        left_pairs clock left_since old.second_active old.active after.disk old.other Begun
        (λ a o left_a left_o. begins_there old.second_active a o old.generation (image_of old) old.base old.events (settled_of old) (tellable_store old store) ((keeps_front rest).each a left_a)
        (at_told (image old.other) Older o (rest.other_pinned o left_o) rest.current.other))
        x y left_x left_y

    -- with or without the event that the answer keeps, it is what a step may leave
    step_leaves : (pass : ℕ) (at : ℤ) (request : StepRequest) (reply : StepReply) → AnswersIn old pass at request reply (Some event) →
        (x y : List ℕ) → SurvivesWithOrWithout old.base old.events event x y → LeavesStep old pass at request x y
    step_leaves pass at request reply answers x y both = ⊎_elim (λ without. inl without) (λ with_it. inr (reply, event, answers, with_it)) both

    -- ---- it was written

    module _ (written : HasWritten clock left_since image faults (record { disk = old.active; end = old.used }) after event) where
      rests_after : (bytes : List ℕ) → image old.active ≡ Some bytes → StandsForBody (body_of old) bytes →
          Rests clock left_since image after.disk (body_of pushed)
      rests_after bytes told stands = subst (Rests clock left_since image after.disk) (sym push_is) (written.rests (body_of old) bytes (sym store.used_is) told stands)

      ready_after : IsReady clock left_since image old → IsReady clock left_since image (with_event old event after.disk)
      ready_after is_ready = record {
        running = is_ready.running;
        rests = rests_after is_ready.rests.bytes is_ready.rests.told is_ready.rests.closed.stands;
        other_bytes = is_ready.other_bytes;
        other_told = is_ready.other_told;
        other_pinned = is_ready.other_pinned;
        behind = is_ready.behind;
      }

      active_after : (told : Option (List ℕ)) → image old.active ≡ told → IfSome told (StandsForBody (body_of old)) → (told_now : Option (List ℕ)) → image after.disk ≡ told_now →
          IfSome told_now (StandsForBody (body_of pushed))
      active_after (Some bytes) told stands told_now now =
          let rests = rests_after bytes told stands in
          if_some told_now (StandsForBody (body_of pushed)) rests.bytes (sym now ∙ rests.told) rests.closed.stands
      active_after None told stands None now = tt
      active_after None told stands (Some bytes) now = absurd (untold (image old.active) (image after.disk) bytes told now writes.told)
        where
          untold : (o n : Option (List ℕ)) (b : List ℕ) → o ≡ None → n ≡ Some b → is_some n ≡ is_some o → ⊥
          untold o n b is_none is_told same = clash (sym (ap is_some is_told) ∙ same ∙ ap is_some is_none)
            where
              clash : true ≡ false → ⊥
              clash e = cc

      current_after : IsCurrent clock left_since image old → IsCurrent clock left_since image (with_event old event after.disk)
      current_after current = record {
        running = current.running;
        active = active_after (image old.active) refl current.active (image after.disk) refl;
        other = current.other;
      }

      ready_from : IsCurrent clock left_since image old → (active other : List ℕ) → image old.active ≡ Some active → image old.other ≡ Some other → IsPinned clock left_since image old.other →
          IsReady clock left_since image (with_event old event after.disk)
      ready_from current active other told other_told pinned = record {
        running = current.running;
        rests = rests_after active told (at_told (image old.active) (StandsForBody (body_of old)) active told current.active);
        other_bytes = other;
        other_told = other_told;
        other_pinned = pinned;
        behind = at_told (image old.other) (λ (bytes : List ℕ). IsBehind old.second_active old.generation (generation_of bytes)) other other_told current.other;
      }

      pub was_written : {R : Type 0} (Answer : R → StoreView D → Type 0) (Left : List ℕ → List ℕ → Type 0) (halt result : R) → (result ≡ halt → ⊥) → old.stop ≡ None → Answer result (with_event old event after.disk) →
          ((x y : List ℕ) → SurvivesWithOrWithout old.base old.events event x y → Left x y) → Promises clock left_since image faults Answer Left halt old result (with_event old event after.disk)
      was_written Answer Left halt result unlike running answers leave = record {
        answer = answers;
        stays_ready = λ is_ready _. ready_after is_ready;
        stays_kept = λ keeps. stays keeps;
        stays_current = λ current _. current_after current;
        makes_ready = λ current _ active other told other_told pinned. ready_from current active other told other_told pinned;
        any_moment = λ is_ready x y left_x left_y. leave x y (leaves is_ready x y left_x left_y).0;
        met = λ is_ready is_stopped. absurd (unlike is_stopped);
        met_at_rest = λ rest is_stopped. absurd (unlike is_stopped);
        first_told = told_first old.second_active after.disk old.active old.other writes.told;
        second_told = told_second old.second_active after.disk old.active old.other writes.told;
        first_never_falls = falls_first old.second_active after.disk old.active old.other writes.never_falls;
        second_never_falls = falls_second old.second_active after.disk old.active old.other writes.never_falls;
      }
        where
          stays : Keeps clock left_since image old → Keeps clock left_since image (with_event old event after.disk)
          stays (ready is_ready) = ready (ready_after is_ready)
          stays (halted earlier stop leaves) = absurd (none_some old.stop earlier running stop)

      pub was_kept : (pass : ℕ) (at : ℤ) (request : StepRequest) (reply : StepReply) → old.stop ≡ None → AnswersIn old pass at request reply (Some event) → (IsFullFor old event → ⊥) →
          Clauses old pass at request (Step reply) (with_event old event after.disk)
      was_kept pass at request reply running answers fits =
          was_written (Steps faults old pass at request) (LeavesStep old pass at request) Stopped (Step reply) unlike running (kept reply event after.disk running answers fits written.no_fault) (step_leaves pass at request reply answers)
        where
          unlike : Step reply ≡ Stopped → ⊥
          unlike e = cc

    -- ---- the disk failed

    pub was_stopped : {R : Type 0} (Answer : R → StoreView D → Type 0) (Left : List ℕ → List ℕ → Type 0) (halt : R) (pass : ℕ) → old.stop ≡ None → Answer halt (record old { active = after.disk; stop = Some pass; met = Some event }) →
        ((x y : List ℕ) → SurvivesWithOrWithout old.base old.events event x y → Left x y) →
        ((disk : D) (t u : ℕ) (bytes : List ℕ) → t ≤ u → left_since disk u bytes → left_since disk t bytes) →
        Promises clock left_since image faults Answer Left halt old halt (record old { active = after.disk; stop = Some pass; met = Some event })
    was_stopped Answer Left halt pass running answers leave earlier = record {
      answer = answers;
      stays_ready = λ is_ready goes. absurd (goes refl);
      stays_kept = λ keeps. stays keeps;
      stays_current = λ current goes. absurd (goes refl);
      makes_ready = λ _ more _ _ _ _ _. absurd (none_more old.events more);
      any_moment = λ is_ready x y left_x left_y. leave x y (leaves is_ready x y left_x left_y).0;
      met = λ is_ready _. leaves_now is_ready;
      met_at_rest = λ rest _. begun_now rest;
      first_told = told_first old.second_active after.disk old.active old.other writes.told;
      second_told = told_second old.second_active after.disk old.active old.other writes.told;
      first_never_falls = falls_first old.second_active after.disk old.active old.other writes.never_falls;
      second_never_falls = falls_second old.second_active after.disk old.active old.other writes.never_falls;
    }
      where
        -- what a crash left since then, a crash now leaves
        now_by : (P : List ℕ → List ℕ → Type 0) → clock old.active ≤ clock after.disk →
            ((x y : List ℕ) → left_since (one_of after.disk old.other old.second_active) (clock (one_of old.active old.other old.second_active)) x →
            left_since (one_of old.other after.disk old.second_active) (clock (one_of old.other old.active old.second_active)) y → P x y) →
            StopsNow clock left_since image (record old { active = after.disk; stop = Some pass; met = Some event }) P
        now_by P later each x y left_x left_y =
            each x y
            (earlier (one_of after.disk old.other old.second_active) (clock (one_of old.active old.other old.second_active)) (clock (one_of after.disk old.other old.second_active)) x (later_first old.second_active after.disk old.active old.other later) left_x)
            (earlier (one_of old.other after.disk old.second_active) (clock (one_of old.other old.active old.second_active)) (clock (one_of old.other after.disk old.second_active)) y (later_second old.second_active after.disk old.active old.other later) left_y)

        leaves_now : IsReady clock left_since image old →
            StopsNow clock left_since image (record old { active = after.disk; stop = Some pass; met = Some event }) (SurvivesStopAt old.base old.events old.generation old.second_active (Some event))
        leaves_now is_ready = now_by (SurvivesStopAt old.base old.events old.generation old.second_active (Some event)) (goes_on is_ready).later (leaves is_ready)

        begun_now : IsAtRest clock left_since image old → StopsNow clock left_since image (record old { active = after.disk; stop = Some pass; met = Some event }) Begun
        begun_now rest = now_by Begun (keeps_front rest).later (begun rest)

        stays : Keeps clock left_since image old → Keeps clock left_since image (record old { active = after.disk; stop = Some pass; met = Some event })
        stays (ready is_ready) = halted pass refl (leaves_now is_ready)
        stays (halted first stop leaves) = absurd (none_some old.stop first running stop)

    pub has_failed : ((disk : D) (t u : ℕ) (bytes : List ℕ) → t ≤ u → left_since disk u bytes → left_since disk t bytes) → HasRisen (faults old.active) (faults after.disk) →
        (pass : ℕ) (at : ℤ) (request : StepRequest) (reply : StepReply) → old.stop ≡ None → AnswersIn old pass at request reply (Some event) → (IsFullFor old event → ⊥) →
        Clauses old pass at request Stopped (record old { active = after.disk; stop = Some pass; met = Some event })
    has_failed earlier risen pass at request reply running answers fits =
        was_stopped (Steps faults old pass at request) (LeavesStep old pass at request) Stopped pass running (failed reply event after.disk running answers fits risen) (step_leaves pass at request reply answers) earlier
