-- The ends of the admission of an event, over what its parts say.
use Rattle.std.proofs.Common.{◌≡◌, ℕ, ◌+◌, ◌≤◌, List, [], ◌∷◌, ◌++◌, length, Some, None, IfSome, Bool, true, false, sym, ◌∙◌, ap, subst, inl, inr, ⊎_elim, arith}
use Rattle.std.specs.Prelude.{Option, is_some, Result, Ok, Err}
use Rattle.journal_core.specs.declared.area.AreaFault.{AreaFault}
use Rattle.journal_core.specs.declared.area.AreaFault.TheVariants as faults_of_area
use Rattle.journal_core.specs.AreaView.{AreaView}
use Rattle.journal_records.specs.declared.event.Event.{Event}
use Rattle.access_history.specs.History.{authority_with}
use Rattle.journal_records.specs.Passes.{event_pass}
use Rattle.access_history.specs.Replay.{replay}
use Rattle.journal_records.specs.EventSpelling.{event_spelling}
use Rattle.op_gate.specs.declared.damage.AdmitFault.{AdmitFault}
use Rattle.op_gate.specs.declared.damage.AdmitFault.TheVariants as admissions
use Rattle.op_gate.specs.Damage.{MayComeNext, TellsDamage}
use Rattle.op_gate.specs.Decision.{GateView}
use Rattle.pcfs_store.specs.declared.reply.Admitted.{Admitted}
use Rattle.pcfs_store.specs.declared.reply.Admitted.TheVariants.{Kept, Damaged, Full, Stopped, NoMemory}
use Rattle.pcfs_store.specs.declared.checkpoints.Checkpoint.{Checkpoint}
use Rattle.pcfs_store.specs.Newest.{SurvivesWholeClosed}
use Rattle.pcfs_store.specs.StoreView.{StoreView, IsStore}
use Rattle.pcfs_store.specs.Ready.{SurvivesWithOrWithout}
use Rattle.pcfs_store.specs.Inside.{store_of, IsKeeping}
use Rattle.pcfs_store.specs.Steps.{with_event}
use Rattle.pcfs_store.specs.Admitting.{Admits, kept, damaged, full, failed, stopped, without_memory, LeavesAdmitting, Admitting, unprepared}
use Rattle.pcfs_store.specs.Keeping.{HasWritten, HasFailed, KeepsPending, with_kept, without_pending}
use Rattle.pcfs_store.proofs.StepLemmas.{unchanged, push_store, was_written, was_stopped}
use Rattle.pcfs_store.proofs.EndLemmas.{is_none_from, is_some_from, gate_is}

module _ {D : Type 0} (clock : D → ℕ) (left_since : D → ℕ → List ℕ → Type 0) (image : D → Option (List ℕ)) (faults : D → ℕ)
    (area : AreaView D) (other : D) (second : Bool) (generation : ℕ) (opened : List ℕ) (gate : GateView) (checkpoints : List Checkpoint) (stop : Option ℕ) (keeping : IsKeeping area other second generation opened gate checkpoints stop)
    (s : StoreView D) (view_is : store_of area other second generation opened gate checkpoints stop ≡ s) (event : Event) where
  abbrev before : StoreView D
  before = store_of area other second generation opened gate checkpoints stop

  abbrev Ends : Admitted → StoreView D → Type 0
  Ends result new = Admitting clock left_since image faults s event result new

  ends : (result : Admitted) (new : StoreView D) → Admitting clock left_since image faults before event result new → Ends result new
  ends result new e = subst (λ (old : StoreView D). Admitting clock left_since image faults old event result new) view_is e

  abbrev May : Type 0
  May = MayComeNext (authority_with gate.key gate.ring) (replay gate.base gate.events) event

  -- the history as it was, and that with or without an event that may come next, may be left
  whole_leaves : (x y : List ℕ) → SurvivesWholeClosed gate.base gate.events x y → LeavesAdmitting before event x y
  whole_leaves x y whole = inl whole

  both_leave : May → (x y : List ℕ) → SurvivesWithOrWithout gate.base gate.events event x y → LeavesAdmitting before event x y
  both_leave may x y both = ⊎_elim (λ without. inl without) (λ with_it. inr (may, with_it)) both

  -- nothing has changed
  same : (result : Admitted) → (stop ≡ None → result ≡ Stopped → ⊥) → Admits faults before event result before → Admitting clock left_since image faults before event result before
  same result runs answers = unchanged clock left_since image faults (Admits faults before event) (LeavesAdmitting before event) Stopped before result keeping.store answers whole_leaves runs

  -- a disk failed before
  pub stopped_end : is_some stop ≡ true → Ends Stopped s
  stopped_end is =
      let earlier = is_some_from stop is in
      subst (λ (old : StoreView D). Admitting clock left_since image faults old event Stopped old) view_is (same Stopped (λ none _. clash stop earlier.0 none earlier.1) (stopped earlier.0 earlier.1))
    where
      clash : (o : Option ℕ) (p : ℕ) → o ≡ None → o ≡ Some p → ⊥
      clash o p none some = cc

  module _ (runs : is_some stop ≡ false) (after : GateView) (key : after.key ≡ gate.key) (ring : after.ring ≡ gate.ring) (base : after.base ≡ gate.base) (events : after.events ≡ gate.events) where
    running : stop ≡ None
    running = is_none_from stop runs

    after_is : after ≡ record gate { pending = after.pending }
    after_is = gate_is gate after key ring base events

    -- nothing was pending before
    abbrev with_pending : Option Event → GateView
    with_pending event = record gate { pending = event }

    idle_is : with_pending None ≡ gate
    idle_is = ap with_pending (sym (keeping.idle running))

    -- nothing is kept
    same_end : (result : Admitted) → after.pending ≡ None → (result ≡ Stopped → ⊥) → Admits faults before event result before → Ends result (store_of area other second generation opened after checkpoints stop)
    same_end result none goes answers =
        subst (λ (g : GateView). Ends result (store_of area other second generation opened g checkpoints stop)) (sym (after_is ∙ ap with_pending none ∙ idle_is))
        (ends result before (same result (λ _ is. goes is) answers))

    -- the event was not prepared
    pub unprepared_end : (fault : AdmitFault) (result : Admitted) → result ≡ unprepared fault → TellsDamage (authority_with gate.key gate.ring) (replay gate.base gate.events) event (Err fault) → after.pending ≡ None →
        Ends result (store_of area other second generation opened after checkpoints stop)
    unprepared_end fault result is tells none =
        subst (λ (r : Admitted). Ends r (store_of area other second generation opened after checkpoints stop)) (sym is) (at_fault fault tells)
      where
        other_damage : (damage : _) → Damaged damage ≡ Stopped → ⊥
        other_damage damage e = cc

        other_memory : NoMemory ≡ Stopped → ⊥
        other_memory e = cc

        at_fault : (f : AdmitFault) → TellsDamage (authority_with gate.key gate.ring) (replay gate.base gate.events) event (Err f) → Ends (unprepared f) (store_of area other second generation opened after checkpoints stop)
        at_fault (admissions.Damaged damage) told = same_end (Damaged damage) none (other_damage damage) (damaged damage running told)
        at_fault admissions.NoMemory told = same_end NoMemory none other_memory (without_memory running)

    -- ---- the event is pending

    module _ (may : May) (pending_is : after.pending ≡ Some event) (area_after : AreaView D) (gate_after : GateView) where
      -- what became of it, over the gate before
      became : (result : Result (Unit {0}) AreaFault) → IfSome after.pending (λ e. KeepsPending clock left_since image faults area after e result area_after gate_after) →
          KeepsPending clock left_since image faults area (record gate { pending = after.pending }) event result area_after gate_after
      became result keeps =
          let P : Option Event → Type 0 = λ p. IfSome p (λ e. KeepsPending clock left_since image faults area after e result area_after gate_after) in
          let here : KeepsPending clock left_since image faults area after event result area_after gate_after = subst P pending_is keeps in
          subst (λ (g : GateView). KeepsPending clock left_since image faults area g event result area_after gate_after) after_is here

      with_fault : (found fault : AreaFault) → found ≡ fault → IfSome after.pending (λ e. KeepsPending clock left_since image faults area after e (Err found) area_after gate_after) →
          IfSome after.pending (λ e. KeepsPending clock left_since image faults area after e (Err fault) area_after gate_after)
      with_fault found fault is keeps = subst (λ (f : AreaFault). IfSome after.pending (λ e. KeepsPending clock left_since image faults area after e (Err f) area_after gate_after)) is keeps

      -- it was kept
      kept_is : HasWritten clock left_since image faults area area_after event → gate_after ≡ with_kept (record gate { pending = after.pending }) event →
          store_of area_after other second generation opened gate_after checkpoints stop ≡ with_event before event area_after.disk
      kept_is written is =
          ap (λ (g : GateView). store_of area_after other second generation opened g checkpoints stop) (is ∙ ap (λ (g : GateView). record g { events = gate.events ++ event ∷ [] }) idle_is)
          ∙ ap (λ (n : ℕ). record before { active = area_after.disk; used = n; events = gate.events ++ event ∷ [] }) (let long : area_after.end ≡ area.end + (5 + length (event_spelling event)) = omega (arith, written.end) in long)

      pub kept_end : IfSome after.pending (λ e. KeepsPending clock left_since image faults area after e (Ok tt) area_after gate_after) → Ends Kept (store_of area_after other second generation opened gate_after checkpoints stop)
      kept_end keeps =
          let k = became (Ok tt) keeps in
          subst (Ends Kept) (sym (kept_is k.0 k.2))
          (ends Kept (with_event before event area_after.disk)
          (was_written clock left_since image faults before event area_after keeping.store k.0.writes k.0 (Admits faults before event) (LeavesAdmitting before event) Stopped Kept unlike running
          (kept area_after.disk running may k.1 k.0.no_fault) (both_leave may)))
        where
          unlike : Kept ≡ Stopped → ⊥
          unlike is = cc

      pub kept_keeps : IfSome after.pending (λ e. KeepsPending clock left_since image faults area after e (Ok tt) area_after gate_after) → IsKeeping area_after other second generation opened gate_after checkpoints stop
      kept_keeps keeps =
          let k = became (Ok tt) keeps in
          record {
            store = subst IsStore (sym (kept_is k.0 k.2)) (push_store clock left_since image faults before event area_after keeping.store k.0.writes);
            idle = λ _. ap (λ (g : GateView). g.pending) k.2;
          }

      -- it was dropped
      dropped_is : area_after ≡ area → gate_after ≡ without_pending (record gate { pending = after.pending }) → store_of area_after other second generation opened gate_after checkpoints stop ≡ before
      dropped_is stays is = ap (λ (a : AreaView D). store_of a other second generation opened gate_after checkpoints stop) stays ∙ ap (λ (g : GateView). store_of area other second generation opened g checkpoints stop) (is ∙ idle_is)

      dropped_end : (result : Admitted) → (result ≡ Stopped → ⊥) → Admits faults before event result before → area_after ≡ area → gate_after ≡ without_pending (record gate { pending = after.pending }) →
          Ends result (store_of area_after other second generation opened gate_after checkpoints stop)
      dropped_end result goes answers stays is = subst (Ends result) (sym (dropped_is stays is)) (ends result before (same result (λ _ at_end. goes at_end) answers))

      pub full_end : (fault : AreaFault) → fault ≡ faults_of_area.AreaFull → IfSome after.pending (λ e. KeepsPending clock left_since image faults area after e (Err fault) area_after gate_after) → Ends Full (store_of area_after other second generation opened gate_after checkpoints stop)
      full_end fault fault_is keeps =
          let k = became (Err faults_of_area.AreaFull) (with_fault fault faults_of_area.AreaFull fault_is keeps) in
          dropped_end Full (λ is. unlike is) (full running may k.0) k.1 k.2
        where
          unlike : Full ≡ Stopped → ⊥
          unlike is = cc

      pub unrecorded_end : (fault : AreaFault) → fault ≡ faults_of_area.NoMemory → IfSome after.pending (λ e. KeepsPending clock left_since image faults area after e (Err fault) area_after gate_after) → Ends NoMemory (store_of area_after other second generation opened gate_after checkpoints stop)
      unrecorded_end fault fault_is keeps =
          let k = became (Err faults_of_area.NoMemory) (with_fault fault faults_of_area.NoMemory fault_is keeps) in
          dropped_end NoMemory (λ is. unlike is) (without_memory running) k.0 k.1
        where
          unlike : NoMemory ≡ Stopped → ⊥
          unlike is = cc

      -- the disk failed
      failed_is : (pass : ℕ) → pass ≡ event_pass event → HasFailed clock left_since image faults area area_after event → gate_after ≡ record gate { pending = after.pending } →
          store_of area_after other second generation opened gate_after checkpoints (Some pass) ≡ record before { active = area_after.disk; stop = Some (event_pass event); met = Some event }
      failed_is pass pass_is fault is =
          ap (λ (p : ℕ). store_of area_after other second generation opened gate_after checkpoints (Some p)) pass_is
          ∙ ap (λ (g : GateView). store_of area_after other second generation opened g checkpoints (Some (event_pass event))) (is ∙ ap with_pending pending_is)
          ∙ ap (λ (n : ℕ). record before { active = area_after.disk; used = n; stop = Some (event_pass event); met = Some event }) fault.end

      pub failed_end : ((disk : D) (t u : ℕ) (bytes : List ℕ) → t ≤ u → left_since disk u bytes → left_since disk t bytes) → (pass : ℕ) → pass ≡ event_pass event →
          (fault : AreaFault) → fault ≡ faults_of_area.Disk → IfSome after.pending (λ e. KeepsPending clock left_since image faults area after e (Err fault) area_after gate_after) → Ends Stopped (store_of area_after other second generation opened gate_after checkpoints (Some pass))
      failed_end earlier pass pass_is fault fault_is keeps =
          let k = became (Err faults_of_area.Disk) (with_fault fault faults_of_area.Disk fault_is keeps) in
          subst (Ends Stopped) (sym (failed_is pass pass_is k.0 k.2))
          (ends Stopped (record before { active = area_after.disk; stop = Some (event_pass event); met = Some event })
          (was_stopped clock left_since image faults before event area_after keeping.store k.0.writes (Admits faults before event) (LeavesAdmitting before event) Stopped (event_pass event) running
          (failed area_after.disk running may k.1 k.0.risen) (both_leave may) earlier))
