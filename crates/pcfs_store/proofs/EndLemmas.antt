-- The ends of a step, over what its parts say.
use Rattle.std.proofs.Common.{◌≡◌, ℕ, ◌+◌, ◌≤◌, List, [], ◌∷◌, ◌++◌, length, Some, None, IfSome, Bool, true, false, refl, sym, ◌∙◌, ap, subst, arith}
use Rattle.std.specs.Prelude.{Option, is_some, ℤ, Result, Ok, Err}
use Rattle.journal_core.specs.declared.area.AreaFault.{AreaFault}
use Rattle.journal_core.specs.declared.area.AreaFault.TheVariants as faults_of_area
use Rattle.journal_core.specs.AreaView.{AreaView}
use Rattle.journal_records.specs.declared.event.Event.{Event}
use Rattle.access_history.specs.declared.request.StepRequest.{StepRequest}
use Rattle.access_history.specs.declared.reply.StepReply.{StepReply}
use Rattle.access_history.specs.Answer.{Answers}
use Rattle.access_history.specs.History.{authority_with}
use Rattle.access_history.specs.Replay.{replay}
use Rattle.journal_records.specs.EventSpelling.{event_spelling}
use Rattle.op_gate.specs.Decision.{GateView}
use Rattle.pcfs_store.specs.declared.reply.StoreReply.{StoreReply}
use Rattle.pcfs_store.specs.declared.reply.StoreReply.TheVariants.{Step, Full, Stopped, NoMemory}
use Rattle.pcfs_store.specs.declared.checkpoints.Checkpoint.{Checkpoint}
use Rattle.pcfs_store.specs.StoreView.{StoreView, IsStore}
use Rattle.pcfs_store.specs.Inside.{store_of, IsKeeping}
use Rattle.pcfs_store.specs.Steps.{with_event, Steps, answered, full, stopped, without_memory}
use Rattle.pcfs_store.specs.Keeping.{HasWritten, HasFailed, KeepsPending, with_kept, without_pending}
use Rattle.pcfs_store.proofs.StepLemmas.{Clauses, nothing_changed, push_store, was_kept, has_failed}

pub is_none_from : (o : Option ℕ) → is_some o ≡ false → o ≡ None
is_none_from None e = refl
is_none_from (Some pass) e = absurd cc

pub is_some_from : (o : Option ℕ) → is_some o ≡ true → (pass : ℕ) × (o ≡ Some pass)
is_some_from None e = absurd cc
is_some_from (Some pass) e = (pass, refl)

-- a gate that decided keeps what it had, but for what is pending
pub gate_is : (gate after : GateView) → after.key ≡ gate.key → after.ring ≡ gate.ring → after.base ≡ gate.base → after.events ≡ gate.events → after ≡ record gate { pending = after.pending }
gate_is gate after key ring base events =
    ap (λ k. record after { key = k }) key
    ∙ ap (λ r. record after { key = gate.key; ring = r }) ring
    ∙ ap (λ b. record after { key = gate.key; ring = gate.ring; base = b }) base
    ∙ ap (λ e. record after { key = gate.key; ring = gate.ring; base = gate.base; events = e }) events

module _ {D : Type 0} (clock : D → ℕ) (left_since : D → ℕ → List ℕ → Type 0) (image : D → Option (List ℕ)) (faults : D → ℕ)
    (area : AreaView D) (other : D) (second : Bool) (generation : ℕ) (opened : List ℕ) (gate : GateView) (checkpoints : List Checkpoint) (stop : Option ℕ) (keeping : IsKeeping area other second generation opened gate checkpoints stop)
    (s : StoreView D) (view_is : store_of area other second generation opened gate checkpoints stop ≡ s) (pass : ℕ) (raw at : ℤ) (raw_is : raw ≡ at) (request : StepRequest) where
  abbrev before : StoreView D
  before = store_of area other second generation opened gate checkpoints stop

  abbrev Ends : StoreReply → StoreView D → Type 0
  Ends result new = Clauses clock left_since image faults s pass at request result new

  ends : (result : StoreReply) (new : StoreView D) → Clauses clock left_since image faults before pass at request result new → Ends result new
  ends result new e = subst (λ (old : StoreView D). Clauses clock left_since image faults old pass at request result new) view_is e

  -- a disk failed before
  pub stopped_end : is_some stop ≡ true → Ends Stopped s
  stopped_end is =
      let earlier = is_some_from stop is in
      subst (λ (old : StoreView D). Clauses clock left_since image faults old pass at request Stopped old) view_is (nothing_changed clock left_since image faults before pass at request Stopped keeping.store (stopped earlier.0 earlier.1) (λ none _. clash stop earlier.0 none earlier.1))
    where
      clash : (o : Option ℕ) (p : ℕ) → o ≡ None → o ≡ Some p → ⊥
      clash o p none some = cc

  module _ (runs : is_some stop ≡ false) (after : GateView) (key : after.key ≡ gate.key) (ring : after.ring ≡ gate.ring) (base : after.base ≡ gate.base) (events : after.events ≡ gate.events) where
    running : stop ≡ None
    running = is_none_from stop runs

    after_is : after ≡ record gate { pending = after.pending }
    after_is = gate_is gate after key ring base events

    -- nothing was pending before
    abbrev with_pending : Option Event → GateView
    with_pending event = record gate { pending = event }

    idle_is : with_pending None ≡ gate
    idle_is = ap with_pending (sym (keeping.idle running))

    -- nothing is kept
    same_end : (result : StoreReply) → after.pending ≡ None → (result ≡ Stopped → ⊥) → Steps faults before pass at request result before → Ends result (store_of area other second generation opened after checkpoints stop)
    same_end result none goes steps =
        subst (λ (g : GateView). Ends result (store_of area other second generation opened g checkpoints stop)) (sym (after_is ∙ ap with_pending none ∙ idle_is))
        (ends result before (nothing_changed clock left_since image faults before pass at request result keeping.store steps (λ _ is. goes is)))

    pub answered_end : (reply : StepReply) → Answers (authority_with gate.key gate.ring) (replay gate.base gate.events) pass raw request reply None → after.pending ≡ None → Ends (Step reply) (store_of area other second generation opened after checkpoints stop)
    answered_end reply answers none =
        same_end (Step reply) none (λ is. unlike is) (answered reply running (subst (λ (z : ℤ). Answers (authority_with gate.key gate.ring) (replay gate.base gate.events) pass z request reply None) raw_is answers))
      where
        unlike : Step reply ≡ Stopped → ⊥
        unlike is = cc

    pub undecided_end : after.pending ≡ None → Ends NoMemory (store_of area other second generation opened after checkpoints stop)
    undecided_end none = same_end NoMemory none (λ is. unlike is) (without_memory running)
      where
        unlike : NoMemory ≡ Stopped → ⊥
        unlike is = cc

    -- ---- an event is pending

    module _ (reply : StepReply) (decided : (event : Event) × Answers (authority_with gate.key gate.ring) (replay gate.base gate.events) pass raw request reply (Some event) × (after.pending ≡ Some event))
        (area_after : AreaView D) (gate_after : GateView) where
      abbrev event : Event
      event = decided.0

      answers : Answers (authority_with gate.key gate.ring) (replay gate.base gate.events) pass at request reply (Some event)
      answers = subst (λ (z : ℤ). Answers (authority_with gate.key gate.ring) (replay gate.base gate.events) pass z request reply (Some event)) raw_is decided.1

      -- what became of the pending event, over the gate before
      became : (result : Result (Unit {0}) AreaFault) → IfSome after.pending (λ e. KeepsPending clock left_since image faults area after e result area_after gate_after) →
          KeepsPending clock left_since image faults area (record gate { pending = after.pending }) event result area_after gate_after
      became result keeps =
          let P : Option Event → Type 0 = λ p. IfSome p (λ e. KeepsPending clock left_since image faults area after e result area_after gate_after) in
          let here : KeepsPending clock left_since image faults area after event result area_after gate_after = subst P decided.2 keeps in
          subst (λ (g : GateView). KeepsPending clock left_since image faults area g event result area_after gate_after) after_is here

      with_fault : (found fault : AreaFault) → found ≡ fault → IfSome after.pending (λ e. KeepsPending clock left_since image faults area after e (Err found) area_after gate_after) →
          IfSome after.pending (λ e. KeepsPending clock left_since image faults area after e (Err fault) area_after gate_after)
      with_fault found fault is keeps = subst (λ (f : AreaFault). IfSome after.pending (λ e. KeepsPending clock left_since image faults area after e (Err f) area_after gate_after)) is keeps

      -- it was kept
      kept_is : HasWritten clock left_since image faults area area_after event → gate_after ≡ with_kept (record gate { pending = after.pending }) event →
          store_of area_after other second generation opened gate_after checkpoints stop ≡ with_event before event area_after.disk
      kept_is written is =
          ap (λ (g : GateView). store_of area_after other second generation opened g checkpoints stop) (is ∙ ap (λ (g : GateView). record g { events = gate.events ++ event ∷ [] }) idle_is)
          ∙ ap (λ (n : ℕ). record before { active = area_after.disk; used = n; events = gate.events ++ event ∷ [] }) (let long : area_after.end ≡ area.end + (5 + length (event_spelling event)) = omega (arith, written.end) in long)

      pub kept_end : IfSome after.pending (λ e. KeepsPending clock left_since image faults area after e (Ok tt) area_after gate_after) → Ends (Step reply) (store_of area_after other second generation opened gate_after checkpoints stop)
      kept_end keeps =
          let k = became (Ok tt) keeps in
          subst (Ends (Step reply)) (sym (kept_is k.0 k.2))
          (ends (Step reply) (with_event before event area_after.disk)
          (was_kept clock left_since image faults before event area_after keeping.store k.0.writes k.0 pass at request reply running answers k.1))

      pub kept_keeps : IfSome after.pending (λ e. KeepsPending clock left_since image faults area after e (Ok tt) area_after gate_after) → IsKeeping area_after other second generation opened gate_after checkpoints stop
      kept_keeps keeps =
          let k = became (Ok tt) keeps in
          record {
            store = subst IsStore (sym (kept_is k.0 k.2)) (push_store clock left_since image faults before event area_after keeping.store k.0.writes);
            idle = λ _. ap (λ (g : GateView). g.pending) k.2;
          }

      -- it was dropped
      dropped_is : area_after ≡ area → gate_after ≡ without_pending (record gate { pending = after.pending }) → store_of area_after other second generation opened gate_after checkpoints stop ≡ before
      dropped_is same is = ap (λ (a : AreaView D). store_of a other second generation opened gate_after checkpoints stop) same ∙ ap (λ (g : GateView). store_of area other second generation opened g checkpoints stop) (is ∙ idle_is)

      dropped_end : (result : StoreReply) → (result ≡ Stopped → ⊥) → Steps faults before pass at request result before → area_after ≡ area → gate_after ≡ without_pending (record gate { pending = after.pending }) →
          Ends result (store_of area_after other second generation opened gate_after checkpoints stop)
      dropped_end result goes steps same is =
          subst (Ends result) (sym (dropped_is same is)) (ends result before (nothing_changed clock left_since image faults before pass at request result keeping.store steps (λ _ at_end. goes at_end)))

      pub full_end : (fault : AreaFault) → fault ≡ faults_of_area.AreaFull → IfSome after.pending (λ e. KeepsPending clock left_since image faults area after e (Err fault) area_after gate_after) → Ends Full (store_of area_after other second generation opened gate_after checkpoints stop)
      full_end fault fault_is keeps =
          let k = became (Err faults_of_area.AreaFull) (with_fault fault faults_of_area.AreaFull fault_is keeps) in
          dropped_end Full (λ is. unlike is) (full reply event running answers k.0) k.1 k.2
        where
          unlike : Full ≡ Stopped → ⊥
          unlike is = cc

      pub unrecorded_end : (fault : AreaFault) → fault ≡ faults_of_area.NoMemory → IfSome after.pending (λ e. KeepsPending clock left_since image faults area after e (Err fault) area_after gate_after) → Ends NoMemory (store_of area_after other second generation opened gate_after checkpoints stop)
      unrecorded_end fault fault_is keeps =
          let k = became (Err faults_of_area.NoMemory) (with_fault fault faults_of_area.NoMemory fault_is keeps) in
          dropped_end NoMemory (λ is. unlike is) (without_memory running) k.0 k.1
        where
          unlike : NoMemory ≡ Stopped → ⊥
          unlike is = cc

      -- the disk failed
      failed_is : HasFailed clock left_since image faults area area_after event → gate_after ≡ record gate { pending = after.pending } →
          store_of area_after other second generation opened gate_after checkpoints (Some pass) ≡ record before { active = area_after.disk; stop = Some pass; met = Some event }
      failed_is fault is =
          ap (λ (g : GateView). store_of area_after other second generation opened g checkpoints (Some pass)) (is ∙ ap with_pending decided.2)
          ∙ ap (λ (n : ℕ). record before { active = area_after.disk; used = n; stop = Some pass; met = Some event }) fault.end

      pub failed_end : ((disk : D) (t u : ℕ) (bytes : List ℕ) → t ≤ u → left_since disk u bytes → left_since disk t bytes) →
          (fault : AreaFault) → fault ≡ faults_of_area.Disk → IfSome after.pending (λ e. KeepsPending clock left_since image faults area after e (Err fault) area_after gate_after) → Ends Stopped (store_of area_after other second generation opened gate_after checkpoints (Some pass))
      failed_end earlier fault fault_is keeps =
          let k = became (Err faults_of_area.Disk) (with_fault fault faults_of_area.Disk fault_is keeps) in
          subst (Ends Stopped) (sym (failed_is k.0 k.2))
          (ends Stopped (record before { active = area_after.disk; stop = Some pass; met = Some event })
          (has_failed clock left_since image faults before event area_after keeping.store k.0.writes earlier k.0.risen pass at request reply running answers k.1))
