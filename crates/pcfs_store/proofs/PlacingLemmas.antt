-- The ends of the placing of an image, over what its parts say.
use Rattle.std.proofs.Common.{◌≡◌, ℕ, ◌+◌, ◌-◌, ◌^◌, ◌<◌, ◌≤◌, List, [], ◌∷◌, ◌++◌, length, Some, None, Bool, true, false, sym, ◌∙◌, ap, subst, inl, inr, arith}
use Rattle.std.specs.Prelude.{Option, is_some, not, Result, Ok, Err, IfOk}
use Rattle.bl_syntax.specs.declared.lists.NoMemory.{NoMemory as NoMemoryFault}
use Rattle.journal_core.specs.declared.area.AreaFault.{AreaFault}
use Rattle.journal_core.specs.declared.area.AreaFault.TheVariants as faults_of_area
use Rattle.journal_core.specs.AreaView.{AreaView}
use Rattle.access_history.specs.Base.{BaseView}
use Rattle.journal_records.specs.declared.event.Event.{Event}
use Rattle.access_history.specs.Replay.{replay}
use Rattle.access_history.specs.History.{HistoryView, authority_of, state_of}
use Rattle.access_history.specs.Lawful.{IsLawful}
use Rattle.access_history.proofs.LawfulLemmas.{IsLawfulBase-lawful}
use Rattle.checkpoint.specs.Writing.{FitsImage, IsWrittenImageOf}
use Rattle.checkpoint.proofs.WritingLemmas.{lawful_fits}
use Rattle.checkpoint_image.specs.ImageSpelling.{image_spelling}
use Rattle.op_gate.specs.Decision.{GateView}
use Rattle.pcfs_store.specs.declared.checkpoints.Checkpoint.{Checkpoint}
use Rattle.pcfs_store.specs.declared.reply.CheckpointReply.{CheckpointReply}
use Rattle.pcfs_store.specs.declared.reply.CheckpointReply.TheVariants.{Checkpointed, Full, Stopped, NoMemory}
use Rattle.pcfs_store.specs.Image.{IsImageOf}
use Rattle.pcfs_store.specs.StoreView.{StoreView, state_of_store, IsStore}
use Rattle.pcfs_store.specs.Inside.{store_of, IsKeeping}
use Rattle.pcfs_store.specs.Checkpoints.{with_checkpoint, MakesCheckpoint, full, stopped, without_memory, Checkpoints}
use Rattle.pcfs_store.specs.Moving.{HasMoved, MovesArea}
use Rattle.pcfs_store.proofs.CheckpointLemmas.{nothing_changed, next_store, was_made, was_stopped}
use Rattle.pcfs_store.proofs.EndLemmas.{is_none_from, is_some_from}
use Rattle.pcfs_store.proofs.IssueLemmas.{few_issues}

module _ {D : Type 0} (clock : D → ℕ) (left_since : D → ℕ → List ℕ → Type 0) (image : D → Option (List ℕ)) (faults : D → ℕ)
    (area : AreaView D) (other : D) (second : Bool) (generation : ℕ) (opened : List ℕ) (gate : GateView) (checkpoints : List Checkpoint) (stop : Option ℕ) (keeping : IsKeeping area other second generation opened gate checkpoints stop)
    (s : StoreView D) (view_is : store_of area other second generation opened gate checkpoints stop ≡ s) (pass : ℕ) (bytes : List ℕ)
    (s_runs : s.stop ≡ None) (s_few : s.generation < 2 ^ 48 - 1) (s_image : IsWrittenImageOf (replay s.base s.events) bytes)
    (next : ℕ) (next_is : next ≡ generation + 1) (mark : Checkpoint) (mark_is : mark ≡ record { after = length gate.events; pass = pass })
    (area_after : AreaView D) (other_after : D) where
  abbrev before : StoreView D
  before = store_of area other second generation opened gate checkpoints stop

  running : stop ≡ None
  running = subst (λ (old : StoreView D). old.stop ≡ None) (sym view_is) s_runs

  few : 2 ^ 48 - 1 ≤ generation → ⊥
  few last = let below : generation < 2 ^ 48 - 1 = subst (λ (old : StoreView D). old.generation < 2 ^ 48 - 1) (sym view_is) s_few in omega (arith, below, last)

  has_image : IsWrittenImageOf (replay gate.base gate.events) bytes
  has_image = subst (λ (old : StoreView D). IsWrittenImageOf (replay old.base old.events) bytes) (sym view_is) s_image

  is_image : IsImageOf (replay gate.base gate.events) (image_spelling (replay gate.base gate.events))
  is_image = subst (IsImageOf (replay gate.base gate.events)) has_image.written has_image.is_image

  abbrev Ends : CheckpointReply → StoreView D → Type 0
  Ends result new = Checkpoints clock left_since image faults s pass result new

  ends : (result : CheckpointReply) (new : StoreView D) → Checkpoints clock left_since image faults before pass result new → Ends result new
  ends result new e = subst (λ (old : StoreView D). Checkpoints clock left_since image faults old pass result new) view_is e

  -- what became of the area, over the image of the state and the next generation
  moves : (result : Result (Unit {0}) AreaFault) → MovesArea clock left_since image faults area other next bytes result area_after other_after →
      MovesArea clock left_since image faults area other (generation + 1) (image_spelling (replay gate.base gate.events)) result area_after other_after
  moves result m =
      subst (λ (b : List ℕ). MovesArea clock left_since image faults area other (generation + 1) b result area_after other_after) has_image.written
      (subst (λ (n : ℕ). MovesArea clock left_since image faults area other n bytes result area_after other_after) next_is m)

  -- ---- it was made

  module _ (m : MovesArea clock left_since image faults area other next bytes (Ok tt) area_after other_after) (second_after : Bool) (second_is : second_after ≡ not second)
      (generation_after : ℕ) (generation_is : generation_after ≡ generation + 1) (checkpoints_after : List Checkpoint) (checkpoints_are : checkpoints_after ≡ checkpoints ++ mark ∷ []) where
    moved : HasMoved clock left_since image faults area other (generation + 1) (image_spelling (replay gate.base gate.events)) area_after other_after
    moved = moves (Ok tt) m

    made_is : store_of area_after other_after second_after generation_after opened gate checkpoints_after stop ≡ with_checkpoint before pass area_after.disk
    made_is =
        ap (λ (n : ℕ). record (store_of area_after other_after second_after generation_after opened gate checkpoints_after stop) { used = n }) moved.end
        ∙ ap (λ (d : D). record (with_checkpoint before pass area_after.disk) { other = d; second_active = second_after; generation = generation_after; checkpoints = checkpoints_after }) moved.other_is
        ∙ ap (λ (b : Bool). record (with_checkpoint before pass area_after.disk) { second_active = b; generation = generation_after; checkpoints = checkpoints_after }) second_is
        ∙ ap (λ (n : ℕ). record (with_checkpoint before pass area_after.disk) { generation = n; checkpoints = checkpoints_after }) generation_is
        ∙ ap (λ (cs : List Checkpoint). record (with_checkpoint before pass area_after.disk) { checkpoints = cs }) checkpoints_are
        ∙ ap (λ (c : Checkpoint). record (with_checkpoint before pass area_after.disk) { checkpoints = checkpoints ++ c ∷ [] }) mark_is

    pub made_end : Ends Checkpointed (store_of area_after other_after second_after generation_after opened gate checkpoints_after stop)
    made_end =
        subst (Ends Checkpointed) (sym made_is)
        (ends Checkpointed (with_checkpoint before pass area_after.disk)
        (was_made clock left_since image faults before keeping.store is_image few area_after.disk moved.overwrites pass running moved.now moved.pinned moved.no_fault))

    pub made_keeps : IsKeeping area_after other_after second_after generation_after opened gate checkpoints_after stop
    made_keeps = record {
      store = subst IsStore (sym made_is) (next_store clock left_since image faults before keeping.store is_image few area_after.disk moved.overwrites pass running moved.now moved.pinned);
      idle = keeping.idle;
    }

  -- ---- it was not made

  module _ (checkpoints_after : List Checkpoint) (checkpoints_are : checkpoints_after ≡ checkpoints) where
    same_is : area_after ≡ area → other_after ≡ other → store_of area_after other_after second generation opened gate checkpoints_after stop ≡ before
    same_is area_is other_is =
        ap (λ (a : AreaView D). store_of a other_after second generation opened gate checkpoints_after stop) area_is
        ∙ ap (λ (d : D). store_of area d second generation opened gate checkpoints_after stop) other_is
        ∙ ap (λ (cs : List Checkpoint). store_of area other second generation opened gate cs stop) checkpoints_are

    same_end : (result : CheckpointReply) → (result ≡ Checkpointed → ⊥) → MakesCheckpoint faults before pass result before → area_after ≡ area → other_after ≡ other →
        Ends result (store_of area_after other_after second generation opened gate checkpoints_after stop)
    same_end result unmade makes area_is other_is =
        subst (Ends result) (sym (same_is area_is other_is)) (ends result before (nothing_changed clock left_since image faults before pass result keeping.store makes unmade))

    with_fault : (found fault : AreaFault) → found ≡ fault → MovesArea clock left_since image faults area other next bytes (Err found) area_after other_after →
        MovesArea clock left_since image faults area other (generation + 1) (image_spelling (replay gate.base gate.events)) (Err fault) area_after other_after
    with_fault found fault is m = moves (Err fault) (subst (λ (f : AreaFault). MovesArea clock left_since image faults area other next bytes (Err f) area_after other_after) is m)

    pub full_end : (fault : AreaFault) → fault ≡ faults_of_area.AreaFull → MovesArea clock left_since image faults area other next bytes (Err fault) area_after other_after →
        Ends Full (store_of area_after other_after second generation opened gate checkpoints_after stop)
    full_end fault is m =
        let k = with_fault fault faults_of_area.AreaFull is m in
        same_end Full (λ e. unlike e) (full running (inl k.0)) k.1 k.2
      where
        unlike : Full ≡ Checkpointed → ⊥
        unlike e = cc

    pub unplaced_end : (fault : AreaFault) → fault ≡ faults_of_area.NoMemory → MovesArea clock left_since image faults area other next bytes (Err fault) area_after other_after →
        Ends NoMemory (store_of area_after other_after second generation opened gate checkpoints_after stop)
    unplaced_end fault is m =
        let k = with_fault fault faults_of_area.NoMemory is m in
        same_end NoMemory (λ e. unlike e) (without_memory running) k.0 k.1
      where
        unlike : NoMemory ≡ Checkpointed → ⊥
        unlike e = cc

    failed_is : area_after ≡ area → store_of area_after other_after second generation opened gate checkpoints_after (Some pass) ≡ record before { other = other_after; stop = Some pass; met = None }
    failed_is area_is =
        ap (λ (a : AreaView D). store_of a other_after second generation opened gate checkpoints_after (Some pass)) area_is
        ∙ ap (λ (cs : List Checkpoint). store_of area other_after second generation opened gate cs (Some pass)) checkpoints_are
        ∙ ap (λ (met : Option Event). record before { other = other_after; stop = Some pass; met = met }) (keeping.idle running)

    pub failed_end : ((disk : D) (t u : ℕ) (left : List ℕ) → t ≤ u → left_since disk u left → left_since disk t left) →
        (fault : AreaFault) → fault ≡ faults_of_area.Disk → MovesArea clock left_since image faults area other next bytes (Err fault) area_after other_after →
        Ends Stopped (store_of area_after other_after second generation opened gate checkpoints_after (Some pass))
    failed_end earlier fault is m =
        let k = with_fault fault faults_of_area.Disk is m in
        subst (Ends Stopped) (sym (failed_is k.stays))
        (ends Stopped (record before { other = other_after; stop = Some pass; met = None })
        (was_stopped clock left_since image faults before keeping.store is_image few other_after k.overwrites earlier k.risen pass running))

-- ---- before the image is placed

module _ {D : Type 0} (clock : D → ℕ) (left_since : D → ℕ → List ℕ → Type 0) (image : D → Option (List ℕ)) (faults : D → ℕ)
    (area : AreaView D) (other : D) (second : Bool) (generation : ℕ) (opened : List ℕ) (gate : GateView) (checkpoints : List Checkpoint) (stop : Option ℕ) (keeping : IsKeeping area other second generation opened gate checkpoints stop)
    (s : StoreView D) (view_is : store_of area other second generation opened gate checkpoints stop ≡ s) (pass : ℕ) where
  early : (result : CheckpointReply) → (result ≡ Checkpointed → ⊥) → MakesCheckpoint faults (store_of area other second generation opened gate checkpoints stop) pass result (store_of area other second generation opened gate checkpoints stop) →
      Checkpoints clock left_since image faults s pass result s
  early result unmade makes =
      subst (λ (old : StoreView D). Checkpoints clock left_since image faults old pass result old) view_is
      (nothing_changed clock left_since image faults (store_of area other second generation opened gate checkpoints stop) pass result keeping.store makes unmade)

  -- a disk failed before
  pub stopped_end : is_some stop ≡ true → Checkpoints clock left_since image faults s pass Stopped s
  stopped_end is = let earlier = is_some_from stop is in early Stopped (λ e. unlike e) (stopped earlier.0 earlier.1)
    where
      unlike : Stopped ≡ Checkpointed → ⊥
      unlike e = cc

  -- there is no next generation
  pub last_end : is_some stop ≡ false → 2 ^ 48 - 1 ≤ generation → Checkpoints clock left_since image faults s pass Full s
  last_end runs last = early Full (λ e. unlike e) (full (is_none_from stop runs) (inr last))
    where
      unlike : Full ≡ Checkpointed → ⊥
      unlike e = cc

  -- there is no image
  pub unwritten_end : is_some stop ≡ false → Checkpoints clock left_since image faults s pass NoMemory s
  unwritten_end runs = early NoMemory (λ e. unlike e) (without_memory (is_none_from stop runs))
    where
      unlike : NoMemory ≡ Checkpointed → ⊥
      unlike e = cc

  pub runs_there : is_some stop ≡ false → s.stop ≡ None
  runs_there runs = subst (λ (old : StoreView D). old.stop ≡ None) view_is (is_none_from stop runs)

  pub few_there : generation < 2 ^ 48 - 1 → s.generation < 2 ^ 48 - 1
  few_there below = subst (λ (old : StoreView D). old.generation < 2 ^ 48 - 1) view_is below

-- ---- the state that the gate shows fits an image

module _ {D : Type 0} (area : AreaView D) (other : D) (second : Bool) (generation : ℕ) (opened : List ℕ) (gate : GateView) (checkpoints : List Checkpoint) (stop : Option ℕ) (keeping : IsKeeping area other second generation opened gate checkpoints stop)
    (s : StoreView D) (view_is : store_of area other second generation opened gate checkpoints stop ≡ s) (history : HistoryView) (base_is : history.base ≡ gate.base) (events_are : history.events ≡ gate.events) where
  shown : state_of history ≡ replay gate.base gate.events
  shown = ap (λ (b : BaseView). replay b history.events) base_is ∙ ap (replay gate.base) events_are

  pub state_fits : IsLawful (authority_of history) history.base history.events → FitsImage (state_of history)
  state_fits lawful =
      lawful_fits history.key history.ring (state_of history) (IsLawfulBase-lawful (authority_of history) history.base history.events lawful)
      (subst (λ (b : BaseView). length b.issues < 2 ^ 32) (sym shown) (few_issues (store_of area other second generation opened gate checkpoints stop) keeping.store))

  pub image_there : (found : Result (List ℕ) NoMemoryFault) → IfOk found (IsWrittenImageOf (state_of history)) → IfOk found (IsWrittenImageOf (state_of_store s))
  image_there (Ok bytes) is = subst (λ (old : StoreView D). IsWrittenImageOf (state_of_store old) bytes) view_is (subst (λ (b : BaseView). IsWrittenImageOf b bytes) shown is)
  image_there (Err fault) is = tt
