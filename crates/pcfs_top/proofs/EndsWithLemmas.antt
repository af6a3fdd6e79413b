-- The ends of a run.
use Rattle.std.proofs.Common.{◌≡◌, ◌⊎◌, inl, inr, ℕ, ◌+◌, ◌≤◌, ◌<◌, le-ltb, lt-ltb, Bool, true, false, List, [], ◌++◌, length, take, drop, ap, sym, subst, ◌∙◌, arith, Option, Some, None, refl}
use Rattle.std.specs.Prelude.{String, codes, IfSome, nat_lt, not, ◌==◌, if◌then◌else◌}
use Rattle.std.specs.Int.{w64, from_be_bytes}
use Rattle.std.specs.Option.{option_map}
use Rattle.std.specs.declared.alloc.Global.{Global}
use Rattle.std.proofs.lemmas.Int.{ints}
use Rattle.pcfs_ports.specs.Faults.{HasRisen}
use Rattle.pcfs_ports.specs.Disk.{IsPinned}
use Rattle.journal_core.specs.Area.{IsShut, Closed, StandsForBody, area_bytes, generation_of}
use Rattle.journal_records.specs.declared.event.Event.{Event}
use Rattle.access_history.specs.History.{authority_with}
use Rattle.access_history.specs.Lawful.{IsLawful}
use Rattle.policy_statement.specs.Ring.{KeyView}
use Rattle.pcfs_secrets.specs.declared.secrets.Secrets.{Secrets}
use Rattle.pcfs_store.specs.Formats.{IsNewStore, IsNoneOrFresh, PairsLeft}
use Rattle.pcfs_store.specs.Image.{fresh_image}
use Rattle.pcfs_store.specs.StoredHistory.{area_since, payloads_of, state_after}
use Rattle.pcfs_store.specs.Entries.{StoreEntry}
use Rattle.pcfs_store.specs.Newest.{newer, newest, one_of, IsNewestAtOrNext, NewestBegins}
use Rattle.pcfs_store.specs.StoreView.{StoreView, first_disk, second_disk, NoneFailed, IsStore, body_of, head_of, image_since, image_of, last_after, records_of, settled_of, state_of_store}
use Rattle.pcfs_store.specs.Ready.{IsReady, IsCurrent, IsAtRest, IsBehind, SurvivesCheckpoint}
use Rattle.pcfs_store.specs.declared.format.FormatFault.{FormatFault}
use Rattle.pcfs_store.specs.declared.format.FormatFault.TheVariants as formats
use Rattle.pcfs_store.specs.declared.checkpoints.Checkpoint.{Checkpoint}
use Rattle.pcfs_store.specs.declared.reply.CheckpointReply.{CheckpointReply}
use Rattle.pcfs_store.specs.declared.reply.CheckpointReply.TheVariants as checkpoints
use Rattle.pcfs_store.specs.Checkpoints.{Checkpoints, IsFullForCheckpoint, IsNewestCheckpoint, IsNewestMet, SurvivesMetAt, MakesCheckpoint, place_after}
use Rattle.pcfs_store.specs.Checkpoints as makes
use Rattle.pcfs_store.proofs.CountLemmas.{NoneFailed-checkpoint}
use Rattle.pcfs_store.proofs.SurvivalLemmas.{at_some, told_pairs, tellable_store, generation_since, newest_active, ready_current, current_stands}
use Rattle.recover.specs.declared.fault.OpenFault.{OpenFault}
use Rattle.recover.specs.declared.fault.OpenFault.TheVariants as opens
use Rattle.recover.specs.Opening.{IsNotOpened, IsNewestClosed}
use Rattle.recover.specs.Opening as opening
use Rattle.pcfs_session.specs.ScriptContext.{ScriptContext, first_asker}
use Rattle.pcfs_session.specs.InterpreterView.{standing_over}
use Rattle.pcfs_session.specs.LineAnswer.{authority_under}
use Rattle.pcfs_session.specs.Streams.{Streams}
use Rattle.pcfs_audit.specs.ReportText.{report_text}
use Rattle.command_words.specs.Tasks.{AskForNoRun, AsksFor}
use Rattle.command_words.specs.declared.words.Task.TheVariants.{Stored, Init, Audit, Export, Follow, Load}
use Rattle.command_words.specs.declared.words.Task.TheVariants as tasks
use Rattle.export_run.specs.Exported.{TellsExport}
use Rattle.follow_run.specs.FollowRun.{FollowsInput}
use Rattle.pcfs_tools.specs.Audited.{TellsAudit, reported, unreported, audit_status}
use Rattle.pcfs_tools.specs.Broken.{Broken}
use Rattle.pcfs_tools.specs.LastLine.{Wrote, WroteNothing}
use Rattle.pcfs_tools.specs.Load.{IsLoaded}
use Rattle.pcfs_tools.specs.ScriptStatus.{AnswersInput}
use Rattle.pcfs_tools.proofs.MemoryLemmas.{secrets_of}
use Rattle.pcfs_top.specs.Ports.{Disks, Ports, Rests, NoDiskFailed, AreBytesKept, AreDisksKept, IsInputKept, IfTold}
use Rattle.pcfs_top.specs.Run.{AreOfStore, of_script, of_checkpoint, of_follow, HasNoArea, IsNotLost, IsOpened, IsNewestOf, IsNewestImage, NewestStays, Returns, HasCause, EndsWith, TellsCheckpoint, TellsUnopened, TellsUnmade, damaged_text}
use Rattle.pcfs_top.specs.Run as run
use Rattle.pcfs_session.specs.ScriptRun.{IsLawfulStanding, script_pass}
use Rattle.pcfs_session.specs.Stored.{StoreGoesOn}
use Rattle.pcfs_session.proofs.StoredLemmas.{HasRisen-earlier, none_some}

-- ---- where a script begins

-- an operator's script begins lawfully over a lawful history
lawful_start : {D : Type 0} (s : StoreView D) → IsLawful (authority_with s.key s.ring) s.base s.events → IsLawfulStanding (standing_over s None (first_asker script_pass))
lawful_start s lawful = record { lawful = lawful; asker = record { moment = record { not_before = omega (arith, ints); not_after = omega (arith, ints) }; named = refl } }

-- ---- a last line

told_as : (words : List (String Global)) (secrets : Secrets) (rests : Rests) (before after : Ports) (status : ℕ) (line : List ℕ) (result : ℕ) → HasCause secrets words rests before.disks after.disks status line → IsInputKept before.streams after.streams →
    Wrote status line before.streams.held before.streams.write_faults result after.streams.held after.streams.write_faults after.broken.output → EndsWith secrets words rests before after result
told_as words secrets rests before after status line result cause input (inl told) = subst (EndsWith secrets words rests before after) (sym told.0) (run.told status line cause input told.1 told.2)
told_as words secrets rests before after status line result cause input (inr failed) = subst (EndsWith secrets words rests before after) (sym failed.0) (run.cut_short status line cause input failed.1 failed.2)

untold_as : (words : List (String Global)) (secrets : Secrets) (rests : Rests) (before after : Ports) (result : ℕ) → run.IsUndone words before.disks after.disks → IsInputKept before.streams after.streams →
    WroteNothing before.streams.held before.streams.write_faults result after.streams.held after.streams.write_faults → EndsWith secrets words rests before after result
untold_as words secrets rests before after result kept input untold = subst (EndsWith secrets words rests before after) (sym untold.0) (run.out_of_memory kept input untold.1 untold.2)

-- the words are no command
pub EndsWith-usage : (words : List (String Global)) (secrets : Secrets) (rests : Rests) (before after : Ports) (result : ℕ) → AskForNoRun words → after.disks ≡ before.disks → IsInputKept before.streams after.streams →
    Wrote 1 (codes "usage") before.streams.held before.streams.write_faults result after.streams.held after.streams.write_faults after.broken.output → EndsWith secrets words rests before after result
EndsWith-usage words secrets rests before after result unknown same input told = told_as words secrets rests before after 1 (codes "usage") result (run.usage unknown same) input told

-- ---- areas

-- a generation, whole or not, is none only if the gate is shut
some_generation : (short : Bool) (number : ℕ) → (if short then Some 0 else Some number) ≡ None → ⊥
some_generation true number is = none_some 0 (sym is)
some_generation false number is = none_some number (sym is)

shut_of : (bytes : List ℕ) → generation_of bytes ≡ None → IsShut bytes
shut_of bytes none is_open =
    some_generation (nat_lt (length bytes) 16) (from_be_bytes w64 (take 8 (drop 8 bytes)))
    (subst (λ (n : ℕ). (if n == 1 then (if nat_lt (length bytes) 16 then Some 0 else Some (from_be_bytes w64 (take 8 (drop 8 bytes)))) else None) ≡ None) is_open none)

none_of : (first second : Option ℕ) (x y : List ℕ) → option_map (one_of x y) (newer first second) ≡ None → (first ≡ None) × (second ≡ None)
none_of None None x y is = (refl, refl)
none_of None (Some n) x y is = none_some y (sym is)
none_of (Some m) None x y is = none_some x (sym is)
none_of (Some m) (Some n) x y is = none_some (one_of x y (nat_lt m n)) (sym is)

-- if no area counts, neither is open
pub has_no_area : (x y : List ℕ) → newest x y ≡ None → HasNoArea x y
has_no_area x y none = let both = none_of (generation_of x) (generation_of y) x y none in (shut_of x both.0, shut_of y both.1)

told_some : (o : Option (List ℕ)) (P : List ℕ → Type 0) (bytes : List ℕ) → o ≡ Some bytes → P bytes → IfSome o P
told_some o P bytes is holds = subst (λ (p : Option (List ℕ)). IfSome p P) (sym is) holds

-- ---- checkpoints that were added

-- if there was none before, they are all
pub added_all : (first added all : List Checkpoint) → first ≡ [] → first ++ added ≡ all → added ≡ all
added_all first added all none both = ap (λ (cs : List Checkpoint). cs ++ added) (sym none) ∙ both

-- if none was added, the disks are in their places
pub place_kept : (added : List Checkpoint) (old new : Bool) → added ≡ [] → new ≡ place_after (length added) old → new ≡ old
place_kept added old new none is = is ∙ ap (λ (cs : List Checkpoint). place_after (length cs) old) none

-- with each that was added they change their places
pub place_moved : (added all : List Checkpoint) (old first new : Bool) → added ≡ all → old ≡ first → new ≡ place_after (length added) old → new ≡ place_after (length all) first
place_moved added all old first new same begins is = is ∙ ap (λ (cs : List Checkpoint). place_after (length cs) old) same ∙ ap (place_after (length all)) begins

-- the area of a store without checkpoints has the image that was opened, and the records of all its events
body_unsettled : {D : Type 0} (s : StoreView D) → s.checkpoints ≡ [] → body_of s ≡ area_bytes s.generation s.opened (payloads_of s.events)
body_unsettled s unsettled =
    ap (λ (cs : List Checkpoint). area_since s.generation (image_since s.opened (state_after s.base s.events (last_after 0 cs)) cs) s.events (last_after 0 cs)) unsettled

-- ---- disks

module _ {D : Type 0} (clock : D → ℕ) (left_since : D → ℕ → List ℕ → Type 0) (image : D → Option (List ℕ)) (faults : D → ℕ) where
  abbrev pub disks_of : D → D → Disks
  disks_of a b = record { a = image a; b = image b; a_faults = faults a; b_faults = faults b }

  abbrev pub AtRest : D → D → Type 0
  AtRest a b = IsPinned clock left_since image a × IsPinned clock left_since image b

  abbrev pub rests_of : D → D → D → D → Rests
  rests_of a b a' b' = record { before = AtRest a b; after = AtRest a' b' }

  -- the laws of a disk
  pub record DiskLaws : Type 0 where
    pub may_stay : (d : D) (bytes : List ℕ) → image d ≡ Some bytes → left_since d (clock d) bytes
    pub earlier : (d : D) (t u : ℕ) (bytes : List ℕ) → t ≤ u → left_since d u bytes → left_since d t bytes

  -- ---- stores that are ready, and those that are current

  both_pinned : (second : Bool) (active other : D) → IsPinned clock left_since image active → IsPinned clock left_since image other → AtRest (one_of active other second) (one_of other active second)
  both_pinned false active other one two = (one, two)
  both_pinned true active other one two = (two, one)

  pub pinned_at : (s : StoreView D) (a' b' : D) → a' ≡ first_disk s → b' ≡ second_disk s → IsReady clock left_since image s → AtRest a' b'
  pinned_at s a' b' a_is b_is ready =
      let both = both_pinned s.second_active s.active s.other ready.rests.pinned ready.other_pinned in
      (subst (IsPinned clock left_since image) (sym a_is) both.0, subst (IsPinned clock left_since image) (sym b_is) both.1)

  -- which area counts
  counts_first : (generation : ℕ) (other : Option ℕ) → IsBehind false generation other → newer (Some generation) other ≡ Some false
  counts_first generation None behind = refl
  counts_first generation (Some found) behind = ap Some (le-ltb generation found (omega (arith, behind)))

  counts_second : (generation : ℕ) (other : Option ℕ) → IsBehind true generation other → newer other (Some generation) ≡ Some true
  counts_second generation None behind = refl
  counts_second generation (Some found) behind = ap Some (lt-ltb found generation (omega (arith, behind)))

  counts_at : (second : Bool) (active other : List ℕ) (generation : ℕ) → generation_of active ≡ Some generation → IsBehind second generation (generation_of other) →
      newer (generation_of (one_of active other second)) (generation_of (one_of other active second)) ≡ Some second
  counts_at false active other generation is behind = ap (λ (o : Option ℕ). newer o (generation_of other)) is ∙ counts_first generation (generation_of other) behind
  counts_at true active other generation is behind = ap (λ (o : Option ℕ). newer (generation_of other) o) is ∙ counts_second generation (generation_of other) behind

  -- what a read gives of the areas of a current store
  module _ (s : StoreView D) (store : IsStore s) (current : IsCurrent clock left_since image s) where
    body_at : (active : List ℕ) → image s.active ≡ Some active → StandsForBody (body_of s) active
    body_at active told = at_some (image s.active) (StandsForBody (body_of s)) active told current.active

    behind_at : (other : List ℕ) → image s.other ≡ Some other → IsBehind s.second_active s.generation (generation_of other)
    behind_at other told = at_some (image s.other) (λ bytes. IsBehind s.second_active s.generation (generation_of bytes)) other told current.other

    generation_at : (active : List ℕ) → image s.active ≡ Some active → generation_of active ≡ Some s.generation
    generation_at active told = generation_since s.generation (image_of s) s.base s.events (settled_of s) active (tellable_store s store) (body_at active told)

    -- the newest one stands for the state at the last checkpoint, and the events since
    pub newest_of : (x y : List ℕ) → image (first_disk s) ≡ Some x → image (second_disk s) ≡ Some y → IsNewestOf s.generation (head_of s) (records_of s) x y
    newest_of x y is_x is_y =
        let found = current_stands clock left_since image s store current x y is_x is_y in
        record { bytes = found.0; counts = found.1; stands = found.2 }

    pub counts_now : (x y : List ℕ) → image (first_disk s) ≡ Some x → image (second_disk s) ≡ Some y → newer (generation_of x) (generation_of y) ≡ Some s.second_active
    counts_now = told_pairs image s.second_active s.active s.other (λ x y. newer (generation_of x) (generation_of y) ≡ Some s.second_active)
        (λ a o is_a is_o. counts_at s.second_active a o s.generation (generation_at a is_a) (behind_at o is_o))

  same_some : (x y : List ℕ) → Some x ≡ Some y → x ≡ y
  same_some x y is = cc

  -- of a ready store it has its closed gate
  pub closed_of : (s : StoreView D) → IsStore s → IsReady clock left_since image s → (x y : List ℕ) → image (first_disk s) ≡ Some x → image (second_disk s) ≡ Some y → IsNewestClosed s.generation (image_of s) (records_of s) x y
  closed_of s store ready = told_pairs image s.second_active s.active s.other (IsNewestClosed s.generation (image_of s) (records_of s)) (λ a o is_a is_o.
      let current = ready_current clock left_since image s ready in
      record {
        bytes = a;
        counts = newest_active s.second_active a o s.generation (generation_at s store current a is_a) (behind_at s store current o is_o);
        gate = subst (λ (bytes : List ℕ). length (body_of s) < length bytes) (same_some ready.rests.bytes a (sym ready.rests.told ∙ is_a)) ready.rests.closed.gate;
      })

  same_place : (x y : Bool) → Some x ≡ Some y → x ≡ y
  same_place x y is = cc

  -- the disk that does not count
  other_same : (second : Bool) (active active' other : D) (x y : Option (List ℕ)) → image (one_of active other second) ≡ x → image (one_of other active second) ≡ y →
      one_of (image (one_of other active' second)) (image (one_of active' other second)) second ≡ one_of y x second
  other_same false active active' other x y is_x is_y = is_y
  other_same true active active' other x y is_x is_y = is_x

  -- ---- a store that is made

  module _ (words : List (String Global)) (secrets : Secrets) (a b : D) (is : AsksFor words Init) where
    on_first : (s : StoreView D) → s.second_active ≡ false → first_disk s ≡ s.active
    on_first s first = ap (λ (w : Bool). one_of s.active s.other w) first

    on_second : (s : StoreView D) → s.second_active ≡ false → second_disk s ≡ s.other
    on_second s first = ap (λ (w : Bool). one_of s.other s.active w) first

    fresh_body : (s : StoreView D) → IsNewStore secrets.seal_key secrets.ring s → body_of s ≡ area_bytes 1 fresh_image []
    fresh_body s new =
        body_unsettled s new.no_checkpoints
        ∙ ap (λ (n : ℕ). area_bytes n s.opened (payloads_of s.events)) new.generation_is
        ∙ ap (λ (bytes : List ℕ). area_bytes 1 bytes (payloads_of s.events)) new.opened_is
        ∙ ap (λ (es : List Event). area_bytes 1 fresh_image (payloads_of es)) new.no_events

    has_area : (s : StoreView D) (a' : D) → IsNewStore secrets.seal_key secrets.ring s → a' ≡ first_disk s → IsReady clock left_since image s → IfSome (image a') (Closed (area_bytes 1 fresh_image []))
    has_area s a' new a_is ready =
        told_some (image a') (Closed (area_bytes 1 fresh_image [])) ready.rests.bytes (ap image (a_is ∙ on_first s new.on_first) ∙ ready.rests.told)
        (subst (λ (body : List ℕ). Closed body ready.rests.bytes) (fresh_body s new) ready.rests.closed)

    pub EndsWith-made : (before after : Streams) (broken broken' : Broken) (result : ℕ) (s : StoreView D) (a' b' : D) → IsNewStore secrets.seal_key secrets.ring s →
        ((first second : List ℕ) → image a ≡ Some first → image b ≡ Some second → IsReady clock left_since image s) → ((first second : List ℕ) → image a ≡ Some first → image b ≡ Some second → IsShut first × IsShut second) → image s.other ≡ image b →
        faults s.active ≡ faults a → faults s.other ≡ faults b →
        a' ≡ first_disk s → b' ≡ second_disk s → IsInputKept before after → Wrote 0 (codes "ok") before.held before.write_faults result after.held after.write_faults broken'.output →
        EndsWith secrets words (rests_of a b a' b') (record { streams = before; broken = broken; disks = disks_of a b }) (record { streams = after; broken = broken'; disks = disks_of a' b' }) result
    EndsWith-made before after broken broken' result s a' b' new ready shut b_same a_stood b_stood a_is b_is input tells =
        told_as words secrets (rests_of a b a' b') (record { streams = before; broken = broken; disks = disks_of a b }) (record { streams = after; broken = broken'; disks = disks_of a' b' }) 0 (codes "ok") result
        (run.made is (λ x y is_x is_y. (shut x y is_x is_y, (pinned_at s a' b' a_is b_is (ready x y is_x is_y), has_area s a' new a_is (ready x y is_x is_y)))) (ap image (b_is ∙ on_second s new.on_first) ∙ b_same)
        (record { a_stands = ap faults (a_is ∙ on_first s new.on_first) ∙ a_stood; b_stands = ap faults (b_is ∙ on_second s new.on_first) ∙ b_stood })) input tells

    kept : (a' b' : D) → (image a' ≡ image a) × (image b' ≡ image b) → AreBytesKept (disks_of a b) (disks_of a' b')
    kept a' b' same = record { a_stays = same.0; b_stays = same.1 }

    all_kept : (a' b' : D) → (image a' ≡ image a) × (image b' ≡ image b) → faults a' ≡ faults a → faults b' ≡ faults b → AreDisksKept (disks_of a b) (disks_of a' b')
    all_kept a' b' same a_stood b_stood = record { bytes = kept a' b' same; none_failed = record { a_stands = a_stood; b_stands = b_stood } }

    -- what is left of the disks after a fault
    pub not_lost : (laws : DiskLaws) (a' b' : D) → ((first second : List ℕ) → image a ≡ Some first → image b ≡ Some second → (IsShut first × IsShut second → ⊥) → IsPinned clock left_since image a → IsPinned clock left_since image b → (image a' ≡ image a) × (image b' ≡ image b)) →
        (IsPinned clock left_since image b → image b' ≡ image b) → ((first : List ℕ) → image a ≡ Some first → IsPinned clock left_since image a → clock a ≤ clock a') → clock b ≤ clock b' →
        ((first second : List ℕ) → image a ≡ Some first → image b ≡ Some second → IsPinned clock left_since image a → IsPinned clock left_since image b → IsShut first → IsShut second → PairsLeft clock left_since IsNoneOrFresh a b a' b') →
        AtRest a b → IsNotLost (disks_of a b) (disks_of a' b')
    not_lost laws a' b' open_kept b_kept a_later b_later any_moment rest = record {
      b_stays = b_kept rest.1;
      open_stays = λ x y is_x is_y is_open. kept a' b' (open_kept x y is_x is_y is_open rest.0 rest.1);
      none_or_new = λ x y is_x is_y shut x' y' is_x' is_y'.
          any_moment x y is_x is_y rest.0 rest.1 shut.0 shut.1 x' y'
          (laws.earlier a' (clock a) (clock a') x' (a_later x is_x rest.0) (laws.may_stay a' x' is_x')) (laws.earlier b' (clock b) (clock b') y' b_later (laws.may_stay b' y' is_y'));
    }

    pub EndsWith-unmade : (before after : Streams) (broken broken' : Broken) (result : ℕ) (fault : FormatFault) (a' b' : D) →
        (fault ≡ formats.AlreadyStore → (first second : List ℕ) → image a ≡ Some first → image b ≡ Some second → IsShut first × IsShut second → ⊥) → ((fault ≡ formats.Disk → ⊥) → (image a' ≡ image a) × (image b' ≡ image b)) →
        ((fault ≡ formats.Disk → ⊥) → faults a' ≡ faults a) → ((fault ≡ formats.Disk → ⊥) → faults b' ≡ faults b) →
        (fault ≡ formats.Disk → HasRisen (faults a) (faults a') ⊎ HasRisen (faults b) (faults b')) → (AtRest a b → IsNotLost (disks_of a b) (disks_of a' b')) → IsInputKept before after →
        TellsUnmade fault before.held before.write_faults result after.held after.write_faults broken'.output →
        EndsWith secrets words (rests_of a b a' b') (record { streams = before; broken = broken; disks = disks_of a b }) (record { streams = after; broken = broken'; disks = disks_of a' b' }) result
    EndsWith-unmade before after broken broken' result formats.AlreadyStore a' b' already same a_stood b_stood risen lost input tells =
        told_as words secrets (rests_of a b a' b') (record { streams = before; broken = broken; disks = disks_of a b }) (record { streams = after; broken = broken'; disks = disks_of a' b' }) 10 (codes "exists") result
        (run.exists is (λ x y is_x is_y. already refl x y is_x is_y) (all_kept a' b' (same (λ e. absurd cc)) (a_stood (λ e. absurd cc)) (b_stood (λ e. absurd cc)))) input tells
    EndsWith-unmade before after broken broken' result formats.Disk a' b' already same a_stood b_stood risen lost input tells =
        told_as words secrets (rests_of a b a' b') (record { streams = before; broken = broken; disks = disks_of a b }) (record { streams = after; broken = broken'; disks = disks_of a' b' }) 5 (codes "stopped") result (run.not_made is (risen refl) lost) input tells
    EndsWith-unmade before after broken broken' result formats.NoMemory a' b' already same a_stood b_stood risen lost input tells =
        untold_as words secrets (rests_of a b a' b') (record { streams = before; broken = broken; disks = disks_of a b }) (record { streams = after; broken = broken'; disks = disks_of a' b' }) result (run.in_init is (all_kept a' b' (same (λ e. absurd cc)) (a_stood (λ e. absurd cc)) (b_stood (λ e. absurd cc)))) input tells

    -- memory ran out at first
    pub EndsWith-unbegun : (before after : Streams) (broken broken' : Broken) → IsInputKept before after → after.held ≡ before.held → after.write_faults ≡ before.write_faults → EndsWith secrets words (rests_of a b a b) (record { streams = before; broken = broken; disks = disks_of a b }) (record { streams = after; broken = broken'; disks = disks_of a b }) 9
    EndsWith-unbegun before after broken broken' input held writes =
        untold_as words secrets (rests_of a b a b) (record { streams = before; broken = broken; disks = disks_of a b }) (record { streams = after; broken = broken'; disks = disks_of a b }) 9 (run.untouched refl) input (refl, held, writes)

  -- ---- a store that is opened

  -- of one of two disks a count rose since the start
  risen_since : (secrets : Secrets) (a b : D) (s s' : StoreView D) → opening.IsOpened clock left_since image faults a b secrets.seal_key secrets.ring s → HasRisen (faults (first_disk s)) (faults (first_disk s')) ⊎ HasRisen (faults (second_disk s)) (faults (second_disk s')) →
      HasRisen (faults a) (faults (first_disk s')) ⊎ HasRisen (faults b) (faults (second_disk s'))
  risen_since secrets a b s s' opened (inl risen) = inl (HasRisen-earlier (faults a) (faults (first_disk s)) (faults (first_disk s')) opened.first_read.handled.never_falls risen)
  risen_since secrets a b s s' opened (inr risen) = inr (HasRisen-earlier (faults b) (faults (second_disk s)) (faults (second_disk s')) opened.second_read.handled.never_falls risen)

  -- if no call of a disk failed since then, none did since the start
  pub none_failed_since : (secrets : Secrets) (a b : D) (s s' : StoreView D) → opening.IsOpened clock left_since image faults a b secrets.seal_key secrets.ring s → NoneFailed faults s s' → NoDiskFailed (disks_of a b) (disks_of (first_disk s') (second_disk s'))
  none_failed_since secrets a b s s' opened none = record { a_stands = none.first ∙ opened.first_read.no_fault; b_stands = none.second ∙ opened.second_read.no_fault }

  -- a store that was only read
  kept_since : (secrets : Secrets) (a b : D) (s : StoreView D) (a' b' : D) → opening.IsOpened clock left_since image faults a b secrets.seal_key secrets.ring s → a' ≡ first_disk s → b' ≡ second_disk s → AreDisksKept (disks_of a b) (disks_of a' b')
  kept_since secrets a b s a' b' opened a_is b_is = record {
    bytes = record { a_stays = ap image a_is ∙ opened.first_read.same; b_stays = ap image b_is ∙ opened.second_read.same };
    none_failed = record { a_stands = ap faults a_is ∙ opened.first_read.no_fault; b_stands = ap faults b_is ∙ opened.second_read.no_fault };
  }

  -- the disk that does not count is the same while no checkpoint exchanges the two
  pub other_is : (secrets : Secrets) (a b : D) (s s' : StoreView D) → opening.IsOpened clock left_since image faults a b secrets.seal_key secrets.ring s → s'.other ≡ s.other → s'.second_active ≡ s.second_active →
      one_of (image (second_disk s')) (image (first_disk s')) s.second_active ≡ one_of (image b) (image a) s.second_active
  other_is secrets a b s s' opened other place =
      ap (λ (o : D). one_of (image (one_of o s'.active s'.second_active)) (image (one_of s'.active o s'.second_active)) s.second_active) other
      ∙ ap (λ (w : Bool). one_of (image (one_of s.other s'.active w)) (image (one_of s'.active s.other w)) s.second_active) place
      ∙ other_same s.second_active s.active s'.active s.other (image a) (image b) opened.first_read.same opened.second_read.same

  -- where the script begins
  pub opened_start : (secrets : Secrets) (a b : D) (s : StoreView D) → opening.IsOpened clock left_since image faults a b secrets.seal_key secrets.ring s → IsLawfulStanding (standing_over s None (first_asker script_pass))
  opened_start secrets a b s opened =
      lawful_start s (subst (λ (k : List ℕ). IsLawful (authority_with k s.ring) s.base s.events) (sym opened.key_is)
      (subst (λ (r : List KeyView). IsLawful (authority_with secrets.seal_key r) s.base s.events) (sym opened.ring_is) opened.lawful))

  module _ (words : List (String Global)) (secrets : Secrets) (a b : D) (over : AreOfStore words) where
    same_disks : (fault : OpenFault) (a' b' : D) → (fault ≡ opens.Disk → ⊥) → IsNotOpened clock left_since image faults a b (authority_with secrets.seal_key secrets.ring) fault a' b' → AreDisksKept (disks_of a b) (disks_of a' b')
    same_disks fault a' b' not_disk n = record {
      bytes = record { a_stays = n.first_same not_disk; b_stays = n.second_same not_disk };
      none_failed = record { a_stands = n.first_no_fault not_disk; b_stands = n.second_no_fault not_disk };
    }

    pub EndsWith-unopened : (before after : Streams) (broken broken' : Broken) (result : ℕ) (fault : OpenFault) (a' b' : D) → IsNotOpened clock left_since image faults a b (authority_with secrets.seal_key secrets.ring) fault a' b' → IsInputKept before after → TellsUnopened fault before.held before.write_faults result after.held after.write_faults broken'.output →
        EndsWith secrets words (rests_of a b a' b') (record { streams = before; broken = broken; disks = disks_of a b }) (record { streams = after; broken = broken'; disks = disks_of a' b' }) result
    EndsWith-unopened before after broken broken' result opens.NoStore a' b' n input tells =
        told_as words secrets (rests_of a b a' b') (record { streams = before; broken = broken; disks = disks_of a b }) (record { streams = after; broken = broken'; disks = disks_of a' b' }) 4 (codes "nostore") result
        (run.no_store over (λ x y is_x is_y. has_no_area x y (n.cause x y is_x is_y)) (same_disks opens.NoStore a' b' (λ e. absurd cc) n)) input tells
    EndsWith-unopened before after broken broken' result (opens.Damaged number damage) a' b' n input (inl tells) =
        told_as words secrets (rests_of a b a' b') (record { streams = before; broken = broken; disks = disks_of a b }) (record { streams = after; broken = broken'; disks = disks_of a' b' }) 3 (damaged_text number damage) result
        (run.damaged number damage over n.cause (same_disks (opens.Damaged number damage) a' b' (λ e. absurd cc) n)) input tells
    EndsWith-unopened before after broken broken' result (opens.Damaged number damage) a' b' n input (inr tells) =
        untold_as words secrets (rests_of a b a' b') (record { streams = before; broken = broken; disks = disks_of a b }) (record { streams = after; broken = broken'; disks = disks_of a' b' }) result (run.over_store over (same_disks (opens.Damaged number damage) a' b' (λ e. absurd cc) n)) input tells
    EndsWith-unopened before after broken broken' result opens.Disk a' b' n input tells =
        told_as words secrets (rests_of a b a' b') (record { streams = before; broken = broken; disks = disks_of a b }) (record { streams = after; broken = broken'; disks = disks_of a' b' }) 5 (codes "stopped") result
        (run.not_opened over n.cause (λ rest. record { a_stays = n.first_handled.stays rest.0; b_stays = n.second_handled.stays rest.1 })) input tells
    EndsWith-unopened before after broken broken' result opens.NoMemory a' b' n input tells =
        untold_as words secrets (rests_of a b a' b') (record { streams = before; broken = broken; disks = disks_of a b }) (record { streams = after; broken = broken'; disks = disks_of a' b' }) result (run.over_store over (same_disks opens.NoMemory a' b' (λ e. absurd cc) n)) input tells

    pub EndsWith-unread : (before after : Streams) (broken broken' : Broken) → IsInputKept before after → after.held ≡ before.held → after.write_faults ≡ before.write_faults → EndsWith secrets words (rests_of a b a b) (record { streams = before; broken = broken; disks = disks_of a b }) (record { streams = after; broken = broken'; disks = disks_of a b }) 9
    EndsWith-unread before after broken broken' input held writes =
        untold_as words secrets (rests_of a b a b) (record { streams = before; broken = broken; disks = disks_of a b }) (record { streams = after; broken = broken'; disks = disks_of a b }) 9 (run.untouched refl) input (refl, held, writes)

    is_opened : (s : StoreView D) → IsStore s → opening.IsOpened clock left_since image faults a b secrets.seal_key secrets.ring s → IsOpened secrets s.generation s.opened (disks_of a b) (standing_over s None (first_asker script_pass))
    is_opened s store opened = record {
      secrets_are = ap (λ (k : List ℕ). secrets_of k s.ring) opened.key_is ∙ ap (λ (r : List KeyView). secrets_of secrets.seal_key r) opened.ring_is;
      asker_is = refl;
      running = refl;
      lawful = opened_start secrets a b s opened;
      unsettled = opened.unsettled;
      generation_is = refl;
      used_is = store.used_is ∙ ap (λ (body : List ℕ). length body) (body_unsettled s opened.unsettled);
      found = opened.newest_history;
    }

    -- an audit leaves the disks as they were
    pub EndsWith-audited : (pieces : Option ℕ) (before after : Streams) (broken broken' : Broken) (result : ℕ) (s : StoreView D) (a' b' : D) → AsksFor words (Audit pieces) → IsStore s → opening.IsOpened clock left_since image faults a b secrets.seal_key secrets.ring s →
        TellsAudit (authority_under secrets) s.base s.events before.held before.write_faults result after.held after.write_faults broken'.output → IsInputKept before after → a' ≡ first_disk s → b' ≡ second_disk s →
        EndsWith secrets words (rests_of a b a' b') (record { streams = before; broken = broken; disks = disks_of a b }) (record { streams = after; broken = broken'; disks = disks_of a' b' }) result
    EndsWith-audited pieces before after broken broken' result s a' b' asks store opened (reported report is tells) input a_is b_is =
        told_as words secrets (rests_of a b a' b') (record { streams = before; broken = broken; disks = disks_of a b }) (record { streams = after; broken = broken'; disks = disks_of a' b' }) (audit_status report.rows) (report_text report) result
        (run.audited pieces s.generation s.opened (standing_over s None (first_asker script_pass)) report asks (is_opened s store opened) is (kept_since secrets a b s a' b' opened a_is b_is)
        (subst (IsPinned clock left_since image) (sym a_is) opened.first_read.pinned, subst (IsPinned clock left_since image) (sym b_is) opened.second_read.pinned)) input tells
    EndsWith-audited pieces before after broken broken' result s a' b' asks store opened (unreported untold) input a_is b_is =
        untold_as words secrets (rests_of a b a' b') (record { streams = before; broken = broken; disks = disks_of a b }) (record { streams = after; broken = broken'; disks = disks_of a' b' }) result
        (run.over_store over (kept_since secrets a b s a' b' opened a_is b_is)) input untold

    -- an export leaves the disks as they were
    pub EndsWith-exported : (from : ℕ) (before after : Streams) (broken broken' : Broken) (result : ℕ) (s : StoreView D) (a' b' : D) → AsksFor words (Export from) → IsStore s → opening.IsOpened clock left_since image faults a b secrets.seal_key secrets.ring s →
        TellsExport s.base s.events from before.held before.write_faults result after.held after.write_faults broken'.output → IsInputKept before after → a' ≡ first_disk s → b' ≡ second_disk s →
        EndsWith secrets words (rests_of a b a' b') (record { streams = before; broken = broken; disks = disks_of a b }) (record { streams = after; broken = broken'; disks = disks_of a' b' }) result
    EndsWith-exported from before after broken broken' result s a' b' asks store opened tells input a_is b_is =
        run.exported from result s.generation s.opened (standing_over s None (first_asker script_pass)) asks (is_opened s store opened) (kept_since secrets a b s a' b' opened a_is b_is)
        (subst (IsPinned clock left_since image) (sym a_is) opened.first_read.pinned, subst (IsPinned clock left_since image) (sym b_is) opened.second_read.pinned) input tells

  -- ---- a checkpoint

  -- what is said of two disks by their place, of the one that counts and of the other
  told_at : (second : Bool) (active other : D) (x y : List ℕ) → image (one_of active other second) ≡ Some x → image (one_of other active second) ≡ Some y → (image active ≡ Some (one_of x y second)) × (image other ≡ Some (one_of y x second))
  told_at false active other x y is_x is_y = (is_x, is_y)
  told_at true active other x y is_x is_y = (is_y, is_x)

  pinned_active : (second : Bool) (active other : D) → IsPinned clock left_since image (one_of active other second) → IsPinned clock left_since image (one_of other active second) → IsPinned clock left_since image active
  pinned_active false active other one two = one
  pinned_active true active other one two = two

  pinned_other : (second : Bool) (active other : D) → IsPinned clock left_since image (one_of active other second) → IsPinned clock left_since image (one_of other active second) → IsPinned clock left_since image other
  pinned_other false active other one two = two
  pinned_other true active other one two = one

  -- a store that was opened is at rest, with the closed gate of its area or without it
  pub opened_at_rest : (secrets : Secrets) (a b : D) (s : StoreView D) → opening.IsOpened clock left_since image faults a b secrets.seal_key secrets.ring s → (x y : List ℕ) → image a ≡ Some x → image b ≡ Some y → IsAtRest clock left_since image s
  opened_at_rest secrets a b s opened x y is_x is_y =
      let told = told_at s.second_active s.active s.other x y (opened.first_read.same ∙ is_x) (opened.second_read.same ∙ is_y) in
      record {
        current = opened.current x y is_x is_y;
        active_bytes = one_of x y s.second_active;
        active_told = told.0;
        active_pinned = pinned_active s.second_active s.active s.other opened.first_read.pinned opened.second_read.pinned;
        other_bytes = one_of y x s.second_active;
        other_told = told.1;
        other_pinned = pinned_other s.second_active s.active s.other opened.first_read.pinned opened.second_read.pinned;
      }

  risen_other : (second : Bool) (active other new : D) → HasRisen (faults other) (faults new) →
      HasRisen (faults (one_of active other second)) (faults (one_of active new second)) ⊎ HasRisen (faults (one_of other active second)) (faults (one_of new active second))
  risen_other false active other new risen = inr risen
  risen_other true active other new risen = inl risen

  -- the store after each answer
  full_same : (s s' : StoreView D) (pass : ℕ) → MakesCheckpoint faults s pass checkpoints.Full s' → (s' ≡ s) × IsFullForCheckpoint s
  full_same s _ pass (makes.full running is_full) = (refl, is_full)

  made_fits : (s s' : StoreView D) (pass : ℕ) → MakesCheckpoint faults s pass checkpoints.Checkpointed s' → IsFullForCheckpoint s → ⊥
  made_fits s _ pass (makes.made active running room stood) = room

  made_stood : (s s' : StoreView D) (pass : ℕ) → MakesCheckpoint faults s pass checkpoints.Checkpointed s' → NoneFailed faults s s'
  made_stood s _ pass (makes.made active running room stood) = NoneFailed-checkpoint faults s (makes.with_checkpoint s pass active) pass checkpoints.Checkpointed (makes.made active running room stood) running

  stopped_fits : (s s' : StoreView D) (pass : ℕ) → s.stop ≡ None → MakesCheckpoint faults s pass checkpoints.Stopped s' → IsFullForCheckpoint s → ⊥
  stopped_fits s _ pass running (makes.failed other runs room risen) = room
  stopped_fits s _ pass running (makes.stopped earlier is) = none_some earlier (sym running ∙ is)

  unmade_same : (s s' : StoreView D) (pass : ℕ) → MakesCheckpoint faults s pass checkpoints.NoMemory s' → s' ≡ s
  unmade_same s _ pass (makes.without_memory running) = refl

  stopped_risen : (s s' : StoreView D) (pass : ℕ) → s.stop ≡ None → MakesCheckpoint faults s pass checkpoints.Stopped s' → HasRisen (faults (first_disk s)) (faults (first_disk s')) ⊎ HasRisen (faults (second_disk s)) (faults (second_disk s'))
  stopped_risen s _ pass running (makes.failed other runs room risen) = risen_other s.second_active s.active s.other other risen
  stopped_risen s _ pass running (makes.stopped earlier is) = none_some earlier (sym running ∙ is)

  -- the disk that counted, in its place
  active_is : (second : Bool) (active other : D) (x y : Option (List ℕ)) → image (one_of active other second) ≡ x → image (one_of other active second) ≡ y → image active ≡ one_of x y second
  active_is false active other x y is_x is_y = is_x
  active_is true active other x y is_x is_y = is_y

  made_place : (second : Bool) (active new : D) → one_of (image (one_of new active (not second))) (image (one_of active new (not second))) second ≡ image active
  made_place false active new = refl
  made_place true active new = refl

  stopped_place : (second : Bool) (active new : D) → one_of (image (one_of active new second)) (image (one_of new active second)) second ≡ image active
  stopped_place false active new = refl
  stopped_place true active new = refl

  made_stays : (s s' : StoreView D) (pass : ℕ) → MakesCheckpoint faults s pass checkpoints.Checkpointed s' → one_of (image (first_disk s')) (image (second_disk s')) s.second_active ≡ image s.active
  made_stays s _ pass (makes.made active running room stood) = made_place s.second_active s.active active

  stopped_stays : (s s' : StoreView D) (pass : ℕ) → s.stop ≡ None → MakesCheckpoint faults s pass checkpoints.Stopped s' → one_of (image (first_disk s')) (image (second_disk s')) s.second_active ≡ image s.active
  stopped_stays s _ pass running (makes.failed other runs room risen) = stopped_place s.second_active s.active other
  stopped_stays s _ pass running (makes.stopped earlier is) = none_some earlier (sym running ∙ is)

  newest_image : (s : StoreView D) (x y : List ℕ) → IsNewestCheckpoint s x y → IsNewestImage (s.generation + 1) (state_of_store s) x y
  newest_image s x y n = record { bytes = n.bytes; counts = n.counts; closed = n.closed }

  module _ (words : List (String Global)) (secrets : Secrets) (a b : D) (is : AsksFor words tasks.Checkpoint) (s : StoreView D) (store : IsStore s) (opened : opening.IsOpened clock left_since image faults a b secrets.seal_key secrets.ring s)
      (may_stay : (d : D) (bytes : List ℕ) → image d ≡ Some bytes → left_since d (clock d) bytes) (pass : ℕ) (s' : StoreView D) where
    abbrev is_start : IsOpened secrets s.generation s.opened (disks_of a b) (standing_over s None (first_asker script_pass))
    is_start = is_opened words secrets a b (of_checkpoint is) s store opened

    -- the bytes are as they were, and nothing is pending
    kept_by : s' ≡ s → AreDisksKept (disks_of a b) (disks_of (first_disk s') (second_disk s'))
    kept_by same = kept_since secrets a b s (first_disk s') (second_disk s') opened (ap (λ (n : StoreView D). first_disk n) same) (ap (λ (n : StoreView D). second_disk n) same)

    rests_by : s' ≡ s → AtRest (first_disk s') (second_disk s')
    rests_by same = (
      subst (λ (n : StoreView D). IsPinned clock left_since image (first_disk n)) (sym same) opened.first_read.pinned,
      subst (λ (n : StoreView D). IsPinned clock left_since image (second_disk n)) (sym same) opened.second_read.pinned,
    )

    -- the disk that counted is as it was
    stays_by : one_of (image (first_disk s')) (image (second_disk s')) s.second_active ≡ image s.active → NewestStays (disks_of a b) (disks_of (first_disk s') (second_disk s'))
    stays_by stays x y is_x is_y second counts =
        let now = counts_now s store (opened.current x y is_x is_y) x y (opened.first_read.same ∙ is_x) (opened.second_read.same ∙ is_y) in
        subst (λ (w : Bool). one_of (image (first_disk s')) (image (second_disk s')) w ≡ one_of (image a) (image b) w) (same_place s.second_active second (sym now ∙ counts))
        (stays ∙ active_is s.second_active s.active s.other (image a) (image b) opened.first_read.same opened.second_read.same)

    -- it was made: the store is ready, and its newest area has the image of the state
    is_ready : Checkpoints clock left_since image faults s pass checkpoints.Checkpointed s' → (x y : List ℕ) → image a ≡ Some x → image b ≡ Some y → IsReady clock left_since image s'
    is_ready made x y is_x is_y =
        let told = told_at s.second_active s.active s.other x y (opened.first_read.same ∙ is_x) (opened.second_read.same ∙ is_y) in
        made.makes_ready (opened.current x y is_x is_y) refl (one_of x y s.second_active) (one_of y x s.second_active) told.0 told.1
        (pinned_active s.second_active s.active s.other opened.first_read.pinned opened.second_read.pinned)

    ends : (before after : Streams) (broken broken' : Broken) (result : ℕ) (reply : CheckpointReply) → Checkpoints clock left_since image faults s pass reply s' → IsInputKept before after → TellsCheckpoint reply before.held before.write_faults result after.held after.write_faults broken'.output →
        EndsWith secrets words (rests_of a b (first_disk s') (second_disk s')) (record { streams = before; broken = broken; disks = disks_of a b }) (record { streams = after; broken = broken'; disks = disks_of (first_disk s') (second_disk s') }) result
    ends before after broken broken' result checkpoints.Checkpointed made input tells =
        told_as words secrets (rests_of a b (first_disk s') (second_disk s')) (record { streams = before; broken = broken; disks = disks_of a b }) (record { streams = after; broken = broken'; disks = disks_of (first_disk s') (second_disk s') }) 0 (codes "ok checkpoint") result
        (run.checkpointed s.generation s.opened (standing_over s None (first_asker script_pass)) is is_start (made_fits s s' pass made.answer) (stays_by (made_stays s s' pass made.answer)) (none_failed_since secrets a b s s' opened (made_stood s s' pass made.answer)) (λ x y is_x is_y. (
          pinned_at s' (first_disk s') (second_disk s') refl refl (is_ready made x y is_x is_y),
          λ x' y' is_x' is_y'. newest_image s x' y' (made.newest (opened.current x y is_x is_y) refl x' y' is_x' is_y'),
        ))) input tells
    ends before after broken broken' result checkpoints.Full made input tells =
        told_as words secrets (rests_of a b (first_disk s') (second_disk s')) (record { streams = before; broken = broken; disks = disks_of a b }) (record { streams = after; broken = broken'; disks = disks_of (first_disk s') (second_disk s') }) 14 (codes "full") result
        (let full = full_same s s' pass made.answer in run.full s.generation s.opened (standing_over s None (first_asker script_pass)) is is_start full.1 (kept_by full.0) (rests_by full.0)) input tells
    ends before after broken broken' result checkpoints.Stopped made input tells =
        told_as words secrets (rests_of a b (first_disk s') (second_disk s')) (record { streams = before; broken = broken; disks = disks_of a b }) (record { streams = after; broken = broken'; disks = disks_of (first_disk s') (second_disk s') }) 5 (codes "stopped") result
        (run.not_checkpointed s.generation s.opened (standing_over s None (first_asker script_pass)) is is_start (stopped_fits s s' pass opened.running made.answer) (risen_since secrets a b s s' opened (stopped_risen s s' pass opened.running made.answer)) (stays_by (stopped_stays s s' pass opened.running made.answer))
        (record {
          survives = λ x y is_x is_y closed x' y' is_x' is_y'.
              let halts = made.halts (opened.ready x y is_x is_y closed) refl x' y' (may_stay (first_disk s') x' is_x') (may_stay (second_disk s') y' is_y') in
              let now = counts_now s store (opened.current x y is_x is_y) x y (opened.first_read.same ∙ is_x) (opened.second_read.same ∙ is_y) in (
                halts.0,
                λ second counts. subst (λ (w : Bool). IsNewestAtOrNext s.generation w x' y') (same_place s.second_active second (sym now ∙ counts)) halts.1,
              );
          at_rest = λ x y is_x is_y second counts x' y' is_x' is_y'.
              let now = counts_now s store (opened.current x y is_x is_y) x y (opened.first_read.same ∙ is_x) (opened.second_read.same ∙ is_y) in
              subst (λ (w : Bool). SurvivesCheckpoint s.base s.events s.generation w x' y') (same_place s.second_active second (sym now ∙ counts))
              (made.halts_at_rest (opened_at_rest secrets a b s opened x y is_x is_y) refl x' y' (may_stay (first_disk s') x' is_x') (may_stay (second_disk s') y' is_y'));
        })) input tells
    ends before after broken broken' result checkpoints.NoMemory made input tells =
        untold_as words secrets (rests_of a b (first_disk s') (second_disk s')) (record { streams = before; broken = broken; disks = disks_of a b }) (record { streams = after; broken = broken'; disks = disks_of (first_disk s') (second_disk s') }) result
        (run.over_store (of_checkpoint is) (kept_by (unmade_same s s' pass made.answer))) input tells

    pub EndsWith-checkpointed : (before after : Streams) (broken broken' : Broken) (result : ℕ) (reply : CheckpointReply) (a' b' : D) → Checkpoints clock left_since image faults s pass reply s' → IsInputKept before after →
        TellsCheckpoint reply before.held before.write_faults result after.held after.write_faults broken'.output → a' ≡ first_disk s' → b' ≡ second_disk s' →
        EndsWith secrets words (rests_of a b a' b') (record { streams = before; broken = broken; disks = disks_of a b }) (record { streams = after; broken = broken'; disks = disks_of a' b' }) result
    EndsWith-checkpointed before after broken broken' result reply a' b' made input tells a_is b_is =
        subst (λ (x : D). EndsWith secrets words (rests_of a b x b') (record { streams = before; broken = broken; disks = disks_of a b }) (record { streams = after; broken = broken'; disks = disks_of x b' }) result) (sym a_is)
        (subst (λ (y : D). EndsWith secrets words (rests_of a b (first_disk s') y) (record { streams = before; broken = broken; disks = disks_of a b }) (record { streams = after; broken = broken'; disks = disks_of (first_disk s') y }) result) (sym b_is)
        (ends before after broken broken' result reply made input tells))

  -- ---- a script over a store that is opened, and messages that it takes

  module _ (secrets : Secrets) (a b : D) where
    returns_of : (may_stay : (d : D) (bytes : List ℕ) → image d ≡ Some bytes → left_since d (clock d) bytes) (s s' : StoreView D) (met : Option StoreEntry) (asker : ScriptContext) → IsStore s → IsStore s' → opening.IsOpened clock left_since image faults a b secrets.seal_key secrets.ring s →
        StoreGoesOn clock left_since image faults s s' met → Returns (rests_of a b (first_disk s') (second_disk s')) s.generation s.opened (disks_of a b) (disks_of (first_disk s') (second_disk s')) (standing_over s None (first_asker script_pass)) (standing_over s' met asker)
    returns_of may_stay s s' met asker store store' opened goes =
        let added : List Checkpoint = goes.checkpoints_go_on.0 in
        let all : added ≡ s'.checkpoints = added_all s.checkpoints added s'.checkpoints opened.unsettled goes.checkpoints_go_on.1 in
        record {
          grown = goes.generation_grows ∙ ap (λ (cs : List Checkpoint). s.generation + length cs) all;
          whole = λ x y is_x is_y none. newest_of s' store' (goes.current (opened.current x y is_x is_y) none);
          closed = λ x y is_x is_y closed none.
              let ready = goes.ready (opened.ready x y is_x is_y closed) none in (
                pinned_at s' (first_disk s') (second_disk s') refl refl ready,
                subst (λ (found : List ℕ). IfTold (disks_of (first_disk s') (second_disk s')) (IsNewestClosed s'.generation (image_since found (head_of s') s'.checkpoints) (records_of s'))) goes.opened_stays (closed_of s' store' ready),
              );
          place = λ none x y is_x is_y second counts x' y' is_x' is_y'.
              let now = counts_now s store (opened.current x y is_x is_y) x y (opened.first_read.same ∙ is_x) (opened.second_read.same ∙ is_y) in
              counts_now s' store' (goes.current (opened.current x y is_x is_y) none) x' y' is_x' is_y'
              ∙ ap Some (place_moved added s'.checkpoints s.second_active second s'.second_active all (same_place s.second_active second (sym now ∙ counts)) goes.place_is);
          none_failed = λ none. none_failed_since secrets a b s s' opened (goes.none_failed none);
          failed = λ entry same. risen_since secrets a b s s' opened (goes.failed entry same);
          survives = λ x y is_x is_y closed entry same x' y' is_x' is_y'.
              (goes.halts (opened.ready x y is_x is_y closed) entry same x' y' (may_stay (first_disk s') x' is_x') (may_stay (second_disk s') y' is_y')).0;
          newest_at = λ entry same x y is_x is_y closed second counts x' y' is_x' is_y'.
              let now = counts_now s store (opened.current x y is_x is_y) x y (opened.first_read.same ∙ is_x) (opened.second_read.same ∙ is_y) in
              subst (λ (w : Bool). IsNewestMet s'.generation w entry x' y') (place_moved added s'.checkpoints s.second_active second s'.second_active all (same_place s.second_active second (sym now ∙ counts)) goes.place_is)
              (goes.halts (opened.ready x y is_x is_y closed) entry same x' y' (may_stay (first_disk s') x' is_x') (may_stay (second_disk s') y' is_y')).1;
          mended = λ entry same more x y is_x is_y second counts x' y' is_x' is_y'.
              let now = counts_now s store (opened.current x y is_x is_y) x y (opened.first_read.same ∙ is_x) (opened.second_read.same ∙ is_y) in
              subst (λ (w : Bool). SurvivesMetAt s'.base s'.events s'.generation w entry x' y') (place_moved added s'.checkpoints s.second_active second s'.second_active all (same_place s.second_active second (sym now ∙ counts)) goes.place_is)
              (goes.halts_mended (opened_at_rest secrets a b s opened x y is_x is_y) entry same (λ nothing. more nothing.events_stay (nothing.checkpoints_stay ∙ opened.unsettled)) x' y' (may_stay (first_disk s') x' is_x') (may_stay (second_disk s') y' is_y'));
          unclosed = λ pass same x y is_x is_y second counts x' y' is_x' is_y'.
              let now = counts_now s store (opened.current x y is_x is_y) x y (opened.first_read.same ∙ is_x) (opened.second_read.same ∙ is_y) in
              subst (λ (w : Bool). SurvivesCheckpoint s'.base s'.events s'.generation w x' y') (place_moved added s'.checkpoints s.second_active second s'.second_active all (same_place s.second_active second (sym now ∙ counts)) goes.place_is)
              (goes.halts_checkpoint (opened_at_rest secrets a b s opened x y is_x is_y) pass same x' y' (may_stay (first_disk s') x' is_x') (may_stay (second_disk s') y' is_y'));
          begins = λ event same x y is_x is_y second counts x' y' is_x' is_y'.
              let now = counts_now s store (opened.current x y is_x is_y) x y (opened.first_read.same ∙ is_x) (opened.second_read.same ∙ is_y) in
              let there = place_moved added s'.checkpoints s.second_active second s'.second_active all (same_place s.second_active second (sym now ∙ counts)) goes.place_is in
              subst (λ (found : List ℕ). NewestBegins s'.generation (place_after (length s'.checkpoints) second) (area_bytes s'.generation (image_since found (head_of s') s'.checkpoints) (payloads_of (records_of s'))) x' y') goes.opened_stays
              (subst (λ (w : Bool). NewestBegins s'.generation w (body_of s') x' y') there
              (goes.halts_event (opened_at_rest secrets a b s opened x y is_x is_y) event same x' y' (may_stay (first_disk s') x' is_x') (may_stay (second_disk s') y' is_y')));
          other_stays = λ none untried x y is_x is_y second counts.
              let now = counts_now s store (opened.current x y is_x is_y) x y (opened.first_read.same ∙ is_x) (opened.second_read.same ∙ is_y) in
              subst (λ (w : Bool). one_of (image (second_disk s')) (image (first_disk s')) w ≡ one_of (image b) (image a) w) (same_place s.second_active second (sym now ∙ counts))
              (other_is secrets a b s s' opened (goes.other_stays (all ∙ none) untried) (place_kept added s.second_active s'.second_active (all ∙ none) goes.place_is));
        }

  module _ (words : List (String Global)) (secrets : Secrets) (a b : D) (is : AsksFor words Stored) where
    pub EndsWith-stored : (may_stay : (d : D) (bytes : List ℕ) → image d ≡ Some bytes → left_since d (clock d) bytes) (before after : Streams) (broken broken' : Broken) (result : ℕ) (s s' : StoreView D) (asker : ScriptContext) (a' b' : D) → IsStore s → IsStore s' →
        opening.IsOpened clock left_since image faults a b secrets.seal_key secrets.ring s → AnswersInput clock left_since image faults 0 (record { store = s; asker = first_asker script_pass }) before result (record { store = s'; asker = asker }) after broken' →
        a' ≡ first_disk s' → b' ≡ second_disk s' → EndsWith secrets words (rests_of a b a' b') (record { streams = before; broken = broken; disks = disks_of a b }) (record { streams = after; broken = broken'; disks = disks_of a' b' }) result
    EndsWith-stored may_stay before after broken broken' result s s' asker a' b' store store' opened answers a_is b_is =
        subst (λ (x : D). EndsWith secrets words (rests_of a b x b') (record { streams = before; broken = broken; disks = disks_of a b }) (record { streams = after; broken = broken'; disks = disks_of x b' }) result) (sym a_is)
        (subst (λ (y : D). EndsWith secrets words (rests_of a b (first_disk s') y) (record { streams = before; broken = broken; disks = disks_of a b }) (record { streams = after; broken = broken'; disks = disks_of (first_disk s') y }) result) (sym b_is)
        (run.stored result s.generation s.opened (standing_over s None (first_asker script_pass)) (standing_over s' answers.met asker) is (is_opened words secrets a b (of_script is) s store opened) (returns_of secrets a b may_stay s s' answers.met asker store store' opened answers.goes_on) answers.ends))

  module _ (words : List (String Global)) (secrets : Secrets) (a b : D) (is : AsksFor words Follow) where
    pub EndsWith-followed : (may_stay : (d : D) (bytes : List ℕ) → image d ≡ Some bytes → left_since d (clock d) bytes) (before after : Streams) (broken broken' : Broken) (result : ℕ) (s s' : StoreView D) (asker : ScriptContext) (a' b' : D) → IsStore s → IsStore s' →
        opening.IsOpened clock left_since image faults a b secrets.seal_key secrets.ring s → FollowsInput clock left_since image faults (record { store = s; asker = first_asker script_pass }) before result (record { store = s'; asker = asker }) after broken' →
        a' ≡ first_disk s' → b' ≡ second_disk s' → EndsWith secrets words (rests_of a b a' b') (record { streams = before; broken = broken; disks = disks_of a b }) (record { streams = after; broken = broken'; disks = disks_of a' b' }) result
    EndsWith-followed may_stay before after broken broken' result s s' asker a' b' store store' opened follows a_is b_is =
        subst (λ (x : D). EndsWith secrets words (rests_of a b x b') (record { streams = before; broken = broken; disks = disks_of a b }) (record { streams = after; broken = broken'; disks = disks_of x b' }) result) (sym a_is)
        (subst (λ (y : D). EndsWith secrets words (rests_of a b (first_disk s') y) (record { streams = before; broken = broken; disks = disks_of a b }) (record { streams = after; broken = broken'; disks = disks_of (first_disk s') y }) result) (sym b_is)
        (run.followed result s.generation s.opened (standing_over s None (first_asker script_pass)) (standing_over s' follows.met asker) is (is_opened words secrets a b (of_follow is) s store opened) (returns_of secrets a b may_stay s s' follows.met asker store store' opened follows.goes_on) follows.ends))

-- ---- no memory for the words

pub EndsWith-unasked : (words : List (String Global)) (secrets : Secrets) (rests : Rests) (before after : Ports) → after.disks ≡ before.disks → IsInputKept before.streams after.streams → after.streams.held ≡ before.streams.held → after.streams.write_faults ≡ before.streams.write_faults →
    EndsWith secrets words rests before after 9
EndsWith-unasked words secrets rests before after same input held writes = run.out_of_memory (run.untouched same) input held writes

-- ---- a large run

pub EndsWith-loaded : (words : List (String Global)) (secrets : Secrets) (rests : Rests) (before after : Ports) (rounds seed result : ℕ) → AsksFor words (Load rounds seed) → after.disks ≡ before.disks → IsInputKept before.streams after.streams →
    ((told : List ℕ) × IsLoaded rounds seed told × Wrote 0 told before.streams.held before.streams.write_faults result after.streams.held after.streams.write_faults after.broken.output) ⊎ WroteNothing before.streams.held before.streams.write_faults result after.streams.held after.streams.write_faults →
    EndsWith secrets words rests before after result
EndsWith-loaded words secrets rests before after rounds seed result is same input (inl loaded) =
    told_as words secrets rests before after 0 loaded.0 result (run.loaded rounds seed loaded.0 is loaded.1 same) input loaded.2
EndsWith-loaded words secrets rests before after rounds seed result is same input (inr untold) =
    untold_as words secrets rests before after result
    (run.untouched same) input untold
