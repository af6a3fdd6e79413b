-- How a run ends that serves.
use Rattle.std.proofs.Common.{◌≡◌, ◌∙◌, ◌⊎◌, inl, inr, ℕ, ◌+◌, ◌≤◌, List, [], ◌∷◌, ◌++◌, ◌-◌, length, take, drop, append_assoc, append-nil, map, Bool, true, false, Option, Some, None, codes, decimal, refl, sym, ap, subst, arith, add-zero}
use Rattle.pcfs_ports.specs.Accepted.{FallsBy}
use Rattle.pcfs_ports.specs.Faults.{HasRisen}
use Rattle.journal_core.specs.Area.{area_bytes}
use Rattle.access_history.specs.Base.{BaseView}
use Rattle.access_history.specs.History.{authority_with}
use Rattle.access_history.specs.Lawful.{IsLawful}
use Rattle.journal_records.specs.declared.event.Event.{Event}
use Rattle.access_history.proofs.HeadlineLemmas.{Headline-lawful}
use Rattle.policy_statement.specs.Ring.{KeyView}
use Rattle.pcfs_secrets.specs.declared.secrets.Secrets.{Secrets}
use Rattle.pcfs_server.specs.Ends.{number_of}
use Rattle.pcfs_server.specs.declared.end.ServeEnd.{ServeEnd}
use Rattle.pcfs_server.specs.declared.end.ServeEnd.TheVariants as serve_ends
use Rattle.pcfs_session.specs.LineAnswer.{authority_under}
use Rattle.pcfs_session.specs.Streams.{Streams}
use Rattle.pcfs_session.proofs.StoredLemmas.{HasRisen-earlier}
use Rattle.pcfs_store.specs.Entries.{Root, StoreEntry, happened, checkpointed, stopped, stop_entries, merged, root_of, entries_of, checkpoints_among, events_among}
use Rattle.pcfs_store.specs.Checkpoints.{place_after}
use Rattle.pcfs_store.specs.declared.checkpoints.Checkpoint.{Checkpoint}
use Rattle.pcfs_store.specs.Newest.{one_of, NewestBegins}
use Rattle.pcfs_store.specs.Ready.{SurvivesStop, IsNewestStop, SurvivesStopAt, SurvivesCheckpoint}
use Rattle.pcfs_store.specs.StoredHistory.{payloads_of, state_after}
use Rattle.pcfs_store.specs.StoreView.{StoreView, IsStore, first_disk, second_disk, body_of, head_of, image_since, image_of, last_after, records_of}
use Rattle.pcfs_store.proofs.EntryLemmas.{events-entries, generation-entries}
use Rattle.recover.specs.declared.fault.OpenFault.{OpenFault}
use Rattle.recover.specs.declared.fault.OpenFault.TheVariants as opens
use Rattle.recover.specs.Opening.{IsNotOpened, IsNewestClosed}
use Rattle.recover.specs.Opening as opening
use Rattle.shared_store.specs.GoesOn.{HasGoneOn}
use Rattle.pcfs_tools.specs.Broken.{Broken}
use Rattle.pcfs_tools.specs.LastLine.{Wrote}
use Rattle.pcfs_top.specs.Ports.{Rests, AreDisksKept}
use Rattle.pcfs_top.specs.Run.{IsNewestOf, TellsUnopened, damaged_text}
use Rattle.pcfs_top.proofs.EndsWithLemmas.{disks_of, rests_of, newest_of, counts_now, closed_of, pinned_at, none_failed_since, other_is, added_all, place_kept, place_moved, has_no_area, opened_at_rest}
use Rattle.pcfs_run.specs.Passes.{PassEntries, AreOfPasses, IsGrown, stop_among}
use Rattle.pcfs_run.specs.Served.{Net, ServePorts, IsNetKept, AreAttended, root_under, IsServed, TellsServed, ServeWrites, EndsServing, all_served, net_failed}
use Rattle.pcfs_run.specs.Served as serving

-- ---- entries

events-append : (xs ys : List StoreEntry) → events_among (xs ++ ys) ≡ events_among xs ++ events_among ys
events-append [] ys = refl
events-append (happened event ∷ xs) ys = ap (λ (l : List Event). event ∷ l) (events-append xs ys)
events-append (checkpointed pass ∷ xs) ys = events-append xs ys
events-append (stopped pass met ∷ xs) ys = events-append xs ys

checkpoints-append : (xs ys : List StoreEntry) → checkpoints_among (xs ++ ys) ≡ checkpoints_among xs + checkpoints_among ys
checkpoints-append [] ys = omega arith
checkpoints-append (happened event ∷ xs) ys = checkpoints-append xs ys
checkpoints-append (checkpointed pass ∷ xs) ys = let rest = checkpoints-append xs ys in omega (arith, rest)
checkpoints-append (stopped pass met ∷ xs) ys = checkpoints-append xs ys

-- the entries of a store without checkpoints that runs are its events
entries_opened : {D : Type 0} (s : StoreView D) → s.checkpoints ≡ [] → s.stop ≡ None → entries_of s ≡ map happened s.events
entries_opened s none running =
    ap (λ (cs : List Checkpoint). merged 0 s.events cs ++ stop_entries s.stop s.met) none ∙ ap (λ (o : Option ℕ). map happened s.events ++ stop_entries o s.met) running ∙ append-nil (map happened s.events)

-- the mark among a store's entries is its stop
stop-happened : (events : List Event) (rest : List StoreEntry) → stop_among (map happened events ++ rest) ≡ stop_among rest
stop-happened [] rest = refl
stop-happened (event ∷ events) rest = stop-happened events rest

stop-merged : (before : ℕ) (events : List Event) (checkpoints : List Checkpoint) (rest : List StoreEntry) → stop_among (merged before events checkpoints ++ rest) ≡ stop_among rest
stop-merged before events [] rest = stop-happened events rest
stop-merged before events (checkpoint ∷ checkpoints) rest =
    let some = take (checkpoint.after - before) events in
    let others = merged checkpoint.after (drop (checkpoint.after - before) events) checkpoints in
    ap stop_among (append_assoc (map happened some) (checkpointed checkpoint.pass ∷ others) rest)
    ∙ stop-happened some (checkpointed checkpoint.pass ∷ (others ++ rest))
    ∙ stop-merged checkpoint.after (drop (checkpoint.after - before) events) checkpoints rest

stop-last : (stop : Option ℕ) (met : Option Event) → stop_among (stop_entries stop met) ≡ stop
stop-last None met = refl
stop-last (Some pass) met = refl

stop-entries : (events : List Event) (checkpoints : List Checkpoint) (stop : Option ℕ) (met : Option Event) → stop_among (merged 0 events checkpoints ++ stop_entries stop met) ≡ stop
stop-entries events checkpoints stop met = stop-merged 0 events checkpoints (stop_entries stop met) ∙ stop-last stop met

stop-append : (xs ys : List StoreEntry) → stop_among xs ≡ None → stop_among (xs ++ ys) ≡ stop_among ys
stop-append [] ys none = refl
stop-append (happened event ∷ xs) ys none = stop-append xs ys none
stop-append (checkpointed pass ∷ xs) ys none = stop-append xs ys none
stop-append (stopped pass met ∷ xs) ys none = absurd cc

same_place : (x y : Bool) → Some x ≡ Some y → x ≡ y
same_place x y is = cc

-- ---- connections

-- nothing was asked of the listener
FallsBy-none : (waiting : Option ℕ) → FallsBy 0 waiting waiting
FallsBy-none None = refl
FallsBy-none (Some left) = ap Some (sym (add-zero left))

-- memory ran out before the first connection
pub AreAttended-none : (count : ℕ) (net : Net) → 1 ≤ count → AreAttended count net net (serve_ends.NoMemory 0)
AreAttended-none count net some = record { taken = inl (FallsBy-none net.waiting); cause = omega (arith, some); risen = λ failed. absurd failed; one_failed = λ failed. absurd failed; faults_stay = refl; nonce_faults_stay = refl }

-- one call failed, of one of two ports, whatever else is known of it
pub one_of_two : {A B C D E F : Type 0} → ((A × B) × C) ⊎ ((D × E) × F) → (A × C) ⊎ (D × F)
one_of_two (inl first) = inl (first.0.0, first.1)
one_of_two (inr second) = inr (second.0.0, second.1)

module _ {D : Type 0} (is_of : PassEntries) (clock : D → ℕ) (left_since : D → ℕ → List ℕ → Type 0) (image : D → Option (List ℕ)) (faults : D → ℕ) (secrets : Secrets) (a b : D) where
  abbrev Opened : StoreView D → Type 0
  Opened s = opening.IsOpened clock left_since image faults a b secrets.seal_key secrets.ring s

  -- of one of two disks a count rose since the start
  risen_since : (s s' : StoreView D) → Opened s → HasRisen (faults (first_disk s)) (faults (first_disk s')) ⊎ HasRisen (faults (second_disk s)) (faults (second_disk s')) →
      HasRisen (faults a) (faults (first_disk s')) ⊎ HasRisen (faults b) (faults (second_disk s'))
  risen_since s s' opened (inl risen) = inl (HasRisen-earlier (faults a) (faults (first_disk s)) (faults (first_disk s')) opened.first_read.handled.never_falls risen)
  risen_since s s' opened (inr risen) = inr (HasRisen-earlier (faults b) (faults (second_disk s)) (faults (second_disk s')) opened.second_read.handled.never_falls risen)

  -- the count of the disk that does not count rose since the start
  other_risen : (second : Bool) (active other active' other' : D) → faults a ≤ faults (one_of active other second) → faults b ≤ faults (one_of other active second) → HasRisen (faults other) (faults other') →
      HasRisen (one_of (faults b) (faults a) second) (one_of (faults (one_of other' active' second)) (faults (one_of active' other' second)) second)
  other_risen false active other active' other' first second risen = HasRisen-earlier (faults b) (faults other) (faults other') second risen
  other_risen true active other active' other' first second risen = HasRisen-earlier (faults a) (faults other) (faults other') first risen

  -- ---- a store that was opened and served

  module _ (may_stay : (d : D) (bytes : List ℕ) → image d ≡ Some bytes → left_since d (clock d) bytes) (s s' : StoreView D) (store : IsStore s) (store' : IsStore s') (opened : Opened s) (goes : HasGoneOn clock left_since image faults s s') where
    -- what holds under the key, ring and base of the store that was served does under those of the run and the store that was opened
    under : (P : List ℕ → List KeyView → BaseView → Type 0) → P s'.key s'.ring s'.base → P secrets.seal_key secrets.ring s.base
    under P holds =
        subst (λ (base : BaseView). P secrets.seal_key secrets.ring base) goes.base_stays
        (subst (λ (ring : List KeyView). P secrets.seal_key ring s'.base) (goes.ring_stays ∙ opened.ring_is)
        (subst (λ (key : List ℕ). P key s'.ring s'.base) (goes.key_stays ∙ opened.key_is) holds))

    lawful_first : IsLawful (authority_with s.key s.ring) s.base s.events
    lawful_first =
        subst (λ (key : List ℕ). IsLawful (authority_with key s.ring) s.base s.events) (sym opened.key_is)
        (subst (λ (ring : List KeyView). IsLawful (authority_with secrets.seal_key ring) s.base s.events) (sym opened.ring_is) opened.lawful)

    lawful_then : IsLawful (authority_with s'.key s'.ring) s'.base s'.events
    lawful_then = goes.lawful lawful_first

    lawful_now : IsLawful (authority_under secrets) s.base s'.events
    lawful_now = under (λ key ring base. IsLawful (authority_with key ring) base s'.events) lawful_then

    -- the checkpoints at the end were all added
    added_to : goes.checkpoints_go_on.0 ≡ s'.checkpoints
    added_to = added_all s.checkpoints goes.checkpoints_go_on.0 s'.checkpoints opened.unsettled goes.checkpoints_go_on.1

    generation_is : s'.generation ≡ s.generation + length s'.checkpoints
    generation_is = goes.generation_grows ∙ ap (λ (cs : List Checkpoint). s.generation + length cs) added_to

    place_by : s'.checkpoints ≡ [] → s'.second_active ≡ s.second_active
    place_by none = place_kept goes.checkpoints_go_on.0 s.second_active s'.second_active (added_to ∙ none) goes.place_is

    -- the disk that does not count is as it was, or it failed at a checkpoint
    abbrev OtherAt : Option ℕ → Bool → Type 0
    OtherAt stop w =
        (one_of (image (second_disk s')) (image (first_disk s')) w ≡ one_of (image b) (image a) w) ⊎
        ((pass : ℕ) × (stop ≡ Some pass) × (s'.met ≡ None) × HasRisen (one_of (faults b) (faults a) w) (one_of (faults (second_disk s')) (faults (first_disk s')) w))

    other_by : (stop : Option ℕ) → s'.stop ≡ stop → s'.checkpoints ≡ [] → (s'.other ≡ s.other) ⊎ ((pass : ℕ) × (s'.stop ≡ Some pass) × (s'.met ≡ None) × HasRisen (faults s.other) (faults s'.other)) → OtherAt stop s.second_active
    other_by stop is none (inl same) = inl (other_is clock left_since image faults secrets a b s s' opened same (place_by none))
    other_by stop is none (inr failed) = inr (
      failed.0,
      sym is ∙ failed.1,
      failed.2,
      subst (λ (w : Bool). HasRisen (one_of (faults b) (faults a) s.second_active) (one_of (faults (one_of s'.other s'.active w)) (faults (one_of s'.active s'.other w)) s.second_active)) (sym (place_by none))
          (other_risen s.second_active s.active s.other s'.active s'.other opened.first_read.handled.never_falls opened.second_read.handled.never_falls failed.3),
    )

    -- the mark is none of the opening
    added_stop : (attended count : ℕ) (grown : IsGrown is_of attended count s s') → stop_among grown.added ≡ s'.stop
    added_stop attended count grown =
        sym (stop-append (entries_of s) grown.added (stop-entries s.events s.checkpoints s.stop s.met ∙ opened.running)) ∙ ap stop_among (sym grown.parts) ∙ stop-entries s'.events s'.checkpoints s'.stop s'.met

    added_checkpoints : (attended count : ℕ) (grown : IsGrown is_of attended count s s') → checkpoints_among grown.added ≡ length s'.checkpoints
    added_checkpoints attended count grown =
        let before = generation-entries s store in
        let after = generation-entries s' store' in
        let none : length s.checkpoints ≡ 0 = ap length opened.unsettled in
        let parts : checkpoints_among (entries_of s') ≡ checkpoints_among (entries_of s) + checkpoints_among grown.added = ap checkpoints_among grown.parts ∙ checkpoints-append (entries_of s) grown.added in
        omega (arith, before, after, none, parts, store'.counted)

    -- the entries at the end are the events of the opening, and those that were added
    added_entries : (attended count : ℕ) (grown : IsGrown is_of attended count s s') → entries_of s' ≡ map happened s.events ++ grown.added
    added_entries attended count grown = grown.parts ∙ ap (λ (l : List StoreEntry). l ++ grown.added) (entries_opened s opened.unsettled opened.running)

    -- the root of the store is that of the run
    abbrev root_with : List ℕ → List KeyView → ℕ → Root
    root_with key ring generation = record { base = s.base; key = key; ring = ring; generation = generation; image_length = length s.opened }

    root_is : root_of s ≡ root_under secrets s.generation s.opened s.base
    root_is =
        let none : length s.checkpoints ≡ 0 = ap length opened.unsettled in
        let first : s.generation - length s.checkpoints ≡ s.generation = omega (arith, none) in
        ap (λ (key : List ℕ). root_with key s.ring (s.generation - length s.checkpoints)) opened.key_is ∙ ap (λ (ring : List KeyView). root_with secrets.seal_key ring (s.generation - length s.checkpoints)) opened.ring_is
        ∙ ap (root_with secrets.seal_key secrets.ring) first

    added_of_passes : (attended count : ℕ) (grown : IsGrown is_of attended count s s') → AreOfPasses is_of (root_under secrets s.generation s.opened s.base) (map happened s.events) attended count grown.added
    added_of_passes attended count grown =
        subst (λ (root : Root). AreOfPasses is_of root (map happened s.events) attended count grown.added) root_is
        (subst (λ (first : List StoreEntry). AreOfPasses is_of (root_of s) first attended count grown.added) (entries_opened s opened.unsettled opened.running) grown.of_passes)

    added_events : (attended count : ℕ) (grown : IsGrown is_of attended count s s') → s'.events ≡ s.events ++ events_among grown.added
    added_events attended count grown =
        sym (events-entries s'.events s'.checkpoints s'.stop s'.met) ∙ ap events_among grown.parts ∙ events-append (entries_of s) grown.added ∙ ap (λ (l : List Event). l ++ events_among grown.added) (events-entries s.events s.checkpoints s.stop s.met)

    is_served : (attended count : ℕ) (stop : Option ℕ) → s'.stop ≡ stop → IsGrown is_of attended count s s' →
        IsServed is_of secrets (rests_of clock left_since image faults a b (first_disk s') (second_disk s')) (disks_of clock left_since image faults a b) (disks_of clock left_since image faults (first_disk s') (second_disk s')) attended count stop
    is_served attended count stop is grown = record {
      generation = s.generation;
      image = s.opened;
      base = s.base;
      opened = s.events;
      added = grown.added;
      events = s'.events;
      found = opened.newest_history;
      of_passes = added_of_passes attended count grown;
      checkpoints = s'.checkpoints;
      counted = added_checkpoints attended count grown;
      in_order = store'.in_order;
      met = s'.met;
      entries_are = ap (λ (o : Option ℕ). merged 0 s'.events s'.checkpoints ++ stop_entries o s'.met) (sym is) ∙ added_entries attended count grown;
      stop_is = added_stop attended count grown ∙ is;
      events_are = added_events attended count grown;
      lawful = lawful_now;
      headline = Headline-lawful (authority_under secrets) s.base s'.events lawful_now;
      whole = λ runs x y is_x is_y x' y' is_x' is_y'.
          under (λ key ring base. IsNewestOf (s.generation + length s'.checkpoints) (state_after base s'.events (last_after 0 s'.checkpoints)) (records_of s') x' y')
          (subst (λ (n : ℕ). IsNewestOf n (head_of s') (records_of s') x' y') generation_is
          (newest_of clock left_since image faults s' store' (goes.current (opened.current x y is_x is_y) (is ∙ runs)) x' y' is_x' is_y'));
      closed = λ runs x y is_x is_y gate.
          let ready = goes.ready (opened.ready x y is_x is_y gate) (is ∙ runs) in (
            pinned_at clock left_since image faults s' (first_disk s') (second_disk s') refl refl ready,
            λ x' y' is_x' is_y'.
                under (λ key ring base. IsNewestClosed (s.generation + length s'.checkpoints) (image_since s.opened (state_after base s'.events (last_after 0 s'.checkpoints)) s'.checkpoints) (records_of s') x' y')
                (subst (λ (found : List ℕ). IsNewestClosed (s.generation + length s'.checkpoints) (image_since found (head_of s') s'.checkpoints) (records_of s') x' y') goes.opened_stays
                (subst (λ (n : ℕ). IsNewestClosed n (image_of s') (records_of s') x' y') generation_is (closed_of clock left_since image faults s' store' ready x' y' is_x' is_y'))),
          );
      place = λ runs x y is_x is_y second counts x' y' is_x' is_y'.
          let now = counts_now clock left_since image faults s store (opened.current x y is_x is_y) x y (opened.first_read.same ∙ is_x) (opened.second_read.same ∙ is_y) in
          counts_now clock left_since image faults s' store' (goes.current (opened.current x y is_x is_y) (is ∙ runs)) x' y' is_x' is_y'
          ∙ ap Some (place_moved goes.checkpoints_go_on.0 s'.checkpoints s.second_active second s'.second_active added_to (same_place s.second_active second (sym now ∙ counts)) goes.place_is);
      none_failed = λ runs. none_failed_since clock left_since image faults secrets a b s s' opened (goes.none_failed (is ∙ runs));
      risen = λ pass stops. risen_since s s' opened (goes.failed pass (is ∙ stops));
      follows = λ pass event stops same. under (λ key ring base. IsLawful (authority_with key ring) base (s'.events ++ event ∷ [])) (goes.follows pass event (is ∙ stops) same lawful_then);
      survives = λ pass stops x y is_x is_y gate x' y' is_x' is_y'.
          under (λ key ring base. SurvivesStop base s'.events s'.met x' y')
          (goes.halts (opened.ready x y is_x is_y gate) pass (is ∙ stops) x' y' (may_stay (first_disk s') x' is_x') (may_stay (second_disk s') y' is_y')).0;
      newest_at = λ pass stops x y is_x is_y gate second counts x' y' is_x' is_y'.
          let now = counts_now clock left_since image faults s store (opened.current x y is_x is_y) x y (opened.first_read.same ∙ is_x) (opened.second_read.same ∙ is_y) in
          let there = place_moved goes.checkpoints_go_on.0 s'.checkpoints s.second_active second s'.second_active added_to (same_place s.second_active second (sym now ∙ counts)) goes.place_is in
          subst (λ (n : ℕ). IsNewestStop n (place_after (length s'.checkpoints) second) s'.met x' y') generation_is
          (subst (λ (w : Bool). IsNewestStop s'.generation w s'.met x' y') there
          (goes.halts (opened.ready x y is_x is_y gate) pass (is ∙ stops) x' y' (may_stay (first_disk s') x' is_x') (may_stay (second_disk s') y' is_y')).1);
      mended = λ pass stops added x y is_x is_y second counts x' y' is_x' is_y'.
          let now = counts_now clock left_since image faults s store (opened.current x y is_x is_y) x y (opened.first_read.same ∙ is_x) (opened.second_read.same ∙ is_y) in
          let there = place_moved goes.checkpoints_go_on.0 s'.checkpoints s.second_active second s'.second_active added_to (same_place s.second_active second (sym now ∙ counts)) goes.place_is in
          under (λ key ring base. SurvivesStopAt base s'.events (s.generation + length s'.checkpoints) (place_after (length s'.checkpoints) second) s'.met x' y')
          (subst (λ (n : ℕ). SurvivesStopAt s'.base s'.events n (place_after (length s'.checkpoints) second) s'.met x' y') generation_is
          (subst (λ (w : Bool). SurvivesStopAt s'.base s'.events s'.generation w s'.met x' y') there
          (goes.halts_mended (opened_at_rest clock left_since image faults secrets a b s opened x y is_x is_y) pass (is ∙ stops) (λ nothing. added nothing.events_stay (nothing.checkpoints_stay ∙ opened.unsettled))
          x' y' (may_stay (first_disk s') x' is_x') (may_stay (second_disk s') y' is_y'))));
      unclosed = λ pass stops none x y is_x is_y second counts x' y' is_x' is_y'.
          let now = counts_now clock left_since image faults s store (opened.current x y is_x is_y) x y (opened.first_read.same ∙ is_x) (opened.second_read.same ∙ is_y) in
          let there = place_moved goes.checkpoints_go_on.0 s'.checkpoints s.second_active second s'.second_active added_to (same_place s.second_active second (sym now ∙ counts)) goes.place_is in
          under (λ key ring base. SurvivesCheckpoint base s'.events (s.generation + length s'.checkpoints) (place_after (length s'.checkpoints) second) x' y')
          (subst (λ (n : ℕ). SurvivesCheckpoint s'.base s'.events n (place_after (length s'.checkpoints) second) x' y') generation_is
          (subst (λ (w : Bool). SurvivesCheckpoint s'.base s'.events s'.generation w x' y') there
          (goes.halts_checkpoint (opened_at_rest clock left_since image faults secrets a b s opened x y is_x is_y) pass (is ∙ stops) none
          x' y' (may_stay (first_disk s') x' is_x') (may_stay (second_disk s') y' is_y'))));
      begins = λ pass event stops same x y is_x is_y second counts x' y' is_x' is_y'.
          let now = counts_now clock left_since image faults s store (opened.current x y is_x is_y) x y (opened.first_read.same ∙ is_x) (opened.second_read.same ∙ is_y) in
          let there = place_moved goes.checkpoints_go_on.0 s'.checkpoints s.second_active second s'.second_active added_to (same_place s.second_active second (sym now ∙ counts)) goes.place_is in
          let place = place_after (length s'.checkpoints) second in
          let records = payloads_of (records_of s') in
          under (λ key ring base. NewestBegins (s.generation + length s'.checkpoints) place (area_bytes (s.generation + length s'.checkpoints) (image_since s.opened (state_after base s'.events (last_after 0 s'.checkpoints)) s'.checkpoints) records) x' y')
          (subst (λ (found : List ℕ). NewestBegins (s.generation + length s'.checkpoints) place (area_bytes (s.generation + length s'.checkpoints) (image_since found (head_of s') s'.checkpoints) records) x' y') goes.opened_stays
          (subst (λ (n : ℕ). NewestBegins n place (area_bytes n (image_of s') records) x' y') generation_is
          (subst (λ (w : Bool). NewestBegins s'.generation w (body_of s') x' y') there
          (goes.halts_event (opened_at_rest clock left_since image faults secrets a b s opened x y is_x is_y) pass event (is ∙ stops) same
          x' y' (may_stay (first_disk s') x' is_x') (may_stay (second_disk s') y' is_y')))));
      other_stays = λ none x y is_x is_y second counts.
          let now = counts_now clock left_since image faults s store (opened.current x y is_x is_y) x y (opened.first_read.same ∙ is_x) (opened.second_read.same ∙ is_y) in
          subst (OtherAt stop) (same_place s.second_active second (sym now ∙ counts)) (other_by stop is none (goes.other_stays (added_to ∙ none)));
    }

    -- ---- its last line

    module _ (before after : Streams) (broken broken' : Broken) (net net' : Net) (count : ℕ) where
      abbrev Here : ServePorts
      Here = record { ports = record { streams = before; broken = broken; disks = disks_of clock left_since image faults a b }; net = net }

      abbrev There : ServePorts
      There = record { ports = record { streams = after; broken = broken'; disks = disks_of clock left_since image faults (first_disk s') (second_disk s') }; net = net' }

      abbrev Around : Rests
      Around = rests_of clock left_since image faults a b (first_disk s') (second_disk s')

      -- a line is told, or the output fails
      told_as : (status : ℕ) (line : List ℕ) (result : ℕ) → ServeWrites is_of secrets count Around Here There status line → Wrote status line before.held before.write_faults result after.held after.write_faults broken'.output → EndsServing is_of secrets count Around Here There result
      told_as status line result writes (inl told) = subst (EndsServing is_of secrets count Around Here There) (sym told.0) (serving.told status line writes told.1 told.2)
      told_as status line result writes (inr failed) = subst (EndsServing is_of secrets count Around Here There) (sym failed.0) (serving.cut_short status line writes failed.1 failed.2)

      told_running : (end : ServeEnd) (result : ℕ) → s'.stop ≡ None → IsGrown is_of (number_of end) count s s' → AreAttended count net net' end → TellsServed end before.held before.write_faults result after.held after.write_faults broken'.output → EndsServing is_of secrets count Around Here There result
      told_running (serve_ends.Done n) result runs grown attended (inl told) =
          told_as 0 (codes "served " ++ decimal n) result (serving.served (serve_ends.Done n) 0 (codes "served " ++ decimal n) (is_served n count None runs grown) attended (all_served n)) told
      told_running (serve_ends.Done n) result runs grown attended (inr untold) =
          subst (EndsServing is_of secrets count Around Here There) (sym untold.0) (serving.out_of_memory (serve_ends.Done n) (λ e. e) (is_served n count None runs grown) attended untold.1 untold.2)
      told_running (serve_ends.NetFault n) result runs grown attended told =
          told_as 8 (codes "netfault") result (serving.served (serve_ends.NetFault n) 8 (codes "netfault") (is_served n count None runs grown) attended (net_failed n)) told
      told_running (serve_ends.NoMemory n) result runs grown attended untold =
          subst (EndsServing is_of secrets count Around Here There) (sym untold.0) (serving.out_of_memory (serve_ends.NoMemory n) (λ e. e) (is_served n count None runs grown) attended untold.1 untold.2)

      told_end : (stop : Option ℕ) (end : ServeEnd) (result : ℕ) → s'.stop ≡ stop → IsGrown is_of (number_of end) count s s' → AreAttended count net net' end →
          ((pass : ℕ) → s'.stop ≡ Some pass → Wrote 5 (codes "stopped") before.held before.write_faults result after.held after.write_faults broken'.output) →
          (s'.stop ≡ None → TellsServed end before.held before.write_faults result after.held after.write_faults broken'.output) → EndsServing is_of secrets count Around Here There result
      told_end None end result is grown attended stops runs = told_running end result is grown attended (runs is)
      told_end (Some pass) end result is grown attended stops runs =
          told_as 5 (codes "stopped") result (serving.disk_failed end pass (is_served (number_of end) count (Some pass) is grown) attended) (stops pass is)

      pub EndsServing-served : (end : ServeEnd) (result : ℕ) (a' b' : D) → IsGrown is_of (number_of end) count s s' → AreAttended count net net' end →
          ((pass : ℕ) → s'.stop ≡ Some pass → Wrote 5 (codes "stopped") before.held before.write_faults result after.held after.write_faults broken'.output) →
          (s'.stop ≡ None → TellsServed end before.held before.write_faults result after.held after.write_faults broken'.output) → a' ≡ first_disk s' → b' ≡ second_disk s' →
          EndsServing is_of secrets count (rests_of clock left_since image faults a b a' b') Here (record { ports = record { streams = after; broken = broken'; disks = disks_of clock left_since image faults a' b' }; net = net' }) result
      EndsServing-served end result a' b' grown attended stops runs a_is b_is =
          subst (λ (x : D). EndsServing is_of secrets count (rests_of clock left_since image faults a b x b') Here (record { ports = record { streams = after; broken = broken'; disks = disks_of clock left_since image faults x b' }; net = net' }) result) (sym a_is)
          (subst (λ (y : D). EndsServing is_of secrets count (rests_of clock left_since image faults a b (first_disk s') y) Here (record { ports = record { streams = after; broken = broken'; disks = disks_of clock left_since image faults (first_disk s') y }; net = net' }) result) (sym b_is)
          (told_end s'.stop end result refl grown attended stops runs))

  -- ---- no store was opened

  module _ (before after : Streams) (broken broken' : Broken) (net net' : Net) (count : ℕ) (a' b' : D) (net_kept : IsNetKept net net') where
    abbrev First : ServePorts
    First = record { ports = record { streams = before; broken = broken; disks = disks_of clock left_since image faults a b }; net = net }

    abbrev Last : ServePorts
    Last = record { ports = record { streams = after; broken = broken'; disks = disks_of clock left_since image faults a' b' }; net = net' }

    abbrev Between : Rests
    Between = rests_of clock left_since image faults a b a' b'

    abbrev Ends : ℕ → Type 0
    Ends status = EndsServing is_of secrets count Between First Last status

    tells : (status : ℕ) (line : List ℕ) (result : ℕ) → ServeWrites is_of secrets count Between First Last status line → Wrote status line before.held before.write_faults result after.held after.write_faults broken'.output → Ends result
    tells status line result writes (inl told) = subst Ends (sym told.0) (serving.told status line writes told.1 told.2)
    tells status line result writes (inr failed) = subst Ends (sym failed.0) (serving.cut_short status line writes failed.1 failed.2)

    kept : (fault : OpenFault) → (fault ≡ opens.Disk → ⊥) → IsNotOpened clock left_since image faults a b (authority_with secrets.seal_key secrets.ring) fault a' b' → AreDisksKept (disks_of clock left_since image faults a b) (disks_of clock left_since image faults a' b')
    kept fault not_disk n = record {
      bytes = record { a_stays = n.first_same not_disk; b_stays = n.second_same not_disk };
      none_failed = record { a_stands = n.first_no_fault not_disk; b_stands = n.second_no_fault not_disk };
    }

    pub EndsServing-unopened : (fault : OpenFault) (result : ℕ) → IsNotOpened clock left_since image faults a b (authority_with secrets.seal_key secrets.ring) fault a' b' → TellsUnopened fault before.held before.write_faults result after.held after.write_faults broken'.output → Ends result
    EndsServing-unopened opens.NoStore result n told = tells 4 (codes "nostore") result (serving.no_store (λ x y is_x is_y. has_no_area x y (n.cause x y is_x is_y)) (kept opens.NoStore (λ e. absurd cc) n) net_kept) told
    EndsServing-unopened (opens.Damaged number damage) result n (inl told) =
        tells 3 (damaged_text number damage) result (serving.damaged number damage n.cause (kept (opens.Damaged number damage) (λ e. absurd cc) n) net_kept) told
    EndsServing-unopened (opens.Damaged number damage) result n (inr untold) = subst Ends (sym untold.0) (serving.unopened (kept (opens.Damaged number damage) (λ e. absurd cc) n) net_kept untold.1 untold.2)
    EndsServing-unopened opens.Disk result n told = tells 5 (codes "stopped") result (serving.not_opened n.cause (λ rest. record { a_stays = n.first_handled.stays rest.0; b_stays = n.second_handled.stays rest.1 }) net_kept) told
    EndsServing-unopened opens.NoMemory result n untold = subst Ends (sym untold.0) (serving.unopened (kept opens.NoMemory (λ e. absurd cc) n) net_kept untold.1 untold.2)
