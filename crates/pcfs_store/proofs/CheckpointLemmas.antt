-- What a checkpoint of a store says, at each of its ends.
use Rattle.std.proofs.Common.{◌≡◌, ◌⊎◌, ℕ, ◌+◌, ◌-◌, ◌^◌, ◌<◌, ◌≤◌, List, [], ◌∷◌, ◌++◌, length, Some, None, IfSome, Bool, true, false, refl, sym, ◌∙◌, ap, subst, inl, inr, arith, length-append}
use Rattle.std.specs.Prelude.{Option, is_some, not}
use Rattle.std.specs.Option.{option_map}
use Rattle.std.proofs.lemmas.Bool.{cases_lt}
use Rattle.std.proofs.lemmas.List.{take_all, drop_all}
use Rattle.pcfs_ports.specs.Faults.{HasRisen}
use Rattle.pcfs_ports.specs.Disk.{written, IsPinned, LeavesOnly}
use Rattle.journal_core.specs.Area.{area_limit, area_bytes, StandsForBody, IsGeneration, generation_of, Closed}
use Rattle.journal_core.specs.Rest.{Rests, IsOldOrShutOrNew}
use Rattle.journal_core.proofs.AreaLemmas.{closed_written}
use Rattle.journal_core.proofs.RestsLemmas.{some_same}
use Rattle.journal_records.specs.declared.event.Event.{Event}
use Rattle.access_history.specs.Base.{BaseView}
use Rattle.access_history.specs.Replay.{replay}
use Rattle.checkpoint_image.specs.ImageSpelling.{image_spelling}
use Rattle.pcfs_store.specs.declared.checkpoints.Checkpoint.{Checkpoint}
use Rattle.pcfs_store.specs.declared.reply.CheckpointReply.{CheckpointReply}
use Rattle.pcfs_store.specs.declared.reply.CheckpointReply.TheVariants.{Checkpointed, Full, Stopped, NoMemory}
use Rattle.pcfs_store.specs.Image.{IsImageOf}
use Rattle.pcfs_store.specs.StoredHistory.{payloads_of, state_after, area_since}
use Rattle.pcfs_store.specs.Newest.{one_of}
use Rattle.pcfs_store.specs.StoreView.{StoreView, first_disk, second_disk, last_after, settled_of, head_of, image_since, image_of, body_of, state_of_store, AreInOrder, IsStore}
use Rattle.pcfs_store.specs.Ready.{tie, IsBehind, IsReady, IsCurrent, IsAtRest, StopsNow, SurvivesStopAt, SurvivesCheckpoint, Keeps, ready, halted}
use Rattle.pcfs_store.specs.Checkpoints.{IsFullForCheckpoint, with_checkpoint, MakesCheckpoint, made, full, failed, stopped, without_memory, IsNewestCheckpoint, Checkpoints}
use Rattle.pcfs_store.specs.Moving.{Overwrites}
use Rattle.pcfs_store.proofs.SurvivalLemmas.{IsTellable, tellable_store, SurvivesThere, survives_there, stays_there, newest_active, generation_since, at_some, ready_there_now, rest_active, rest_other, rest_there_now}
use Rattle.pcfs_store.proofs.FormatLemmas.{none_shut}
use Rattle.pcfs_store.proofs.EntryLemmas.{area-length}

none_some : (o : Option ℕ) (pass : ℕ) → o ≡ None → o ≡ Some pass → ⊥
none_some o pass none some = cc

-- ---- full

pub full_checkpoint : {D : Type 0} (faults : D → ℕ) (old new : StoreView D) (pass : ℕ) (told : CheckpointReply) → old.stop ≡ None → IsFullForCheckpoint old → MakesCheckpoint faults old pass told new → (told ≡ Full) ⊎ (told ≡ NoMemory)
full_checkpoint faults old _ pass _ running is_full (made active goes fits stood) = absurd (fits is_full)
full_checkpoint faults old _ pass _ running is_full (full goes over) = inl refl
full_checkpoint faults old _ pass _ running is_full (failed other goes fits risen) = absurd (fits is_full)
full_checkpoint faults old _ pass _ running is_full (stopped earlier stop) = absurd (none_some old.stop earlier running stop)
full_checkpoint faults old _ pass _ running is_full (without_memory goes) = inr refl

-- ---- one of two, exchanged

exchanged : {A : Type 0} (second : Bool) (a b : A) → one_of a b (not second) ≡ one_of b a second
exchanged false a b = refl
exchanged true a b = refl

-- ---- one checkpoint more

last_push : (since : ℕ) (checkpoints : List Checkpoint) (mark : Checkpoint) → last_after since (checkpoints ++ mark ∷ []) ≡ mark.after
last_push since [] mark = refl
last_push since (checkpoint ∷ checkpoints) mark = last_push checkpoint.after checkpoints mark

order_push : (least most : ℕ) (checkpoints : List Checkpoint) (mark : Checkpoint) → AreInOrder least most checkpoints → mark.after ≡ most → AreInOrder least most (checkpoints ++ mark ∷ [])
order_push least most [] mark order is = (omega (arith, order, is), omega (arith, is))
order_push least most (checkpoint ∷ checkpoints) mark order is = (order.0, order_push checkpoint.after most checkpoints mark order.1 is)

-- the state after all events, and the area with an image of it
state_whole : (base : BaseView) (events : List Event) → state_after base events (length events) ≡ replay base events
state_whole base events = ap (replay base) (take_all (length events) events (omega arith))

area_whole : (generation : ℕ) (image : List ℕ) (events : List Event) → area_since generation image events (length events) ≡ area_bytes generation image []
area_whole generation image events = ap (λ (es : List Event). area_bytes generation image (payloads_of es)) (drop_all (length events) events (omega arith))

-- the image of the last checkpoint
image_push : (opened : List ℕ) (head : BaseView) (checkpoints : List Checkpoint) (mark : Checkpoint) → image_since opened head (checkpoints ++ mark ∷ []) ≡ image_spelling head
image_push opened head [] mark = refl
image_push opened head (checkpoint ∷ checkpoints) mark = refl

-- the next generation is one
next_generation : (generation : ℕ) → IsGeneration generation → (2 ^ 48 - 1 ≤ generation → ⊥) → IsGeneration (generation + 1)
next_generation generation generated few = by (cases_lt generation (2 ^ 48 - 1))
  where
    by : (generation < 2 ^ 48 - 1) ⊎ (2 ^ 48 - 1 ≤ generation) → IsGeneration (generation + 1)
    by (inl below) = record { low = omega arith; high = omega (arith, below) }
    by (inr not_below) = absurd (few not_below)

fits_next : (generation : ℕ) (image : List ℕ) → (area_limit < length image + 25 → ⊥) → length (area_bytes generation image []) < area_limit
fits_next generation image room = by (cases_lt area_limit (length image + 25))
  where
    by : (area_limit < length image + 25) ⊎ (length image + 25 ≤ area_limit) → length (area_bytes generation image []) < area_limit
    by (inl over) = absurd (room over)
    by (inr under) = let long = area-length generation image [] in omega (arith, long, under)

module _ {D : Type 0} (clock : D → ℕ) (left_since : D → ℕ → List ℕ → Type 0) (image : D → Option (List ℕ)) (faults : D → ℕ) where
  -- ---- nothing changed

  pub nothing_changed : (old : StoreView D) (pass : ℕ) (result : CheckpointReply) → IsStore old → MakesCheckpoint faults old pass result old → (result ≡ Checkpointed → ⊥) →
      Checkpoints clock left_since image faults old pass result old
  nothing_changed old pass result store makes unmade = record {
    answer = makes;
    stays_ready = λ is_ready _. is_ready;
    stays_kept = λ keeps. keeps;
    stays_current = λ current _. current;
    any_moment = λ is_ready x y left_x left_y. (ready_there_now clock left_since image old store is_ready x y left_x left_y).0;
    halts = λ is_ready _ x y left_x left_y. let there = ready_there_now clock left_since image old store is_ready x y left_x left_y in (there.0, inl there.1);
    halts_at_rest = λ rest _. rest_there_now clock left_since image old store rest;
    makes_ready = λ current is. absurd (unmade is);
    newest = λ current is. absurd (unmade is);
    first_told = refl;
    second_told = refl;
    first_never_falls = omega arith;
    second_never_falls = omega arith;
  }

  -- ---- the other disk of two

  told_other : (second : Bool) (active other new : D) → is_some (image new) ≡ is_some (image other) → is_some (image (one_of active new second)) ≡ is_some (image (one_of active other second))
  told_other false active other new told = refl
  told_other true active other new told = told

  falls_other : (second : Bool) (active other new : D) → faults other ≤ faults new → faults (one_of active other second) ≤ faults (one_of active new second)
  falls_other false active other new never = omega arith
  falls_other true active other new never = never

  later_other : (second : Bool) (active other new : D) → clock other ≤ clock new → clock (one_of active other second) ≤ clock (one_of active new second)
  later_other false active other new later = omega arith
  later_other true active other new later = later

  told_one : (second : Bool) (active other new : D) → is_some (image new) ≡ is_some (image other) → is_some (image (one_of new active second)) ≡ is_some (image (one_of other active second))
  told_one false active other new told = told
  told_one true active other new told = refl

  falls_one : (second : Bool) (active other new : D) → faults other ≤ faults new → faults (one_of other active second) ≤ faults (one_of new active second)
  falls_one false active other new never = never
  falls_one true active other new never = omega arith

  later_one : (second : Bool) (active other new : D) → clock other ≤ clock new → clock (one_of other active second) ≤ clock (one_of new active second)
  later_one false active other new later = later
  later_one true active other new later = omega arith

  -- what a crash leaves of the two, in the order in which they were given
  left_other : (second : Bool) (active other new : D) (P : List ℕ → List ℕ → Type 0) →
      ((a o : List ℕ) → left_since active (clock active) a → left_since new (clock other) o → P (one_of a o second) (one_of o a second)) →
      (x y : List ℕ) → left_since (one_of active new second) (clock (one_of active other second)) x → left_since (one_of new active second) (clock (one_of other active second)) y → P x y
  left_other false active other new P each x y left_x left_y = each x y left_x left_y
  left_other true active other new P each x y left_x left_y = each y x left_y left_x

  told_pairs_other : (second : Bool) (active new : D) (P : List ℕ → List ℕ → Type 0) → ((a o : List ℕ) → image active ≡ Some a → image new ≡ Some o → P (one_of a o second) (one_of o a second)) →
      (x y : List ℕ) → image (one_of active new second) ≡ Some x → image (one_of new active second) ≡ Some y → P x y
  told_pairs_other false active new P each x y is_x is_y = each x y is_x is_y
  told_pairs_other true active new P each x y is_x is_y = each y x is_y is_x

  -- ---- the image of the state was being written over the other disk

  module _ (old : StoreView D) (store : IsStore old) (is_image : IsImageOf (state_of_store old) (image_spelling (state_of_store old))) (few : 2 ^ 48 - 1 ≤ old.generation → ⊥) (disk : D)
      (writes : Overwrites clock left_since image faults old.other disk (old.generation + 1) (image_spelling (state_of_store old))) where
    abbrev written_image : List ℕ
    written_image = image_spelling (state_of_store old)

    abbrev area : List ℕ
    area = area_bytes (old.generation + 1) written_image []

    abbrev all : ℕ
    all = length old.events

    room : IsFullForCheckpoint old → ⊥
    room (inl over) = writes.fits over
    room (inr last) = few last

    fits : length area < area_limit
    fits = fits_next (old.generation + 1) written_image writes.fits

    next_whole : area_since (old.generation + 1) written_image old.events all ≡ area
    next_whole = area_whole (old.generation + 1) written_image old.events

    next_tellable : IsTellable (old.generation + 1) written_image old.base old.events all
    next_tellable = record {
      generated = next_generation old.generation store.generated few;
      within = omega arith;
      is_image = subst (λ (b : BaseView). IsImageOf b written_image) (sym (state_whole old.base old.events)) is_image;
      spelled = store.spelled;
      fits = subst (λ (bytes : List ℕ). length bytes < area_limit) (sym next_whole) fits;
    }

    -- an area of this generation is older than the next one
    older : (bytes : List ℕ) → StandsForBody (body_of old) bytes → IsBehind (not old.second_active) (old.generation + 1) (generation_of bytes)
    older bytes stands =
        subst (IsBehind (not old.second_active) (old.generation + 1)) (sym (generation_since old.generation (image_of old) old.base old.events (settled_of old) bytes (tellable_store old store) stands)) (by old.second_active)
      where
        by : (second : Bool) → old.generation + tie (not second) ≤ old.generation + 1
        by false = omega arith
        by true = omega arith

    -- the history survives, in the area where it was or in the next one
    abbrev Left : List ℕ → List ℕ → Type 0
    Left = SurvivesStopAt old.base old.events old.generation old.second_active None

    abbrev Next : List ℕ → List ℕ → Type 0
    Next = SurvivesThere old.base old.events (old.generation + 1) (not old.second_active)

    abbrev LeftAtRest : List ℕ → List ℕ → Type 0
    LeftAtRest = SurvivesCheckpoint old.base old.events old.generation old.second_active

    -- a pair of which the other has the area of the next generation
    next_pair : (a o : List ℕ) → StandsForBody (body_of old) a → Closed area o → Next (one_of a o old.second_active) (one_of o a old.second_active)
    next_pair a o stands next =
        subst (λ (x : List ℕ). Next x (one_of o a old.second_active)) (exchanged old.second_active o a)
        (subst (λ (y : List ℕ). Next (one_of o a (not old.second_active)) y) (exchanged old.second_active a o)
        (survives_there (not old.second_active) o a (old.generation + 1) written_image old.base old.events all next_tellable
        (subst (λ (body : List ℕ). Closed body o) (sym next_whole) next) (older a stands)))

    -- a pair of which the other has the area of the next generation, or an area that is older, or none
    survives_pair : (a o : List ℕ) → Closed (body_of old) a → IsBehind old.second_active old.generation (generation_of o) ⊎ Closed area o →
        Left (one_of a o old.second_active) (one_of o a old.second_active)
    survives_pair a o closed (inl behind) =
        let there = survives_there old.second_active a o old.generation (image_of old) old.base old.events (settled_of old) (tellable_store old store) closed behind in
        (there.0, inl there.1)
    survives_pair a o closed (inr next) = let there = next_pair a o closed.stands next in (there.0, inr there.1)

    -- the same of an area that may lack its closed gate
    rest_pair : (a o : List ℕ) → StandsForBody (body_of old) a → IsBehind old.second_active old.generation (generation_of o) ⊎ Closed area o →
        LeftAtRest (one_of a o old.second_active) (one_of o a old.second_active)
    rest_pair a o stands (inl behind) = stays_there old.second_active a o old.generation (image_of old) old.base old.events (settled_of old) (tellable_store old store) stands behind
    rest_pair a o stands (inr next) = let there = next_pair a o stands next in (there.0.survives, inr there.1)

    goes_on : (is_ready : IsReady clock left_since image old) → LeavesOnly clock left_since old.other disk (IsOldOrShutOrNew is_ready.other_bytes area)
    goes_on is_ready = writes.any_moment is_ready.other_bytes is_ready.other_told is_ready.other_pinned

    -- what the other disk has then: an area that is older, or none, or the new one
    other_by : (before : List ℕ) → IsBehind old.second_active old.generation (generation_of before) → (o : List ℕ) → IsOldOrShutOrNew before area o → IsBehind old.second_active old.generation (generation_of o) ⊎ Closed area o
    other_by before behind o (inl same) = inl (subst (λ (bytes : List ℕ). IsBehind old.second_active old.generation (generation_of bytes)) (sym same) behind)
    other_by before behind o (inr (inl shut)) = inl (subst (IsBehind old.second_active old.generation) (sym (none_shut o shut)) tt)
    other_by before behind o (inr (inr next)) = inr next

    -- a crash since then leaves the history
    leaves : IsReady clock left_since image old → (x y : List ℕ) → left_since (one_of old.active disk old.second_active) (clock (one_of old.active old.other old.second_active)) x →
        left_since (one_of disk old.active old.second_active) (clock (one_of old.other old.active old.second_active)) y → Left x y
    leaves is_ready =
        left_other old.second_active old.active old.other disk Left (λ a o left_a left_o.
        survives_pair a o (subst (Closed (body_of old)) (some_same is_ready.rests.bytes a (sym is_ready.rests.told ∙ is_ready.rests.pinned a left_a)) is_ready.rests.closed)
        (other_by is_ready.other_bytes is_ready.behind o ((goes_on is_ready).each o left_o)))

    -- a crash since then leaves it too if the area may lack its closed gate
    goes_on_at_rest : (rest : IsAtRest clock left_since image old) → LeavesOnly clock left_since old.other disk (IsOldOrShutOrNew rest.other_bytes area)
    goes_on_at_rest rest = writes.any_moment rest.other_bytes rest.other_told rest.other_pinned

    leaves_at_rest : IsAtRest clock left_since image old → (x y : List ℕ) → left_since (one_of old.active disk old.second_active) (clock (one_of old.active old.other old.second_active)) x →
        left_since (one_of disk old.active old.second_active) (clock (one_of old.other old.active old.second_active)) y → LeftAtRest x y
    leaves_at_rest rest =
        left_other old.second_active old.active old.other disk LeftAtRest (λ a o left_a left_o.
        rest_pair a o (rest_active clock left_since image old rest a left_a) (other_by rest.other_bytes (rest_other clock left_since image old rest) o ((goes_on_at_rest rest).each o left_o)))

    -- ---- it was written

    module _ (pass : ℕ) (running : old.stop ≡ None) (now : image disk ≡ option_map (written 0 (area ++ 0 ∷ [])) (image old.other)) (pinned : IsPinned clock left_since image disk) where
      abbrev new : StoreView D
      new = with_checkpoint old pass disk

      last_is : settled_of new ≡ all
      last_is = last_push 0 old.checkpoints (record { after = all; pass = pass })

      head_is : head_of new ≡ state_of_store old
      head_is = ap (state_after old.base old.events) last_is ∙ state_whole old.base old.events

      image_is : image_of new ≡ written_image
      image_is = image_push old.opened (head_of new) old.checkpoints (record { after = all; pass = pass }) ∙ ap image_spelling head_is

      body_is : body_of new ≡ area
      body_is =
          ap (λ (i : List ℕ). area_since (old.generation + 1) i old.events (settled_of new)) image_is
          ∙ ap (area_since (old.generation + 1) written_image old.events) last_is
          ∙ next_whole

      pub next_store : IsStore new
      next_store = record {
        generated = next_tellable.generated;
        counted = let more = length-append old.checkpoints (record { after = all; pass = pass } ∷ []) in omega (arith, more, store.counted);
        in_order = order_push 0 all old.checkpoints (record { after = all; pass = pass }) store.in_order refl;
        is_image = subst (IsImageOf (head_of new)) (sym image_is) (subst (λ (b : BaseView). IsImageOf b written_image) (sym head_is) is_image);
        spelled = store.spelled;
        used_is = let long = area-length (old.generation + 1) written_image [] in omega (arith, long, ap length body_is);
        fits = let long = area-length (old.generation + 1) written_image [] in omega (arith, long, fits);
      }

      closed_next : (before : List ℕ) → Closed area (written 0 (area ++ 0 ∷ []) before)
      closed_next before = closed_written [] area before refl

      ready_by : (a o : List ℕ) → image old.active ≡ Some a → StandsForBody (body_of old) a → IsPinned clock left_since image old.active → image old.other ≡ Some o → IsReady clock left_since image new
      ready_by a o told stands still other_told = record {
        running = running;
        rests = subst (Rests clock left_since image disk) (sym body_is) (record {
          bytes = written 0 (area ++ 0 ∷ []) o;
          told = now ∙ ap (option_map (written 0 (area ++ 0 ∷ []))) other_told;
          closed = closed_next o;
          pinned = pinned;
        });
        other_bytes = a;
        other_told = told;
        other_pinned = still;
        behind = older a stands;
      }

      next_ready : IsReady clock left_since image old → IsReady clock left_since image new
      next_ready is_ready = ready_by is_ready.rests.bytes is_ready.other_bytes is_ready.rests.told is_ready.rests.closed.stands is_ready.rests.pinned is_ready.other_told

      closed_now : (before : Option (List ℕ)) → image old.other ≡ before → (bytes : List ℕ) → image disk ≡ Some bytes → Closed area bytes
      closed_now (Some before) told bytes is = subst (Closed area) (some_same (written 0 (area ++ 0 ∷ []) before) bytes (sym (now ∙ ap (option_map (written 0 (area ++ 0 ∷ []))) told) ∙ is)) (closed_next before)
      closed_now None told bytes is = absurd (none (image disk) bytes (now ∙ ap (option_map (written 0 (area ++ 0 ∷ []))) told) is)
        where
          none : (o : Option (List ℕ)) (b : List ℕ) → o ≡ None → o ≡ Some b → ⊥
          none o b is_none is_some = cc

      stands_now : (told : Option (List ℕ)) → image disk ≡ told → IfSome told (StandsForBody (body_of new))
      stands_now (Some bytes) is = subst (λ (body : List ℕ). StandsForBody body bytes) (sym body_is) (closed_now (image old.other) refl bytes is).stands
      stands_now None is = tt

      behind_now : (told : Option (List ℕ)) → IfSome told (StandsForBody (body_of old)) → IfSome told (λ bytes. IsBehind (not old.second_active) (old.generation + 1) (generation_of bytes))
      behind_now (Some bytes) stands = older bytes stands
      behind_now None stands = tt

      next_current : IsCurrent clock left_since image old → IsCurrent clock left_since image new
      next_current current = record {
        running = running;
        active = stands_now (image disk) refl;
        other = behind_now (image old.active) current.active;
      }

      next_newest : IsCurrent clock left_since image old → (x y : List ℕ) → image (first_disk new) ≡ Some x → image (second_disk new) ≡ Some y → IsNewestCheckpoint old x y
      next_newest current =
          told_pairs_other (not old.second_active) disk old.active (IsNewestCheckpoint old) (λ o a is_o is_a.
          let closed = closed_now (image old.other) refl o is_o in
          record {
            bytes = o;
            counts = newest_active (not old.second_active) o a (old.generation + 1)
                (generation_since (old.generation + 1) written_image old.base old.events all o next_tellable (subst (λ (body : List ℕ). StandsForBody body o) (sym next_whole) closed.stands))
                (older a (at_some (image old.active) (StandsForBody (body_of old)) a is_a current.active));
            closed = closed;
          })

      -- the disks in the order in which they were given: the first and the second are the same disks as before
      first_is : one_of disk old.active (not old.second_active) ≡ one_of old.active disk old.second_active
      first_is = exchanged old.second_active disk old.active

      second_is : one_of old.active disk (not old.second_active) ≡ one_of disk old.active old.second_active
      second_is = exchanged old.second_active old.active disk

      pub was_made : faults disk ≡ faults old.other → Checkpoints clock left_since image faults old pass Checkpointed new
      was_made stood = record {
        answer = made disk running room stood;
        stays_ready = λ is_ready _. next_ready is_ready;
        stays_kept = λ keeps. stays keeps;
        stays_current = λ current _. next_current current;
        any_moment = λ is_ready x y left_x left_y.
            (leaves is_ready x y
            (subst (λ (d : D). left_since d (clock (first_disk old)) x) first_is left_x)
            (subst (λ (d : D). left_since d (clock (second_disk old)) y) second_is left_y)).0;
        halts = λ is_ready is. absurd (unlike is);
        halts_at_rest = λ rest is. absurd (unlike is);
        makes_ready = λ current _ a o is_a is_o still. ready_by a o is_a (at_some (image old.active) (StandsForBody (body_of old)) a is_a current.active) still is_o;
        newest = λ current _ x y is_x is_y. next_newest current x y is_x is_y;
        first_told = ap (λ (d : D). is_some (image d)) first_is ∙ told_other old.second_active old.active old.other disk writes.told;
        second_told = ap (λ (d : D). is_some (image d)) second_is ∙ told_one old.second_active old.active old.other disk writes.told;
        first_never_falls = subst (λ (d : D). faults (first_disk old) ≤ faults d) (sym first_is) (falls_other old.second_active old.active old.other disk writes.never_falls);
        second_never_falls = subst (λ (d : D). faults (second_disk old) ≤ faults d) (sym second_is) (falls_one old.second_active old.active old.other disk writes.never_falls);
      }
        where
          unlike : Checkpointed ≡ Stopped → ⊥
          unlike e = cc

          stays : Keeps clock left_since image old → Keeps clock left_since image new
          stays (ready is_ready) = ready (next_ready is_ready)
          stays (halted earlier stop leaves) = absurd (none_some old.stop earlier running stop)

    -- ---- the disk failed

    pub was_stopped : ((d : D) (t u : ℕ) (bytes : List ℕ) → t ≤ u → left_since d u bytes → left_since d t bytes) → HasRisen (faults old.other) (faults disk) → (pass : ℕ) → old.stop ≡ None →
        Checkpoints clock left_since image faults old pass Stopped (record old { other = disk; stop = Some pass; met = None })
    was_stopped earlier risen pass running = record {
      answer = failed disk running room risen;
      stays_ready = λ is_ready goes. absurd (goes refl);
      stays_kept = λ keeps. stays keeps;
      stays_current = λ current goes. absurd (goes refl);
      any_moment = λ is_ready x y left_x left_y. (leaves is_ready x y left_x left_y).0;
      halts = λ is_ready _. leaves_now is_ready;
      halts_at_rest = λ rest _. rest_now rest;
      makes_ready = λ current is. absurd (unlike is);
      newest = λ current is. absurd (unlike is);
      first_told = told_other old.second_active old.active old.other disk writes.told;
      second_told = told_one old.second_active old.active old.other disk writes.told;
      first_never_falls = falls_other old.second_active old.active old.other disk writes.never_falls;
      second_never_falls = falls_one old.second_active old.active old.other disk writes.never_falls;
    }
      where
        unlike : Stopped ≡ Checkpointed → ⊥
        unlike e = cc

        -- what a crash left since then, a crash now leaves
        now_by : (P : List ℕ → List ℕ → Type 0) → clock old.other ≤ clock disk →
            ((x y : List ℕ) → left_since (one_of old.active disk old.second_active) (clock (one_of old.active old.other old.second_active)) x →
            left_since (one_of disk old.active old.second_active) (clock (one_of old.other old.active old.second_active)) y → P x y) →
            StopsNow clock left_since image (record old { other = disk; stop = Some pass; met = None }) P
        now_by P later each x y left_x left_y =
            each x y
            (earlier (one_of old.active disk old.second_active) (clock (one_of old.active old.other old.second_active)) (clock (one_of old.active disk old.second_active)) x (later_other old.second_active old.active old.other disk later) left_x)
            (earlier (one_of disk old.active old.second_active) (clock (one_of old.other old.active old.second_active)) (clock (one_of disk old.active old.second_active)) y (later_one old.second_active old.active old.other disk later) left_y)

        leaves_now : IsReady clock left_since image old → StopsNow clock left_since image (record old { other = disk; stop = Some pass; met = None }) Left
        leaves_now is_ready = now_by Left (goes_on is_ready).later (leaves is_ready)

        rest_now : IsAtRest clock left_since image old → StopsNow clock left_since image (record old { other = disk; stop = Some pass; met = None }) LeftAtRest
        rest_now rest = now_by LeftAtRest (goes_on_at_rest rest).later (leaves_at_rest rest)

        stays : Keeps clock left_since image old → Keeps clock left_since image (record old { other = disk; stop = Some pass; met = None })
        stays (ready is_ready) = halted pass refl (leaves_now is_ready)
        stays (halted first stop leaves) = absurd (none_some old.stop first running stop)
