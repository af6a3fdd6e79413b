-- A store goes on from its opening by steps and checkpoints.
use Rattle.std.proofs.Common.{◌≡◌, ◌∙◌, ◌⊎◌, inl, inr, ⊎_elim, ℕ, suc, ◌≤◌, ◌<◌, ◌+◌, ◌-◌, ◌^◌, length, length-append, Bool, true, false, List, [], ◌∷◌, ◌++◌, Option, Some, None, refl, sym, ap, subst, arith, append_assoc, append-nil}
use Rattle.std.specs.Prelude.{ℤ, ◌≢◌, not, is_some}
use Rattle.std.proofs.lemmas.Bool.{cases_lt}
use mathlib.Core.List.{IsPrefix}
use Rattle.pcfs_ports.specs.Disk.{IsPinned}
use Rattle.pcfs_ports.specs.Faults.{HasRisen}
use Rattle.bl_syntax.specs.TimeOrder.{IsMoment}
use Rattle.access_history.specs.Answer.{Answers}
use Rattle.access_history.specs.Authority.{Authority}
use Rattle.access_history.specs.Base.{BaseView}
use Rattle.access_history.specs.Lawful.{IsLawful, one_more}
use Rattle.access_history.specs.Replay.{replay}
use Rattle.access_history.specs.WellFormed.{IsWellFormed}
use Rattle.access_history.proofs.LawfulLemmas.{IsLawfulBase-lawful}
use Rattle.access_history.proofs.MayFollowLemmas.{MayFollow-answered}
use Rattle.access_history.proofs.ReplayLemmas.{count-replay}
use Rattle.journal_records.specs.declared.event.Event.{Event}
use Rattle.access_history.specs.declared.request.StepRequest.{StepRequest}
use Rattle.access_history.specs.declared.reply.StepReply.{StepReply}
use Rattle.pcfs_store.specs.declared.reply.StoreReply.{StoreReply}
use Rattle.pcfs_store.specs.declared.reply.StoreReply.TheVariants as stores
use Rattle.pcfs_store.specs.Newest.{one_of, NewestBegins}
use Rattle.pcfs_store.specs.StoreView.{StoreView, HasNothingAdded, authority_of_store, first_disk, second_disk, body_of}
use Rattle.pcfs_store.specs.Ready.{IsReady, IsCurrent, IsAtRest, RestsSince, StopsNow, SurvivesStopAt}
use Rattle.pcfs_store.specs.declared.checkpoints.Checkpoint.{Checkpoint}
use Rattle.pcfs_store.specs.declared.reply.CheckpointReply.{CheckpointReply}
use Rattle.pcfs_store.specs.declared.reply.CheckpointReply.TheVariants as checkpoint_replies
use Rattle.pcfs_store.specs.Checkpoints.{place_after, MakesCheckpoint, Checkpoints}
use Rattle.pcfs_store.specs.Checkpoints as makes
use Rattle.pcfs_store.specs.Steps.{Steps}
use Rattle.pcfs_store.specs.Steps as steps
use Rattle.pcfs_store.proofs.CountLemmas.{NoneFailed-same, NoneFailed-on, NoneFailed-step, NoneFailed-checkpoint}
use Rattle.pcfs_store.proofs.SurvivalLemmas.{one_longer, rests_ready, rests_same}
use Rattle.shared_store.specs.GoesOn.{HasGoneOn}

pub none_some : {P : Type 0} (stop : Option ℕ) (pass : ℕ) → stop ≡ None → stop ≡ Some pass → P
none_some stop pass none some = let both : ◌≡◌ {A = Option ℕ} None (Some pass) = sym none ∙ some in absurd cc

-- a count that rose and then did not fall has risen
risen_since : (before mid after : ℕ) → before ≤ mid → HasRisen mid after → HasRisen before after
risen_since before mid after later risen below = let r = risen below in omega (arith, r, later)

-- the count of the disk in its place
risen_at : {D : Type 0} (faults : D → ℕ) (old active other : D) (second_active : Bool) → HasRisen (faults old) (faults active) →
    HasRisen (faults (one_of old other second_active)) (faults (one_of active other second_active)) ⊎ HasRisen (faults (one_of other old second_active)) (faults (one_of other active second_active))
risen_at faults old active other false risen = inl risen
risen_at faults old active other true risen = inr risen

events_stay : (opening events : List Event) → IsPrefix opening events → (event : Event) → IsPrefix opening (events ++ event ∷ [])
events_stay opening events begins event = (begins.0 ++ event ∷ [], sym (append_assoc opening begins.0 (event ∷ [])) ∙ ap_push begins.1)
  where
    ap_push : opening ++ begins.0 ≡ events → (opening ++ begins.0) ++ event ∷ [] ≡ events ++ event ∷ []
    ap_push is = λ i. is i ++ event ∷ []

-- an event that has a number is the next of a lawful history
numbered : (base : BaseView) (events : List Event) → ((replay base events).count < 2 ^ 48 - 1) ⊎ (2 ^ 48 - 1 ≤ (replay base events).count) → (2 ^ 48 - 1 ≤ (replay base events).count → ⊥) → base.count + (length events + 1) ≤ 2 ^ 48 - 1
numbered base events (inl few) below = omega (arith, few, count-replay base events)
numbered base events (inr many) below = absurd (below many)

lawful_more : (authority : Authority) (base : BaseView) (events : List Event) (pass : ℕ) (moment : ℤ) (request : StepRequest) (reply : StepReply) (event : Event) → IsMoment moment → IsWellFormed request → (2 ^ 48 - 1 ≤ (replay base events).count → ⊥) →
    Answers authority (replay base events) pass moment request reply (Some event) → IsLawful authority base events → IsLawful authority base (events ++ event ∷ [])
lawful_more authority base events pass moment request reply event at formed below answers lawful =
    let few = numbered base events (cases_lt (replay base events).count (2 ^ 48 - 1)) below in
    record {
      lawful_base = lawful.lawful_base;
      counted = omega (arith, few, length-append events (event ∷ []));
      each = one_more events event lawful.each (MayFollow-answered authority (replay base events) pass moment request reply event (IsLawfulBase-lawful authority base events lawful) at formed answers);
    }

module _ {D : Type 0} (clock : D → ℕ) (left_since : D → ℕ → List ℕ → Type 0) (image : D → Option (List ℕ)) (faults : D → ℕ) where
  -- nothing happened
  pub goes_on_same : (s : StoreView D) → s.stop ≡ None → HasGoneOn clock left_since image faults s s
  goes_on_same s running = record {
    began = running;
    key_stays = refl;
    ring_stays = refl;
    base_stays = refl;
    opened_stays = refl;
    events_go_on = ([], append-nil s.events);
    lawful = λ lawful. lawful;
    checkpoints_go_on = ([], append-nil s.checkpoints);
    generation_grows = omega arith;
    place_is = refl;
    other_stays = λ none. inl refl;
    ready = λ is none. is;
    current = λ is none. is;
    halts = λ is pass some. none_some s.stop pass running some;
    at_rest = λ rest none. rests_same clock left_since image s rest;
    halts_mended = λ rest pass some. none_some s.stop pass running some;
    halts_checkpoint = λ rest pass some. none_some s.stop pass running some;
    halts_event = λ rest pass event some. none_some s.stop pass running some;
    follows = λ pass event some. none_some s.stop pass running some;
    none_failed = λ none. NoneFailed-same faults s;
    failed = λ pass some. none_some s.stop pass running some;
    first_told = refl;
    second_told = refl;
    first_never_falls = omega arith;
    second_never_falls = omega arith;
  }

  -- what a step of a store says
  pub record Stepped (old : StoreView D) (pass : ℕ) (moment : ℤ) (request : StepRequest) (result : StoreReply) (new : StoreView D) : Type 0 where
    pub answer : Steps faults old pass moment request result new
    pub stays_ready : IsReady clock left_since image old → result ≢ stores.Stopped → IsReady clock left_since image new
    pub stays_current : IsCurrent clock left_since image old → result ≢ stores.Stopped → IsCurrent clock left_since image new
    pub met : IsReady clock left_since image old → result ≡ stores.Stopped → StopsNow clock left_since image new (SurvivesStopAt old.base old.events old.generation old.second_active new.met)
    pub met_at_rest : IsAtRest clock left_since image old → result ≡ stores.Stopped → StopsNow clock left_since image new (NewestBegins old.generation old.second_active (body_of old))
    pub makes_ready : IsCurrent clock left_since image old → length old.events < length new.events → (active other : List ℕ) → image old.active ≡ Some active → image old.other ≡ Some other → IsPinned clock left_since image old.other → IsReady clock left_since image new
    pub first_told : is_some (image (first_disk new)) ≡ is_some (image (first_disk old))
    pub second_told : is_some (image (second_disk new)) ≡ is_some (image (second_disk old))
    pub first_never_falls : faults (first_disk old) ≤ faults (first_disk new)
    pub second_never_falls : faults (second_disk old) ≤ faults (second_disk new)

  pub stepped_shown : (old new : StoreView D) (pass : ℕ) (given moment : ℤ) (request : StepRequest) (result : StoreReply) → given ≡ moment → Stepped old pass given request result new → Stepped old pass moment request result new
  stepped_shown old new pass given moment request result is s = subst (λ (m : ℤ). Stepped old pass m request result new) is s

  some_event : (event found : Event) → ◌≡◌ {A = Option Event} (Some event) (Some found) → event ≡ found
  some_event event found same = cc

  -- while no disk has failed the other one is not touched
  untouched : (opening old : StoreView D) → old.stop ≡ None → (old.other ≡ opening.other) ⊎ ((pass : ℕ) × (old.stop ≡ Some pass) × (old.met ≡ None) × HasRisen (faults opening.other) (faults old.other)) → old.other ≡ opening.other
  untouched opening old running (inl same) = same
  untouched opening old running (inr failed) = none_some old.stop failed.0 running failed.1

  no_event : {P : Type 0} (event : Event) → ◌≡◌ {A = Option Event} (Some event) None → P
  no_event event is = absurd cc

  module _ (opening : StoreView D) where
    -- the store did not change but in its active disk and its events, and is not stopped
    running_on : (old new : StoreView D) (pass : ℕ) (moment : ℤ) (request : StepRequest) (result : StoreReply) → HasGoneOn clock left_since image faults opening old → Stepped old pass moment request result new → old.stop ≡ None → new.stop ≡ None →
        result ≢ stores.Stopped → new.key ≡ old.key → new.ring ≡ old.ring → new.base ≡ old.base → new.opened ≡ old.opened → IsPrefix opening.events new.events →
        (IsLawful (authority_of_store opening) opening.base opening.events → IsLawful (authority_of_store new) new.base new.events) → new.checkpoints ≡ old.checkpoints → new.generation ≡ old.generation → new.second_active ≡ old.second_active → new.other ≡ old.other →
        (IsAtRest clock left_since image opening → RestsSince clock left_since image opening new) → HasGoneOn clock left_since image faults opening new
    running_on old new pass moment request result g s was is going key ring base opened events lawful checkpoints generation place other rests = record {
      began = g.began;
      key_stays = key ∙ g.key_stays;
      ring_stays = ring ∙ g.ring_stays;
      base_stays = base ∙ g.base_stays;
      opened_stays = opened ∙ g.opened_stays;
      events_go_on = events;
      lawful = lawful;
      checkpoints_go_on = (g.checkpoints_go_on.0, g.checkpoints_go_on.1 ∙ sym checkpoints);
      generation_grows = generation ∙ g.generation_grows;
      place_is = place ∙ g.place_is;
      other_stays = λ none. inl (other ∙ untouched opening old was (g.other_stays none));
      ready = λ first none. s.stays_ready (g.ready first was) going;
      current = λ first none. s.stays_current (g.current first was) going;
      halts = λ first pass some. none_some new.stop pass is some;
      at_rest = λ rest none. rests rest;
      halts_mended = λ rest pass some. none_some new.stop pass is some;
      halts_checkpoint = λ rest pass some. none_some new.stop pass is some;
      halts_event = λ rest pass event some. none_some new.stop pass is some;
      follows = λ pass event some. none_some new.stop pass is some;
      none_failed = λ none. NoneFailed-on faults opening old new (g.none_failed was) (NoneFailed-step faults old new pass moment request result s.answer is);
      failed = λ pass some. none_some new.stop pass is some;
      first_told = s.first_told ∙ g.first_told;
      second_told = s.second_told ∙ g.second_told;
      first_never_falls = omega (arith, s.first_never_falls, g.first_never_falls);
      second_never_falls = omega (arith, s.second_never_falls, g.second_never_falls);
    }

    by_step : (old new : StoreView D) (pass : ℕ) (moment : ℤ) (request : StepRequest) (result : StoreReply) → IsMoment moment → IsWellFormed request → HasGoneOn clock left_since image faults opening old → Steps faults old pass moment request result new → Stepped old pass moment request result new →
        HasGoneOn clock left_since image faults opening new
    by_step old _ pass moment request _ at formed g (steps.answered reply running goes) s =
        running_on old old pass moment request (stores.Step reply) g s running running (λ is. cc) refl refl refl refl g.events_go_on g.lawful refl refl refl refl (λ rest. g.at_rest rest running)
    by_step old _ pass moment request _ at formed g (steps.kept reply event active running goes room stood) s =
        running_on old (steps.with_event old event active) pass moment request (stores.Step reply) g s running running (λ is. cc) refl refl refl refl (events_stay opening.events old.events g.events_go_on event)
        (λ first. lawful_more (authority_of_store old) old.base old.events pass moment request reply event at formed (λ many. room (inr many)) goes (g.lawful first)) refl refl refl refl
        (λ rest. let before = (g.at_rest rest running).0 in
        rests_ready clock left_since image (steps.with_event old event active) opening (s.makes_ready before.current (one_longer old.events event) before.active_bytes before.other_bytes before.active_told before.other_told before.other_pinned))
    by_step old _ pass moment request _ at formed g (steps.full reply event running goes is_full) s =
        running_on old old pass moment request stores.Full g s running running (λ is. cc) refl refl refl refl g.events_go_on g.lawful refl refl refl refl (λ rest. g.at_rest rest running)
    by_step old _ pass moment request _ at formed g (steps.failed reply event active running goes room risen) s = record {
      began = g.began;
      key_stays = g.key_stays;
      ring_stays = g.ring_stays;
      base_stays = g.base_stays;
      opened_stays = g.opened_stays;
      events_go_on = g.events_go_on;
      lawful = g.lawful;
      checkpoints_go_on = g.checkpoints_go_on;
      generation_grows = g.generation_grows;
      place_is = g.place_is;
      other_stays = λ none. inl (untouched opening old running (g.other_stays none));
      ready = λ first none. none_some (Some pass) pass none refl;
      current = λ first none. none_some (Some pass) pass none refl;
      halts = λ first other some. s.met (g.ready first running) refl;
      at_rest = λ rest none. none_some (Some pass) pass none refl;
      halts_mended = λ rest other some added. ⊎_elim
          (λ (is_ready : IsReady clock left_since image old). s.met is_ready refl)
          (λ (nothing : HasNothingAdded opening old). absurd (added (record { events_stay = nothing.events_stay; checkpoints_stay = nothing.checkpoints_stay })))
          (g.at_rest rest running).1;
      halts_checkpoint = λ rest other some none. no_event event none;
      halts_event = λ rest other found some same. s.met_at_rest (g.at_rest rest running).0 refl;
      follows = λ other found some same lawful.
          subst (λ (e : Event). IsLawful (authority_of_store old) old.base (old.events ++ e ∷ [])) (some_event event found same)
          (lawful_more (authority_of_store old) old.base old.events pass moment request reply event at formed (λ many. room (inr many)) goes lawful);
      none_failed = λ none. none_some (Some pass) pass none refl;
      failed = λ other some. ⊎_elim
          (λ (r : HasRisen (faults (first_disk old)) (faults (one_of active old.other old.second_active))). inl (risen_since (faults (first_disk opening)) (faults (first_disk old)) (faults (one_of active old.other old.second_active)) g.first_never_falls r))
          (λ (r : HasRisen (faults (second_disk old)) (faults (one_of old.other active old.second_active))). inr (risen_since (faults (second_disk opening)) (faults (second_disk old)) (faults (one_of old.other active old.second_active)) g.second_never_falls r))
          (risen_at faults old.active active old.other old.second_active risen);
      first_told = s.first_told ∙ g.first_told;
      second_told = s.second_told ∙ g.second_told;
      first_never_falls = omega (arith, s.first_never_falls, g.first_never_falls);
      second_never_falls = omega (arith, s.second_never_falls, g.second_never_falls);
    }
    by_step old _ pass moment request _ at formed g (steps.stopped earlier is) s = g
    by_step old _ pass moment request _ at formed g (steps.without_memory running) s = g

  pub goes_on_step : (opening old new : StoreView D) (pass : ℕ) (moment : ℤ) (request : StepRequest) (result : StoreReply) → IsMoment moment → IsWellFormed request → HasGoneOn clock left_since image faults opening old → Stepped old pass moment request result new →
      HasGoneOn clock left_since image faults opening new
  goes_on_step opening old new pass moment request result at formed g s = by_step opening old new pass moment request result at formed g s.answer s

  -- ---- checkpoints

  -- the store that a checkpoint leaves in which the other disk failed
  abbrev stopped_other : StoreView D → D → ℕ → StoreView D
  stopped_other old other pass = record old { other = other; stop = Some pass; met = None }

  -- the count of the other disk in its place
  risen_other : (active old other : D) (second_active : Bool) → HasRisen (faults old) (faults other) →
      HasRisen (faults (one_of active old second_active)) (faults (one_of active other second_active)) ⊎ HasRisen (faults (one_of old active second_active)) (faults (one_of other active second_active))
  risen_other active old other false risen = inr risen
  risen_other active old other true risen = inl risen

  checkpoints_more : (opening more checkpoints : List Checkpoint) (last : Checkpoint) → opening ++ more ≡ checkpoints → opening ++ (more ++ last ∷ []) ≡ checkpoints ++ last ∷ []
  checkpoints_more opening more checkpoints last is = sym (append_assoc opening more (last ∷ [])) ∙ ap (λ (cs : List Checkpoint). cs ++ last ∷ []) is

  not_none : (more : List Checkpoint) (made : Checkpoint) → more ++ made ∷ [] ≡ [] → ⊥
  not_none [] made is = cc
  not_none (first ∷ more) made is = cc

  exchanged_more : (more : List Checkpoint) (made : Checkpoint) (second : Bool) → place_after (length (more ++ made ∷ [])) second ≡ not (place_after (length more) second)
  exchanged_more more made second = ap (λ (n : ℕ). place_after n second) (let long = length-append more (made ∷ []) in let same : length (more ++ made ∷ []) ≡ suc (length more) = omega (arith, long) in same)

  by_checkpoint : (opening old new : StoreView D) (pass : ℕ) (result : CheckpointReply) → HasGoneOn clock left_since image faults opening old → MakesCheckpoint faults old pass result new → Checkpoints clock left_since image faults old pass result new →
      HasGoneOn clock left_since image faults opening new
  by_checkpoint opening old _ pass _ g (makes.made active running fits stood) s = record {
    began = g.began;
    key_stays = g.key_stays;
    ring_stays = g.ring_stays;
    base_stays = g.base_stays;
    opened_stays = g.opened_stays;
    events_go_on = g.events_go_on;
    lawful = g.lawful;
    checkpoints_go_on =
        (g.checkpoints_go_on.0 ++ record { after = length old.events; pass = pass } ∷ [], checkpoints_more opening.checkpoints g.checkpoints_go_on.0 old.checkpoints (record { after = length old.events; pass = pass }) g.checkpoints_go_on.1);
    generation_grows = let long = length-append g.checkpoints_go_on.0 (record { after = length old.events; pass = pass } ∷ []) in omega (arith, long, g.generation_grows);
    place_is = ap not g.place_is ∙ sym (exchanged_more g.checkpoints_go_on.0 (record { after = length old.events; pass = pass }) opening.second_active);
    other_stays = λ none. absurd (not_none g.checkpoints_go_on.0 (record { after = length old.events; pass = pass }) none);
    ready = λ first none. s.stays_ready (g.ready first running) (λ is. cc);
    current = λ first none. s.stays_current (g.current first running) (λ is. cc);
    halts = λ first other some. none_some old.stop other running some;
    at_rest = λ rest none. let before = (g.at_rest rest running).0 in
        rests_ready clock left_since image (makes.with_checkpoint old pass active) opening (s.makes_ready before.current refl before.active_bytes before.other_bytes before.active_told before.other_told before.active_pinned);
    halts_mended = λ rest other some. none_some old.stop other running some;
    halts_checkpoint = λ rest other some. none_some old.stop other running some;
    halts_event = λ rest other event some. none_some old.stop other running some;
    follows = λ other event some. none_some old.stop other running some;
    none_failed = λ none. NoneFailed-on faults opening old (makes.with_checkpoint old pass active) (g.none_failed running)
        (NoneFailed-checkpoint faults old (makes.with_checkpoint old pass active) pass checkpoint_replies.Checkpointed (makes.made active running fits stood) running);
    failed = λ other some. none_some old.stop other running some;
    first_told = s.first_told ∙ g.first_told;
    second_told = s.second_told ∙ g.second_told;
    first_never_falls = omega (arith, s.first_never_falls, g.first_never_falls);
    second_never_falls = omega (arith, s.second_never_falls, g.second_never_falls);
  }
  by_checkpoint opening old _ pass _ g (makes.full running over) s = g
  by_checkpoint opening old _ pass _ g (makes.failed other running fits risen) s = record {
    began = g.began;
    key_stays = g.key_stays;
    ring_stays = g.ring_stays;
    base_stays = g.base_stays;
    opened_stays = g.opened_stays;
    events_go_on = g.events_go_on;
    lawful = g.lawful;
    checkpoints_go_on = g.checkpoints_go_on;
    generation_grows = g.generation_grows;
    place_is = g.place_is;
    other_stays = λ none. inr (pass, refl, refl, subst (λ (d : D). HasRisen (faults d) (faults other)) (untouched opening old running (g.other_stays none)) risen);
    ready = λ first none. none_some (Some pass) pass none refl;
    current = λ first none. none_some (Some pass) pass none refl;
    halts = λ first stopper some. s.halts (g.ready first running) refl;
    at_rest = λ rest none. none_some (Some pass) pass none refl;
    halts_mended = λ rest stopper some added. ⊎_elim
        (λ (is_ready : IsReady clock left_since image old). s.halts is_ready refl)
        (λ (nothing : HasNothingAdded opening old). absurd (added (record { events_stay = nothing.events_stay; checkpoints_stay = nothing.checkpoints_stay })))
        (g.at_rest rest running).1;
    halts_checkpoint = λ rest stopper some none. s.halts_at_rest (g.at_rest rest running).0 refl;
    halts_event = λ rest stopper event some same. let none : ◌≡◌ {A = Option Event} None (Some event) = same in absurd cc;
    follows = λ stopper event some same. let none : ◌≡◌ {A = Option Event} None (Some event) = same in absurd cc;
    none_failed = λ none. none_some (Some pass) pass none refl;
    failed = λ stopper some. ⊎_elim
        (λ (r : HasRisen (faults (first_disk old)) (faults (one_of old.active other old.second_active))). inl (risen_since (faults (first_disk opening)) (faults (first_disk old)) (faults (one_of old.active other old.second_active)) g.first_never_falls r))
        (λ (r : HasRisen (faults (second_disk old)) (faults (one_of other old.active old.second_active))). inr (risen_since (faults (second_disk opening)) (faults (second_disk old)) (faults (one_of other old.active old.second_active)) g.second_never_falls r))
        (risen_other old.active old.other other old.second_active risen);
    first_told = s.first_told ∙ g.first_told;
    second_told = s.second_told ∙ g.second_told;
    first_never_falls = omega (arith, s.first_never_falls, g.first_never_falls);
    second_never_falls = omega (arith, s.second_never_falls, g.second_never_falls);
  }
  by_checkpoint opening old _ pass _ g (makes.stopped earlier is) s = g
  by_checkpoint opening old _ pass _ g (makes.without_memory running) s = g

  pub goes_on_checkpoint : (opening old new : StoreView D) (pass : ℕ) (result : CheckpointReply) → HasGoneOn clock left_since image faults opening old → Checkpoints clock left_since image faults old pass result new →
      HasGoneOn clock left_since image faults opening new
  goes_on_checkpoint opening old new pass result g s = by_checkpoint opening old new pass result g s.answer s
