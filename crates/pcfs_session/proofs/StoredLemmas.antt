-- A store while a script goes on.
use Rattle.std.proofs.Common.{◌≡◌, ◌⊎◌, inl, inr, ℕ, zero, suc, ℤ, ◌<◌, ◌≤◌, Bool, true, false, List, [], ◌∷◌, ◌++◌, length, length-append, append_assoc, append-nil, Option, Some, None, refl, sym, ap, subst, ◌∙◌, arith}
use Rattle.std.specs.Prelude.{◌≢◌, not}
use Rattle.pcfs_ports.specs.Disk.{IsPinned}
use Rattle.pcfs_ports.specs.Faults.{HasRisen}
use Rattle.journal_records.specs.declared.event.Event.{Event}
use Rattle.access_history.specs.declared.request.StepRequest.{StepRequest}
use Rattle.access_history.specs.declared.reply.StepReply.{StepReply}
use Rattle.access_history.specs.Lawful.{IsLawful}
use Rattle.line_wire.specs.declared.reply.LineReply.{LineReply}
use Rattle.line_wire.specs.declared.reply.LineReply.TheVariants as replies
use Rattle.pcfs_store.specs.declared.reply.StoreReply.{StoreReply}
use Rattle.pcfs_store.specs.declared.reply.StoreReply.TheVariants as stores
use Rattle.pcfs_store.specs.Newest.{one_of, NewestBegins}
use Rattle.pcfs_store.specs.StoreView.{StoreView, HasNothingAdded, first_disk, second_disk, body_of, authority_of_store}
use Rattle.pcfs_store.specs.Ready.{IsReady, IsCurrent, IsAtRest, RestsSince, StopsNow, SurvivesStopAt}
use Rattle.pcfs_store.specs.Steps.{Steps}
use Rattle.pcfs_store.specs.Steps as steps
use Rattle.line_forms.specs.declared.command.Command.TheVariants as commands
use Rattle.pcfs_store.specs.declared.checkpoints.Checkpoint.{Checkpoint}
use Rattle.pcfs_store.specs.declared.reply.CheckpointReply.{CheckpointReply}
use Rattle.pcfs_store.specs.declared.reply.CheckpointReply.TheVariants as checkpoint_replies
use Rattle.pcfs_store.specs.Checkpoints.{IsFullForCheckpoint, with_checkpoint, place_after, SurvivesMetAt, MakesCheckpoint, Checkpoints}
use Rattle.pcfs_store.specs.Checkpoints as makes
use Rattle.pcfs_store.specs.Entries.{StoreEntry, happened, checkpointed}
use Rattle.pcfs_store.proofs.SurvivalLemmas.{one_longer, nothing_both, rests_ready, rests_same}
use Rattle.pcfs_store.proofs.CountLemmas.{NoneFailed-same, NoneFailed-on, NoneFailed-step, NoneFailed-checkpoint}
use Rattle.pcfs_session.specs.Interpreter.{IsFollowed, IsToldOfCheckpoint}
use Rattle.pcfs_session.specs.LineAnswer as line_answer
use Rattle.pcfs_session.specs.ScriptContext.{ScriptContext}
use Rattle.pcfs_session.specs.Interpreter.{IsDecidedAs, IsToldAs}
use Rattle.pcfs_session.specs.InterpreterView.{InterpreterView, standing_of}
use Rattle.pcfs_session.specs.ScriptRun.{ScriptState, IsLawfulStanding, kept, full, stopped}
use Rattle.pcfs_session.specs.Stored.{IsStopFor, StoreGoesOn, LeadsTo}

pub none_some : {A P : Type 0} (x : A) → None ≡ Some x → P
none_some x is = absurd cc

some_same : {A : Type 0} (x y : A) → Some x ≡ Some y → x ≡ y
some_same x y is = cc

pub event_no_checkpoint : {P : Type 0} (event : Event) (pass : ℕ) → ◌≡◌ {A = Option StoreEntry} (Some (happened event)) (Some (checkpointed pass)) → P
event_no_checkpoint event pass is = absurd cc

-- a count that rose and then did not fall has risen
pub HasRisen-earlier : (before mid after : ℕ) → before ≤ mid → HasRisen mid after → HasRisen before after
HasRisen-earlier before mid after later risen below = let r = risen below in omega (arith, r, later)

-- a store that did not stop
pub running_for : (stop : Option ℕ) → stop ≡ None → IsStopFor stop None
running_for stop is = subst (λ (s : Option ℕ). IsStopFor s None) (sym is) tt

pub runs_for : (stop : Option ℕ) → IsStopFor stop None → stop ≡ None
runs_for None is = refl
runs_for (Some pass) is = absurd is

-- the count of the disk in its place
risen_at : {D : Type 0} (faults : D → ℕ) (old active other : D) (second_active : Bool) → HasRisen (faults old) (faults active) →
    HasRisen (faults (one_of old other second_active)) (faults (one_of active other second_active)) ⊎ HasRisen (faults (one_of other old second_active)) (faults (one_of other active second_active))
risen_at faults old active other false risen = inl risen
risen_at faults old active other true risen = inr risen

-- the count of the other disk in its place
risen_other : {D : Type 0} (faults : D → ℕ) (active old other : D) (second_active : Bool) → HasRisen (faults old) (faults other) →
    HasRisen (faults (one_of active old second_active)) (faults (one_of active other second_active)) ⊎ HasRisen (faults (one_of old active second_active)) (faults (one_of other active second_active))
risen_other faults active old other false risen = inr risen
risen_other faults active old other true risen = inl risen

-- no disk failed in a step that is answered otherwise
still_runs : {D : Type 0} (faults : D → ℕ) (old new : StoreView D) (pass : ℕ) (clock : ℤ) (request : StepRequest) (reply : StoreReply) → reply ≢ stores.Stopped → Steps faults old pass clock request reply new → new.stop ≡ None
still_runs faults old _ pass clock request _ going (steps.answered reply is answer) = is
still_runs faults old _ pass clock request _ going (steps.kept reply event active is answer room stood) = is
still_runs faults old _ pass clock request _ going (steps.full reply event is answer is_full) = is
still_runs faults old _ pass clock request _ going (steps.failed reply event active is answer room risen) = absurd (going refl)
still_runs faults old _ pass clock request _ going (steps.stopped earlier is) = absurd (going refl)
still_runs faults old _ pass clock request _ going (steps.without_memory is) = is

-- the area stays in its place, the other disk is not touched, and no checkpoint is made
record StaysInPlace {D : Type 0} (old new : StoreView D) : Type 0 where
  generation : new.generation ≡ old.generation
  place : new.second_active ≡ old.second_active
  other : new.other ≡ old.other
  checkpoints : new.checkpoints ≡ old.checkpoints
  opened : new.opened ≡ old.opened

stays_in_place : {D : Type 0} (faults : D → ℕ) (old new : StoreView D) (pass : ℕ) (clock : ℤ) (request : StepRequest) (reply : StoreReply) → Steps faults old pass clock request reply new → StaysInPlace old new
stays_in_place faults old _ pass clock request _ (steps.answered reply is answer) = record { generation = refl; place = refl; other = refl; checkpoints = refl; opened = refl }
stays_in_place faults old _ pass clock request _ (steps.kept reply event active is answer room stood) = record { generation = refl; place = refl; other = refl; checkpoints = refl; opened = refl }
stays_in_place faults old _ pass clock request _ (steps.full reply event is answer is_full) = record { generation = refl; place = refl; other = refl; checkpoints = refl; opened = refl }
stays_in_place faults old _ pass clock request _ (steps.failed reply event active is answer room risen) = record { generation = refl; place = refl; other = refl; checkpoints = refl; opened = refl }
stays_in_place faults old _ pass clock request _ (steps.stopped earlier is) = record { generation = refl; place = refl; other = refl; checkpoints = refl; opened = refl }
stays_in_place faults old _ pass clock request _ (steps.without_memory is) = record { generation = refl; place = refl; other = refl; checkpoints = refl; opened = refl }

abbrev seen : {D : Type 0} → StoreView D → ScriptContext → InterpreterView D
seen store asker = record { store = store; asker = asker }

-- ---- checkpoints one after another

place_both : (one other : List Checkpoint) (second : Bool) → place_after (length (one ++ other)) second ≡ place_after (length other) (place_after (length one) second)
place_both [] other second = refl
place_both (made ∷ one) other second = ap not (place_both one other second) ∙ place_shift (length other) (place_after (length one) second)
  where
    place_shift : (n : ℕ) (b : Bool) → not (place_after n b) ≡ place_after n (not b)
    place_shift zero b = refl
    place_shift (suc n) b = ap not (place_shift n b)

none_of_both : (one other : List Checkpoint) → one ++ other ≡ [] → (one ≡ []) × (other ≡ [])
none_of_both [] other none = (refl, none)
none_of_both (made ∷ one) other none = absurd cc

module _ {D : Type 0} (clock : D → ℕ) (left_since : D → ℕ → List ℕ → Type 0) (image : D → Option (List ℕ)) (faults : D → ℕ) where
  -- what a step of a store says
  pub record Stepped (old : StoreView D) (asker : ScriptContext) (request : StepRequest) (result : StoreReply) (new : StoreView D) : Type 0 where
    pub answer : Steps faults old asker.pass asker.clock request result new
    pub stays_ready : IsReady clock left_since image old → result ≢ stores.Stopped → IsReady clock left_since image new
    pub stays_current : IsCurrent clock left_since image old → result ≢ stores.Stopped → IsCurrent clock left_since image new
    pub met : IsReady clock left_since image old → result ≡ stores.Stopped → StopsNow clock left_since image new (SurvivesStopAt old.base old.events old.generation old.second_active new.met)
    pub met_at_rest : IsAtRest clock left_since image old → result ≡ stores.Stopped → StopsNow clock left_since image new (NewestBegins old.generation old.second_active (body_of old))
    pub makes_ready : IsCurrent clock left_since image old → length old.events < length new.events → (active other : List ℕ) → image old.active ≡ Some active → image old.other ≡ Some other → IsPinned clock left_since image old.other → IsReady clock left_since image new
    pub first_never_falls : faults (first_disk old) ≤ faults (first_disk new)
    pub second_never_falls : faults (second_disk old) ≤ faults (second_disk new)

  -- the same of the moment that was given, which is the one that the clock shows
  pub Stepped-shown : (old new : StoreView D) (pass : ℕ) (at shown : ℤ) (caller : List ℕ) (sees : Option (List ℕ)) (request : StepRequest) (result : StoreReply) → shown ≡ at → Stepped old (record { pass = pass; clock = shown; caller = caller; sees = sees }) request result new →
      Stepped old (record { pass = pass; clock = at; caller = caller; sees = sees }) request result new
  Stepped-shown old new pass at shown caller sees request result same stepped =
      subst (λ (z : ℤ). Stepped old (record { pass = pass; clock = z; caller = caller; sees = sees }) request result new) same stepped

  -- a store at rest is so after a step, and ready if it kept an event
  rests_since : (old new : StoreView D) (asker : ScriptContext) (request : StepRequest) (result : StoreReply) → result ≢ stores.Stopped → Stepped old asker request result new → Steps faults old asker.pass asker.clock request result new →
      IsAtRest clock left_since image old → RestsSince clock left_since image old new
  rests_since old _ asker request _ going s (steps.answered reply is answer) rest = rests_same clock left_since image old rest
  rests_since old _ asker request _ going s (steps.kept reply event active is answer room stood) rest =
      rests_ready clock left_since image (steps.with_event old event active) old (s.makes_ready rest.current (one_longer old.events event) rest.active_bytes rest.other_bytes rest.active_told rest.other_told rest.other_pinned)
  rests_since old _ asker request _ going s (steps.full reply event is answer is_full) rest = rests_same clock left_since image old rest
  rests_since old _ asker request _ going s (steps.failed reply event active is answer room risen) rest = absurd (going refl)
  rests_since old _ asker request _ going s (steps.stopped earlier is) rest = absurd (going refl)
  rests_since old _ asker request _ going s (steps.without_memory is) rest = rests_same clock left_since image old rest

  goes_running : (old new : StoreView D) (asker : ScriptContext) (request : StepRequest) (result : StoreReply) → result ≢ stores.Stopped → Stepped old asker request result new → StoreGoesOn clock left_since image faults old new None
  goes_running old new asker request result going s = record {
    opened_stays = (stays_in_place faults old new asker.pass asker.clock request result s.answer).opened;
    checkpoints_go_on = ([], append-nil old.checkpoints ∙ sym (stays_in_place faults old new asker.pass asker.clock request result s.answer).checkpoints);
    generation_grows = omega (arith, (stays_in_place faults old new asker.pass asker.clock request result s.answer).generation);
    place_is = (stays_in_place faults old new asker.pass asker.clock request result s.answer).place;
    other_stays = λ none untried. (stays_in_place faults old new asker.pass asker.clock request result s.answer).other;
    stop_for = running_for new.stop (still_runs faults old new asker.pass asker.clock request result going s.answer);
    ready = λ is none. s.stays_ready is going;
    halts = λ is event same. none_some event same;
    at_rest = λ rest none. rests_since old new asker request result going s s.answer rest;
    halts_mended = λ rest event same. none_some event same;
    halts_checkpoint = λ rest pass same. none_some (checkpointed pass) same;
    halts_event = λ rest event same. none_some (happened event) same;
    current = λ is none. s.stays_current is going;
    first_never_falls = s.first_never_falls;
    second_never_falls = s.second_never_falls;
    none_failed = λ none. NoneFailed-step faults old new asker.pass asker.clock request result s.answer (still_runs faults old new asker.pass asker.clock request result going s.answer);
    failed = λ event same. none_some event same;
  }

  -- a step is answered
  decided_step : (old new : StoreView D) (asker : ScriptContext) (request : StepRequest) (reply : StepReply) → Steps faults old asker.pass asker.clock request (stores.Step reply) new → IsDecidedAs request (standing_of (seen old asker) None) (replies.Step reply) (standing_of (seen new asker) None)
  decided_step old _ asker request _ (steps.answered reply running answer) = record { told = reply; event = None; answer = answer; becomes = kept None tt }
  decided_step old _ asker request _ (steps.kept reply event active running answer room stood) = record { told = reply; event = Some event; answer = answer; becomes = kept (Some (happened event)) room }

  pub LeadsTo-step : (old new : StoreView D) (asker : ScriptContext) (request : StepRequest) (reply : StepReply) → Stepped old asker request (stores.Step reply) new → LeadsTo clock left_since image faults (IsDecidedAs request) (seen old asker) (replies.Step reply) (seen new asker)
  LeadsTo-step old new asker request reply s = record {
    met = None;
    holds = decided_step old new asker request reply s.answer;
    goes_on = goes_running old new asker request (stores.Step reply) (λ is. absurd cc) s;
  }

  -- there is no room
  decided_full : (old new : StoreView D) (asker : ScriptContext) (request : StepRequest) → Steps faults old asker.pass asker.clock request stores.Full new → IsDecidedAs request (standing_of (seen old asker) None) replies.Full (standing_of (seen new asker) None)
  decided_full old _ asker request (steps.full reply event running answer is_full) = record { told = reply; event = Some event; answer = answer; becomes = full (happened event) is_full }

  pub LeadsTo-full : (old new : StoreView D) (asker : ScriptContext) (request : StepRequest) → Stepped old asker request stores.Full new → LeadsTo clock left_since image faults (IsDecidedAs request) (seen old asker) replies.Full (seen new asker)
  LeadsTo-full old new asker request s = record {
    met = None;
    holds = decided_full old new asker request s.answer;
    goes_on = goes_running old new asker request stores.Full (λ is. absurd cc) s;
  }

  -- a disk failed
  by_fault : (old new : StoreView D) (asker : ScriptContext) (request : StepRequest) → IsLawful (authority_of_store old) old.base old.events → old.stop ≡ None → Stepped old asker request stores.Stopped new → Steps faults old asker.pass asker.clock request stores.Stopped new →
      LeadsTo clock left_since image faults (IsDecidedAs request) (seen old asker) replies.Stopped (seen new asker)
  by_fault old _ asker request lawful running s (steps.failed reply event active is answer room risen) = record {
    met = Some (happened event);
    holds = record { told = reply; event = Some event; answer = answer; becomes = stopped (happened event) room };
    goes_on = record {
      stop_for = tt;
      opened_stays = refl;
      checkpoints_go_on = ([], append-nil old.checkpoints);
      generation_grows = omega arith;
      place_is = refl;
      other_stays = λ none untried. refl;
      ready = λ is_ready none. none_some (happened event) (sym none);
      halts = λ is_ready e same.
          subst (λ (x : StoreEntry). StopsNow clock left_since image (record old { active = active; stop = Some asker.pass; met = Some event }) (SurvivesMetAt old.base old.events old.generation old.second_active x)) (some_same (happened event) e same) (s.met is_ready refl);
      at_rest = λ rest none. none_some (happened event) (sym none);
      halts_mended = λ rest e same added. absurd (added (record { events_stay = refl; checkpoints_stay = refl }));
      halts_checkpoint = λ rest pass same. event_no_checkpoint event pass same;
      halts_event = λ rest e same. s.met_at_rest rest refl;
      current = λ is_current none. none_some (happened event) (sym none);
      first_never_falls = s.first_never_falls;
      second_never_falls = s.second_never_falls;
      none_failed = λ none. none_some (happened event) (sym none);
      failed = λ e same. risen_at faults old.active active old.other old.second_active risen;
    };
  }
  by_fault old _ asker request lawful running s (steps.stopped earlier is) = none_some earlier (sym running ∙ is)

  pub LeadsTo-stopped : (old new : StoreView D) (asker : ScriptContext) (request : StepRequest) → IsLawful (authority_of_store old) old.base old.events → old.stop ≡ None → Stepped old asker request stores.Stopped new →
      LeadsTo clock left_since image faults (IsDecidedAs request) (seen old asker) replies.Stopped (seen new asker)
  LeadsTo-stopped old new asker request lawful running s = by_fault old new asker request lawful running s s.answer

  -- whatever the store says
  by_told : (old new : StoreView D) (asker : ScriptContext) (request : StepRequest) (reply : StoreReply) (told : LineReply) → IsLawful (authority_of_store old) old.base old.events → old.stop ≡ None → IsToldAs reply told → Stepped old asker request reply new →
      LeadsTo clock left_since image faults (IsDecidedAs request) (seen old asker) told (seen new asker)
  by_told old new asker request (stores.Step reply) told lawful running is s = subst (λ (t : LineReply). LeadsTo clock left_since image faults (IsDecidedAs request) (seen old asker) t (seen new asker)) (sym is) (LeadsTo-step old new asker request reply s)
  by_told old new asker request stores.Full told lawful running is s = subst (λ (t : LineReply). LeadsTo clock left_since image faults (IsDecidedAs request) (seen old asker) t (seen new asker)) (sym is) (LeadsTo-full old new asker request s)
  by_told old new asker request stores.Stopped told lawful running is s = subst (λ (t : LineReply). LeadsTo clock left_since image faults (IsDecidedAs request) (seen old asker) t (seen new asker)) (sym is) (LeadsTo-stopped old new asker request lawful running s)
  by_told old new asker request stores.NoMemory told lawful running is s = absurd is

  pub LeadsTo-told : (inside seated : InterpreterView D) (new : StoreView D) (request : StepRequest) (reply : StoreReply) (told : LineReply) → inside ≡ seated → IsLawfulStanding (standing_of seated None) → seated.store.stop ≡ None → IsToldAs reply told → Stepped inside.store inside.asker request reply new →
      LeadsTo clock left_since image faults (IsDecidedAs request) seated told (seen new inside.asker)
  LeadsTo-told inside seated new request reply told same stands running is s =
      subst (λ (i : InterpreterView D). LeadsTo clock left_since image faults (IsDecidedAs request) i told (seen new inside.asker)) same
      (by_told inside.store new inside.asker request reply told (subst (λ (i : InterpreterView D). IsLawfulStanding (standing_of i None)) (sym same) stands).lawful (ap (λ (i : InterpreterView D). i.store.stop) same ∙ running) is s)

  -- nothing happened
  pub StoreGoesOn-same : (s : StoreView D) → s.stop ≡ None → StoreGoesOn clock left_since image faults s s None
  StoreGoesOn-same s running = record {
    stop_for = running_for s.stop running;
    opened_stays = refl;
    checkpoints_go_on = ([], append-nil s.checkpoints);
    generation_grows = omega arith;
    place_is = refl;
    other_stays = λ none untried. refl;
    ready = λ is none. is;
    halts = λ is event same. none_some event same;
    at_rest = λ rest none. rests_same clock left_since image s rest;
    halts_mended = λ rest event same. none_some event same;
    halts_checkpoint = λ rest pass same. none_some (checkpointed pass) same;
    halts_event = λ rest event same. none_some (happened event) same;
    current = λ is none. is;
    first_never_falls = omega arith;
    second_never_falls = omega arith;
    none_failed = λ none. NoneFailed-same faults s;
    failed = λ event same. none_some event same;
  }

  -- a checkpoint
  checkpoint_goes : (old : StoreView D) (asker : ScriptContext) (active : D) (fits : IsFullForCheckpoint old → ⊥) → old.stop ≡ None → Checkpoints clock left_since image faults old asker.pass checkpoint_replies.Checkpointed (with_checkpoint old asker.pass active) →
      StoreGoesOn clock left_since image faults old (with_checkpoint old asker.pass active) None
  checkpoint_goes old asker active fits running s = record {
    stop_for = running_for old.stop running;
    opened_stays = refl;
    checkpoints_go_on = (record { after = length old.events; pass = asker.pass } ∷ [], refl);
    generation_grows = refl;
    place_is = refl;
    other_stays = λ none untried. absurd cc;
    ready = λ is none. s.stays_ready is (λ same. absurd cc);
    halts = λ is entry same. none_some entry same;
    at_rest = λ rest none.
        rests_ready clock left_since image (with_checkpoint old asker.pass active) old (s.makes_ready rest.current refl rest.active_bytes rest.other_bytes rest.active_told rest.other_told rest.active_pinned);
    halts_mended = λ rest event same. none_some event same;
    halts_checkpoint = λ rest pass same. none_some (checkpointed pass) same;
    halts_event = λ rest event same. none_some (happened event) same;
    current = λ is none. s.stays_current is (λ same. absurd cc);
    first_never_falls = s.first_never_falls;
    second_never_falls = s.second_never_falls;
    none_failed = λ none. NoneFailed-checkpoint faults old (with_checkpoint old asker.pass active) asker.pass checkpoint_replies.Checkpointed s.answer running;
    failed = λ entry same. none_some entry same;
  }

  by_checkpoint : (old new : StoreView D) (asker : ScriptContext) (reply : CheckpointReply) (told : LineReply) → old.stop ≡ None → IsToldOfCheckpoint reply told → Checkpoints clock left_since image faults old asker.pass reply new → MakesCheckpoint faults old asker.pass reply new →
      LeadsTo clock left_since image faults (IsFollowed commands.Checkpoint) (seen old asker) told (seen new asker)
  by_checkpoint old _ asker _ told running is s (makes.made active goes fits stood) =
      subst (λ (t : LineReply). LeadsTo clock left_since image faults (IsFollowed commands.Checkpoint) (seen old asker) t (seen (with_checkpoint old asker.pass active) asker)) (sym is)
      (record {
        met = None;
        holds = record { told = replies.Checkpointed; entry = Some (checkpointed asker.pass); answer = line_answer.made line_answer.makes_checkpoint; becomes = kept (Some (checkpointed asker.pass)) fits };
        goes_on = checkpoint_goes old asker active fits running s;
      })
  by_checkpoint old _ asker _ told running is s (makes.full goes over) =
      subst (λ (t : LineReply). LeadsTo clock left_since image faults (IsFollowed commands.Checkpoint) (seen old asker) t (seen old asker)) (sym is)
      (record {
        met = None;
        holds = record { told = replies.Checkpointed; entry = Some (checkpointed asker.pass); answer = line_answer.made line_answer.makes_checkpoint; becomes = full (checkpointed asker.pass) over };
        goes_on = StoreGoesOn-same old running;
      })
  by_checkpoint old _ asker _ told running is s (makes.failed other goes fits risen) =
      subst (λ (t : LineReply). LeadsTo clock left_since image faults (IsFollowed commands.Checkpoint) (seen old asker) t (seen (record old { other = other; stop = Some asker.pass; met = None }) asker)) (sym is)
      (record {
        met = Some (checkpointed asker.pass);
        holds = record { told = replies.Checkpointed; entry = Some (checkpointed asker.pass); answer = line_answer.made line_answer.makes_checkpoint; becomes = stopped (checkpointed asker.pass) fits };
        goes_on = record {
          stop_for = tt;
          opened_stays = refl;
          checkpoints_go_on = ([], append-nil old.checkpoints);
          generation_grows = omega arith;
          place_is = refl;
          other_stays = λ none untried. absurd (untried asker.pass refl);
          ready = λ is_ready none. none_some (checkpointed asker.pass) (sym none);
          halts = λ is_ready e same. subst (λ (x : StoreEntry). StopsNow clock left_since image (record old { other = other; stop = Some asker.pass; met = None }) (SurvivesMetAt old.base old.events old.generation old.second_active x)) (some_same (checkpointed asker.pass) e same) (s.halts is_ready refl);
          at_rest = λ rest none. none_some (checkpointed asker.pass) (sym none);
          halts_mended = λ rest e same added. absurd (added (record { events_stay = refl; checkpoints_stay = refl }));
          halts_checkpoint = λ rest pass same. s.halts_at_rest rest refl;
          halts_event = λ rest event same. event_no_checkpoint event asker.pass (sym same);
          current = λ is_current none. none_some (checkpointed asker.pass) (sym none);
          first_never_falls = s.first_never_falls;
          second_never_falls = s.second_never_falls;
          none_failed = λ none. none_some (checkpointed asker.pass) (sym none);
          failed = λ e same. risen_other faults old.active old.other other old.second_active risen;
        };
      })
  by_checkpoint old _ asker _ told running is s (makes.stopped earlier stop) = none_some earlier (sym running ∙ stop)
  by_checkpoint old _ asker _ told running is s (makes.without_memory goes) = absurd is

  pub LeadsTo-checkpoint : (inside seated : InterpreterView D) (new : StoreView D) (reply : CheckpointReply) (told : LineReply) → inside ≡ seated → seated.store.stop ≡ None → IsToldOfCheckpoint reply told →
      Checkpoints clock left_since image faults inside.store inside.asker.pass reply new → LeadsTo clock left_since image faults (IsFollowed commands.Checkpoint) seated told (seen new inside.asker)
  LeadsTo-checkpoint inside seated new reply told same running is s =
      subst (λ (i : InterpreterView D). LeadsTo clock left_since image faults (IsFollowed commands.Checkpoint) i told (seen new inside.asker)) same
      (by_checkpoint inside.store new inside.asker reply told (ap (λ (i : InterpreterView D). i.store.stop) same ∙ running) is s s.answer)

  -- memory ran out in a step
  no_memory : (old new : StoreView D) (asker : ScriptContext) (request : StepRequest) → Steps faults old asker.pass asker.clock request stores.NoMemory new → new ≡ old
  no_memory old _ asker request (steps.without_memory running) = refl

  -- memory ran out in a checkpoint
  pub same-checkpoint : (inside seated : InterpreterView D) (new : StoreView D) (reply : CheckpointReply) → inside ≡ seated → reply ≡ checkpoint_replies.NoMemory → MakesCheckpoint faults inside.store inside.asker.pass reply new → seen new inside.asker ≡ seated
  same-checkpoint inside seated new reply same is said =
      ap (λ (n : StoreView D). seen n inside.asker) (unmade inside.store new inside.asker.pass (subst (λ (r : CheckpointReply). MakesCheckpoint faults inside.store inside.asker.pass r new) is said)) ∙ same
    where
      unmade : (old after : StoreView D) (pass : ℕ) → MakesCheckpoint faults old pass checkpoint_replies.NoMemory after → after ≡ old
      unmade old _ pass (makes.without_memory goes) = refl

  pub same-without_memory : (inside seated : InterpreterView D) (new : StoreView D) (request : StepRequest) (reply : StoreReply) → inside ≡ seated → reply ≡ stores.NoMemory → Stepped inside.store inside.asker request reply new → seen new inside.asker ≡ seated
  same-without_memory inside seated new request reply same is s =
      ap (λ (n : StoreView D). seen n inside.asker) (no_memory inside.store new inside.asker request (subst (λ (r : StoreReply). Steps faults inside.store inside.asker.pass inside.asker.clock request r new) is s.answer)) ∙ same

  pub LeadsTo-same : (R : ScriptState → LineReply → ScriptState → Type 0) (i : InterpreterView D) (reply : LineReply) → i.store.stop ≡ None → R (standing_of i None) reply (standing_of i None) → LeadsTo clock left_since image faults R i reply i
  LeadsTo-same R i reply running holds = record { met = None; holds = holds; goes_on = StoreGoesOn-same i.store running }

  pub LeadsTo-unchanged : (R : ScriptState → LineReply → ScriptState → Type 0) (i new : InterpreterView D) (reply : LineReply) → new ≡ i → i.store.stop ≡ None → R (standing_of i None) reply (standing_of i None) → LeadsTo clock left_since image faults R i reply new
  LeadsTo-unchanged R i new reply same running holds = subst (λ (n : InterpreterView D). LeadsTo clock left_since image faults R i reply n) (sym same) (LeadsTo-same R i reply running holds)

  -- the store is as it was, and another asks, or at another moment
  pub LeadsTo-changed : (R : ScriptState → LineReply → ScriptState → Type 0) (inside seated : InterpreterView D) (asker : ScriptContext) (reply : LineReply) → inside ≡ seated → seated.store.stop ≡ None → R (standing_of seated None) reply (standing_of (seen inside.store asker) None) →
      LeadsTo clock left_since image faults R seated reply (seen inside.store asker)
  LeadsTo-changed R inside seated asker reply same running holds = record {
    met = None;
    holds = holds;
    goes_on = subst (λ (i : InterpreterView D). StoreGoesOn clock left_since image faults i.store inside.store None) same (StoreGoesOn-same inside.store (ap (λ (i : InterpreterView D). i.store.stop) same ∙ running));
  }

  pub LeadsTo-seated : (R : ScriptState → LineReply → ScriptState → Type 0) (inside seated new : InterpreterView D) (reply : LineReply) → inside ≡ seated → LeadsTo clock left_since image faults R inside reply new → LeadsTo clock left_since image faults R seated reply new
  LeadsTo-seated R inside seated new reply same l = subst (λ (i : InterpreterView D). LeadsTo clock left_since image faults R i reply new) same l

  -- a call that says more of where it leads
  pub LeadsTo-also : (R Q : ScriptState → LineReply → ScriptState → Type 0) (old new : InterpreterView D) (reply : LineReply) → ((met : Option StoreEntry) → R (standing_of old None) reply (standing_of new met) → Q (standing_of old None) reply (standing_of new met)) →
      LeadsTo clock left_since image faults R old reply new → LeadsTo clock left_since image faults Q old reply new
  LeadsTo-also R Q old new reply says l = record { met = l.met; holds = says l.met l.holds; goes_on = l.goes_on }

  -- something was added, so the store is ready, or nothing was
  by_added : {P : Type 0} {old new : StoreView D} → IsReady clock left_since image new ⊎ HasNothingAdded old new → (IsReady clock left_since image new → P) → (HasNothingAdded old new → P) → P
  by_added (inl is_ready) ready nothing = ready is_ready
  by_added (inr none) ready nothing = nothing none

  -- from one moment to a later one, and to a later one still, while no disk fails before it
  pub StoreGoesOn-on : (old mid new : StoreView D) (met : Option StoreEntry) → StoreGoesOn clock left_since image faults old mid None → StoreGoesOn clock left_since image faults mid new met → StoreGoesOn clock left_since image faults old new met
  StoreGoesOn-on old mid new met one other = record {
    stop_for = other.stop_for;
    opened_stays = other.opened_stays ∙ one.opened_stays;
    checkpoints_go_on = (one.checkpoints_go_on.0 ++ other.checkpoints_go_on.0, sym (append_assoc old.checkpoints one.checkpoints_go_on.0 other.checkpoints_go_on.0) ∙ ap (λ (cs : List Checkpoint). cs ++ other.checkpoints_go_on.0) one.checkpoints_go_on.1 ∙ other.checkpoints_go_on.1);
    generation_grows = let long = length-append one.checkpoints_go_on.0 other.checkpoints_go_on.0 in omega (arith, long, one.generation_grows, other.generation_grows);
    place_is = other.place_is ∙ ap (place_after (length other.checkpoints_go_on.0)) one.place_is ∙ sym (place_both one.checkpoints_go_on.0 other.checkpoints_go_on.0 old.second_active);
    other_stays = λ none untried. let neither = none_of_both one.checkpoints_go_on.0 other.checkpoints_go_on.0 none in other.other_stays neither.1 untried ∙ one.other_stays neither.0 (λ pass is. none_some (checkpointed pass) is);
    ready = λ is none. other.ready (one.ready is refl) none;
    halts = λ is event same. other.halts (one.ready is refl) event same;
    at_rest = λ rest none.
        let first = one.at_rest rest refl in
        let second = other.at_rest first.0 none in
        (second.0, by_added first.1 (λ is_ready. inl (other.ready is_ready none)) (λ nothing. by_added second.1 (λ is_ready. inl is_ready) (λ more. inr (nothing_both old mid new nothing more))));
    halts_mended = λ rest event same added.
        let first = one.at_rest rest refl in
        by_added first.1 (λ is_ready. other.halts is_ready event same) (λ nothing. other.halts_mended first.0 event same (λ more. added (nothing_both old mid new nothing more)));
    halts_checkpoint = λ rest pass same. other.halts_checkpoint (one.at_rest rest refl).0 pass same;
    halts_event = λ rest event same. other.halts_event (one.at_rest rest refl).0 event same;
    current = λ is none. other.current (one.current is refl) none;
    first_never_falls = omega (arith, one.first_never_falls, other.first_never_falls);
    second_never_falls = omega (arith, one.second_never_falls, other.second_never_falls);
    none_failed = λ none. NoneFailed-on faults old mid new (one.none_failed refl) (other.none_failed none);
    failed = λ event same. elim (other.failed event same) [
      | inl first ↦ inl (HasRisen-earlier (faults (first_disk old)) (faults (first_disk mid)) (faults (first_disk new)) one.first_never_falls first)
      | inr second ↦ inr (HasRisen-earlier (faults (second_disk old)) (faults (second_disk mid)) (faults (second_disk new)) one.second_never_falls second)
    ];
  }
