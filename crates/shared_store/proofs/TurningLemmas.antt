-- What a store does in a turn, as a turn over its entries.
use Rattle.std.proofs.Common.{◌≡◌, ◌∙◌, inl, inr, ℕ, ◌+◌, ◌-◌, ◌^◌, ◌<◌, ◌≤◌, length, length-append, arith, List, [], ◌∷◌, ◌++◌, take, drop, map, append_assoc, Bool, true, false, Option, Some, None, refl, sym, ap, subst, append-nil}
use Rattle.std.specs.Prelude.{ℤ, ◌↔◌, IsTrue, IsSome, is_some}
use Rattle.std.proofs.lemmas.Bool.{false≢true}
use Rattle.policy_statement.specs.Messages.{login_message}
use Rattle.policy_statement.specs.Ring.{KeyView, is_accepted}
use Rattle.proof_verifier.specs.declared.cites.Cite.{Cite}
use Rattle.journal_records.specs.declared.event.Event.{Event}
use Rattle.access_history.specs.declared.request.StepRequest.{StepRequest}
use Rattle.access_history.specs.declared.reply.StepReply.{StepReply}
use Rattle.access_history.specs.declared.reply.StepReply.TheVariants.{Absent, Rejected}
use Rattle.access_history.specs.declared.reply.Rejection.TheVariants.{BadSignature}
use Rattle.access_history.specs.Books.{book_of}
use Rattle.access_history.specs.Base.{BaseView}
use Rattle.access_history.specs.Answer.{Answers}
use Rattle.access_history.specs.Citing.{AreFound, IsAbsent}
use Rattle.access_history.specs.History.{authority_with}
use Rattle.access_history.specs.Replay.{replay}
use Rattle.op_gate.specs.declared.cite.Citation.{Citation}
use Rattle.op_gate.specs.declared.cite.Citation.TheVariants as citations
use Rattle.op_gate.specs.Citations.{GivesCitation}
use Rattle.op_gate.specs.Decision.{GateView}
use Rattle.pcfs_store.specs.declared.reply.StoreReply.{StoreReply}
use Rattle.pcfs_store.specs.Entries.{StoreEntry, happened, checkpointed, stopped, stop_entries, merged, root_of, entries_of, state_of_entries, checkpoints_among, used_by}
use Rattle.pcfs_store.specs.declared.checkpoints.Checkpoint.{Checkpoint}
use Rattle.pcfs_store.specs.StoreView.{StoreView, AnswersIn, IsStore}
use Rattle.pcfs_store.specs.StoredHistory.{IsFull}
use Rattle.checkpoint_image.specs.ImageSpelling.{image_spelling}
use Rattle.journal_core.specs.Area.{area_limit}
use Rattle.pcfs_store.specs.declared.reply.CheckpointReply.{CheckpointReply}
use Rattle.pcfs_store.specs.declared.reply.CheckpointReply.TheVariants as checkpoint_replies
use Rattle.pcfs_store.specs.Checkpoints.{IsFullForCheckpoint, MakesCheckpoint}
use Rattle.pcfs_store.specs.Checkpoints as makes
use Rattle.pcfs_store.specs.Steps.{IsFullFor, Steps}
use Rattle.pcfs_store.specs.Steps as steps
use Rattle.pcfs_store.proofs.CountLemmas.{NoneFailed-same, NoneFailed-event, NoneFailed-checkpoint}
use Rattle.pcfs_store.proofs.EntryLemmas.{events-entries, used-since, generation-entries, entries-kept, entries-made, entries-stopped}
use Rattle.session_history.specs.declared.request.TurnRequest.{TurnRequest}
use Rattle.session_history.specs.declared.request.TurnRequest.TheVariants as requests
use Rattle.session_history.specs.declared.reply.TurnReply.{TurnReply}
use Rattle.session_history.specs.declared.reply.TurnReply.TheVariants as turn_replies
use Rattle.session_history.specs.Passes.{has_stop}
use Rattle.session_history.specs.Turn.{StorePass, authority_of_root, IsFullAfter, Turn}
use Rattle.session_history.specs.Turn as turns
use Rattle.shared_store.specs.GoesOn.{HasGoneOn}
use Rattle.shared_store.specs.OpenedView.{OpenedView}
use Rattle.shared_store.specs.Turning.{turn_reply, checkpoint_reply, pass_at, HasTurned}
use Rattle.shared_store.proofs.GoesOnLemmas.{none_some}

-- ---- entries of a store

stop_after : (events : List Event) (rest : List StoreEntry) → has_stop (map happened events ++ rest) ≡ has_stop rest
stop_after [] rest = refl
stop_after (event ∷ events) rest = stop_after events rest

stop_merged : (before : ℕ) (events : List Event) (checkpoints : List Checkpoint) (rest : List StoreEntry) → has_stop (merged before events checkpoints ++ rest) ≡ has_stop rest
stop_merged before events [] rest = stop_after events rest
stop_merged before events (checkpoint ∷ checkpoints) rest =
    let some = take (checkpoint.after - before) events in
    let others = merged checkpoint.after (drop (checkpoint.after - before) events) checkpoints in
    ap has_stop (append_assoc (map happened some) (checkpointed checkpoint.pass ∷ others) rest)
    ∙ stop_after some (checkpointed checkpoint.pass ∷ (others ++ rest))
    ∙ stop_merged checkpoint.after (drop (checkpoint.after - before) events) checkpoints rest

stop_last : (stop : Option ℕ) (met : Option Event) → has_stop (stop_entries stop met) ≡ is_some stop
stop_last None met = refl
stop_last (Some pass) met = refl

stop_among : {D : Type 0} (s : StoreView D) → has_stop (entries_of s) ≡ is_some s.stop
stop_among s = stop_merged 0 s.events s.checkpoints (stop_entries s.stop s.met) ∙ stop_last s.stop s.met

pub runs : {D : Type 0} (s : StoreView D) → is_some s.stop ≡ false → has_stop (entries_of s) ≡ false
runs s running = stop_among s ∙ running

pub stands : {D : Type 0} (s : StoreView D) → is_some s.stop ≡ true → has_stop (entries_of s) ≡ true
stands s stop = stop_among s ∙ stop

some_stop : (stop : Option ℕ) → is_some stop ≡ true → (pass : ℕ) × (stop ≡ Some pass)
some_stop None is = absurd (false≢true is)
some_stop (Some pass) is = (pass, refl)

-- a store is stopped if its entries have a mark
pub stop_of : {D : Type 0} (s : StoreView D) → has_stop (entries_of s) ≡ true → (pass : ℕ) × (s.stop ≡ Some pass)
stop_of s mark = some_stop s.stop (sym (stop_among s) ∙ mark)

-- what a store says of its stop
pub is_stopped : (stop : Option ℕ) (found : Bool) → IsTrue found ↔ IsSome stop → found ≡ true → is_some stop ≡ true
is_stopped stop found says is = says.0 is

pub is_running : (stop : Option ℕ) (found : Bool) → IsTrue found ↔ IsSome stop → found ≡ false → is_some stop ≡ false
is_running None found says is = refl
is_running (Some pass) found says is = absurd (false≢true (sym is ∙ says.1 refl))

one_pass : (pass stopper : ℕ) → ◌≡◌ {A = Option ℕ} (Some pass) (Some stopper) → stopper ≡ pass
one_pass pass stopper is = cc

module _ {D : Type 0} (clock : D → ℕ) (left_since : D → ℕ → List ℕ → Type 0) (image : D → Option (List ℕ)) (faults : D → ℕ) (opening now : StoreView D) (g : HasGoneOn clock left_since image faults opening now) where
  -- the state to which the entries lead is the store's
  pub state_is : state_of_entries (root_of opening) (entries_of now) ≡ replay now.base now.events
  state_is = ap (replay opening.base) (events-entries now.events now.checkpoints now.stop now.met) ∙ ap (λ (b : BaseView). replay b now.events) (sym g.base_stays)

  there : (pass : ℕ) (moment : ℤ) (request : StepRequest) (reply : StepReply) (event : Option Event) → AnswersIn now pass moment request reply event →
      Answers (authority_of_root (root_of opening)) (state_of_entries (root_of opening) (entries_of now)) pass moment request reply event
  there pass moment request reply event answers =
      subst (λ (s : BaseView). Answers (authority_with opening.key opening.ring) s pass moment request reply event) (sym state_is)
      (subst (λ (r : List KeyView). Answers (authority_with opening.key r) (replay now.base now.events) pass moment request reply event) g.ring_stays
      (subst (λ (k : List ℕ). Answers (authority_with k now.ring) (replay now.base now.events) pass moment request reply event) g.key_stays answers))

  -- and the bytes that they ask for are those of its area
  used_is : IsStore now → now.used ≡ used_by (root_of opening) (entries_of now)
  used_is store = used-since opening now g.base_stays g.opened_stays store

  full_there : (event : Event) → IsStore now → IsFullFor now event → IsFullAfter (root_of opening) (entries_of now) (happened event)
  full_there event store is_full =
      subst (λ (s : BaseView). IsFull (used_by (root_of opening) (entries_of now)) s.count event) (sym state_is) (subst (λ (n : ℕ). IsFull n (replay now.base now.events).count event) (used_is store) is_full)

  full_here : (event : Event) → IsStore now → IsFullAfter (root_of opening) (entries_of now) (happened event) → IsFullFor now event
  full_here event store is_full =
      subst (λ (n : ℕ). IsFull n (replay now.base now.events).count event) (sym (used_is store)) (subst (λ (s : BaseView). IsFull (used_by (root_of opening) (entries_of now)) s.count event) state_is is_full)

  -- a step
  by_step : (new : StoreView D) (pass : ℕ) (moment : ℤ) (request : StepRequest) (reply : StoreReply) → IsStore now → Steps faults now pass moment request reply new →
      HasTurned faults (λ _ m. m ≡ moment) (requests.Step request) (record { store = now; opening = opening }) pass (record { store = new; opening = opening }) (turn_reply reply)
  by_step _ pass moment request _ store (steps.answered reply running answers) = record {
    given = [];
    opening_stays = refl;
    grows = sym (append-nil (entries_of now));
    turn = turns.answered moment (turn_replies.Step reply) (runs now (ap is_some running)) refl (turns.steps request reply None (there pass moment request reply None answers));
    none_failed = λ runs. NoneFailed-same faults now;
    stops = λ stopper was is. none_some now.stop stopper was is;
  }
  by_step _ pass moment request _ store (steps.kept reply event active running answers room stood) = record {
    given = happened event ∷ [];
    opening_stays = refl;
    grows = entries-kept now running event active store;
    turn = turns.kept moment (turn_replies.Step reply) (happened event) (runs now (ap is_some running)) refl (turns.steps request reply (Some event) (there pass moment request reply (Some event) answers)) (λ is_full. room (full_here event store is_full));
    none_failed = λ runs. NoneFailed-event faults now event active stood;
    stops = λ stopper was is. none_some now.stop stopper was is;
  }
  by_step _ pass moment request _ store (steps.full reply event running answers is_full) = record {
    given = [];
    opening_stays = refl;
    grows = sym (append-nil (entries_of now));
    turn = turns.full moment (turn_replies.Step reply) (happened event) (runs now (ap is_some running)) refl (turns.steps request reply (Some event) (there pass moment request reply (Some event) answers)) (full_there event store is_full);
    none_failed = λ runs. NoneFailed-same faults now;
    stops = λ stopper was is. none_some now.stop stopper was is;
  }
  by_step _ pass moment request _ store (steps.failed reply event active running answers room risen) = record {
    given = stopped pass (Some event) ∷ [];
    opening_stays = refl;
    grows = entries-stopped now running active now.other pass (Some event);
    turn = turns.failed moment (turn_replies.Step reply) (happened event) (runs now (ap is_some running)) refl (turns.steps request reply (Some event) (there pass moment request reply (Some event) answers)) (λ is_full. room (full_here event store is_full));
    none_failed = λ runs. none_some (Some pass) pass runs refl;
    stops = λ stopper was is. (one_pass pass stopper is, risen);
  }
  by_step _ pass moment request _ store (steps.stopped earlier is) = record {
    given = [];
    opening_stays = refl;
    grows = sym (append-nil (entries_of now));
    turn = turns.was_stopped (stands now (ap is_some is));
    none_failed = λ runs. NoneFailed-same faults now;
    stops = λ stopper was now_is. none_some now.stop stopper was now_is;
  }
  by_step _ pass moment request _ store (steps.without_memory running) = record {
    given = [];
    opening_stays = refl;
    grows = sym (append-nil (entries_of now));
    turn = turns.without_memory;
    none_failed = λ runs. NoneFailed-same faults now;
    stops = λ stopper was is. none_some now.stop stopper was is;
  }

  -- a checkpoint
  state_there : (P : BaseView → Type 0) → P (replay now.base now.events) → P (state_of_entries (root_of opening) (entries_of now))
  state_there P here = subst P (sym state_is) here

  -- the generation of the root is that of the store less its checkpoints
  generation_is : IsStore now → now.generation ≡ (root_of opening).generation + checkpoints_among (entries_of now)
  generation_is store = generation-entries now store ∙ ap (λ (n : ℕ). n + checkpoints_among (entries_of now)) root_is
    where
      root_is : now.generation - length now.checkpoints ≡ opening.generation - length opening.checkpoints
      root_is =
          let more = length-append opening.checkpoints g.checkpoints_go_on.0 in
          let all : length (opening.checkpoints ++ g.checkpoints_go_on.0) ≡ length now.checkpoints = ap length g.checkpoints_go_on.1 in
          omega (arith, more, all, g.generation_grows)

  checkpoint_there : (pass : ℕ) → IsStore now → IsFullForCheckpoint now → IsFullAfter (root_of opening) (entries_of now) (checkpointed pass)
  checkpoint_there pass store (inl over) = inl (state_there (λ s. area_limit < length (image_spelling s) + 25) over)
  checkpoint_there pass store (inr last) = inr (subst (λ (n : ℕ). 2 ^ 48 - 1 ≤ n) (generation_is store) last)

  checkpoint_here : (pass : ℕ) → IsStore now → IsFullAfter (root_of opening) (entries_of now) (checkpointed pass) → IsFullForCheckpoint now
  checkpoint_here pass store (inl over) = inl (subst (λ (s : BaseView). area_limit < length (image_spelling s) + 25) state_is over)
  checkpoint_here pass store (inr last) = inr (subst (λ (n : ℕ). 2 ^ 48 - 1 ≤ n) (sym (generation_is store)) last)

  by_checkpoint : (pass : ℕ) (new : StoreView D) (moment : ℤ) (reply : CheckpointReply) → IsStore now → MakesCheckpoint faults now pass reply new →
      HasTurned faults (λ _ m. m ≡ moment) requests.Checkpoint (record { store = now; opening = opening }) pass (record { store = new; opening = opening }) (checkpoint_reply reply)
  by_checkpoint pass _ moment _ store (makes.made active running fits stood) = record {
    given = checkpointed pass ∷ [];
    opening_stays = refl;
    grows = entries-made now running pass active store;
    turn = turns.kept moment turn_replies.Checkpointed (checkpointed pass) (runs now (ap is_some running)) refl turns.makes (λ is_full. fits (checkpoint_here pass store is_full));
    none_failed = λ runs. NoneFailed-checkpoint faults now (makes.with_checkpoint now pass active) pass checkpoint_replies.Checkpointed (makes.made active running fits stood) runs;
    stops = λ stopper was is. none_some now.stop stopper was is;
  }
  by_checkpoint pass _ moment _ store (makes.full running over) = record {
    given = [];
    opening_stays = refl;
    grows = sym (append-nil (entries_of now));
    turn = turns.full moment turn_replies.Checkpointed (checkpointed pass) (runs now (ap is_some running)) refl turns.makes (checkpoint_there pass store over);
    none_failed = λ runs. NoneFailed-same faults now;
    stops = λ stopper was is. none_some now.stop stopper was is;
  }
  by_checkpoint pass _ moment _ store (makes.failed other running fits risen) = record {
    given = stopped pass None ∷ [];
    opening_stays = refl;
    grows = entries-stopped now running now.active other pass None;
    turn = turns.failed moment turn_replies.Checkpointed (checkpointed pass) (runs now (ap is_some running)) refl turns.makes (λ is_full. fits (checkpoint_here pass store is_full));
    none_failed = λ runs. none_some (Some pass) pass runs refl;
    stops = λ stopper was is. (one_pass pass stopper is, risen);
  }
  by_checkpoint pass _ moment _ store (makes.stopped earlier is) = record {
    given = [];
    opening_stays = refl;
    grows = sym (append-nil (entries_of now));
    turn = turns.was_stopped (stands now (ap is_some is));
    none_failed = λ runs. NoneFailed-same faults now;
    stops = λ stopper was now_is. none_some now.stop stopper was now_is;
  }
  by_checkpoint pass _ moment _ store (makes.without_memory running) = record {
    given = [];
    opening_stays = refl;
    grows = sym (append-nil (entries_of now));
    turn = turns.without_memory;
    none_failed = λ runs. NoneFailed-same faults now;
    stops = λ stopper was is. none_some now.stop stopper was is;
  }

  -- a look at the store, which adds nothing
  abbrev Looks : TurnRequest → TurnReply → Type 0
  Looks request reply = (pass : ℕ) (moment : ℤ) → Turn (λ _ m. m ≡ moment) (pass_at opening pass) (entries_of now) request reply []

  pub look_stopped : (request : TurnRequest) → is_some now.stop ≡ true → Looks request turn_replies.Stopped
  look_stopped request stop pass moment = turns.was_stopped (stands now stop)

  pub look_no_memory : (request : TurnRequest) → Looks request turn_replies.NoMemory
  look_no_memory request pass moment = turns.without_memory

  pub look_cited : (numbers : List ℕ) (cited : List Cite) → is_some now.stop ≡ false → AreFound (book_of (replay now.base now.events)) numbers cited → Looks (requests.Cite numbers) (turn_replies.Cited cited)
  look_cited numbers cited running found pass moment =
      turns.answered moment (turn_replies.Cited cited) (runs now running) refl (turns.cites numbers cited (subst (λ (s : BaseView). AreFound (book_of s) numbers cited) (sym state_is) found))

  pub look_absent : (numbers : List ℕ) (number : ℕ) → is_some now.stop ≡ false → IsAbsent (book_of (replay now.base now.events)) numbers number → Looks (requests.Cite numbers) (turn_replies.Step (Absent number))
  look_absent numbers number running absent pass moment =
      turns.answered moment (turn_replies.Step (Absent number)) (runs now running) refl (turns.cites_none numbers number (subst (λ (s : BaseView). IsAbsent (book_of s) numbers number) (sym state_is) absent))

  -- what the gate says of numbers
  citation_here : (gate : GateView) (shown numbers : List ℕ) (citation given : Citation) → gate ≡ record { key = now.key; ring = now.ring; base = now.base; events = now.events; pending = now.met } → shown ≡ numbers → citation ≡ given →
      GivesCitation (book_of (replay gate.base gate.events)) shown citation → GivesCitation (book_of (replay now.base now.events)) numbers given
  citation_here gate shown numbers citation given gate_is shown_is is gives =
      subst (λ (c : Citation). GivesCitation (book_of (replay now.base now.events)) numbers c) is
      (subst (λ (ns : List ℕ). GivesCitation (book_of (replay now.base now.events)) ns citation) shown_is
      (subst (λ (h : GateView). GivesCitation (book_of (replay h.base h.events)) shown citation) gate_is gives))

  pub look_told_cited : (gate : GateView) (shown numbers : List ℕ) (citation : Citation) (cited : List Cite) → is_some now.stop ≡ false → gate ≡ record { key = now.key; ring = now.ring; base = now.base; events = now.events; pending = now.met } → shown ≡ numbers →
      citation ≡ citations.Cited cited → GivesCitation (book_of (replay gate.base gate.events)) shown citation → Looks (requests.Cite numbers) (turn_replies.Cited cited)
  look_told_cited gate shown numbers citation cited running gate_is shown_is is gives = look_cited numbers cited running (citation_here gate shown numbers citation (citations.Cited cited) gate_is shown_is is gives)

  pub look_told_absent : (gate : GateView) (shown numbers : List ℕ) (citation : Citation) (number : ℕ) → is_some now.stop ≡ false → gate ≡ record { key = now.key; ring = now.ring; base = now.base; events = now.events; pending = now.met } → shown ≡ numbers →
      citation ≡ citations.Absent number → GivesCitation (book_of (replay gate.base gate.events)) shown citation → Looks (requests.Cite numbers) (turn_replies.Step (Absent number))
  look_told_absent gate shown numbers citation number running gate_is shown_is is gives = look_absent numbers number running (citation_here gate shown numbers citation (citations.Absent number) gate_is shown_is is gives)

  -- what the ring says of a login
  pub accepted_shown : (gate : GateView) (ring : List KeyView) (name who text nonce shown signature : List ℕ) (accepted : Bool) → gate ≡ record { key = now.key; ring = now.ring; base = now.base; events = now.events; pending = now.met } → ring ≡ gate.ring → name ≡ who →
      text ≡ login_message who nonce → shown ≡ signature → accepted ≡ is_accepted ring name text shown → is_accepted now.ring who (login_message who nonce) signature ≡ accepted
  accepted_shown gate ring name who text nonce shown signature accepted gate_is ring_is name_is text_is shown_is told =
      subst (λ (r : List KeyView). is_accepted r who (login_message who nonce) signature ≡ accepted) (ring_is ∙ ap (λ (h : GateView). h.ring) gate_is)
      (subst (λ (n : List ℕ). is_accepted ring n (login_message who nonce) signature ≡ accepted) name_is
      (subst (λ (t : List ℕ). is_accepted ring name t signature ≡ accepted) text_is (subst (λ (s : List ℕ). is_accepted ring name text s ≡ accepted) shown_is (sym told))))

  accepted_there : (who nonce signature : List ℕ) (accepted : Bool) → is_accepted now.ring who (login_message who nonce) signature ≡ accepted → is_accepted (root_of opening).ring who (login_message who nonce) signature ≡ accepted
  accepted_there who nonce signature accepted is = ap (λ (r : List KeyView). is_accepted r who (login_message who nonce) signature) (sym g.ring_stays) ∙ is

  pub look_logged_in : (who nonce signature : List ℕ) → is_some now.stop ≡ false → is_accepted now.ring who (login_message who nonce) signature ≡ true → Looks (requests.Login who nonce signature) turn_replies.LoggedIn
  look_logged_in who nonce signature running is pass moment =
      turns.answered moment turn_replies.LoggedIn (runs now running) refl (turns.logs_in who nonce signature (accepted_there who nonce signature true is))

  pub look_rejected : (who nonce signature : List ℕ) → is_some now.stop ≡ false → is_accepted now.ring who (login_message who nonce) signature ≡ false → Looks (requests.Login who nonce signature) (turn_replies.Step (Rejected BadSignature))
  look_rejected who nonce signature running is pass moment =
      turns.answered moment (turn_replies.Step (Rejected BadSignature)) (runs now running) refl (turns.rejects who nonce signature (accepted_there who nonce signature false is))

pub turned_by_checkpoint : {D : Type 0} (clock : D → ℕ) (left_since : D → ℕ → List ℕ → Type 0) (image : D → Option (List ℕ)) (faults : D → ℕ) (opening old new : StoreView D) (pass : ℕ) (moment : ℤ) (reply : CheckpointReply) (told : TurnReply) →
    HasGoneOn clock left_since image faults opening old → IsStore old → MakesCheckpoint faults old pass reply new → told ≡ checkpoint_reply reply →
    HasTurned faults (λ _ m. m ≡ moment) requests.Checkpoint (record { store = old; opening = opening }) pass (record { store = new; opening = opening }) told
turned_by_checkpoint clock left_since image faults opening old new pass moment reply told g store checkpoint is =
    subst (λ (r : TurnReply). HasTurned faults (λ _ m. m ≡ moment) requests.Checkpoint (record { store = old; opening = opening }) pass (record { store = new; opening = opening }) r) (sym is)
    (by_checkpoint clock left_since image faults opening old g pass new moment reply store checkpoint)

pub turned_by_step : {D : Type 0} (clock : D → ℕ) (left_since : D → ℕ → List ℕ → Type 0) (image : D → Option (List ℕ)) (faults : D → ℕ) (opening old new : StoreView D) (pass : ℕ) (moment : ℤ) (request : StepRequest) (reply : StoreReply) (told : TurnReply) →
    HasGoneOn clock left_since image faults opening old → IsStore old → Steps faults old pass moment request reply new → told ≡ turn_reply reply →
    HasTurned faults (λ _ m. m ≡ moment) (requests.Step request) (record { store = old; opening = opening }) pass (record { store = new; opening = opening }) told
turned_by_step clock left_since image faults opening old new pass moment request reply told g store stepped is =
    subst (λ (r : TurnReply). HasTurned faults (λ _ m. m ≡ moment) (requests.Step request) (record { store = old; opening = opening }) pass (record { store = new; opening = opening }) r) (sym is)
    (by_step clock left_since image faults opening old g new pass moment request reply store stepped)

-- a look is a turn that leaves all as it was
pub turned_by_look : {D : Type 0} (faults : D → ℕ) (s : OpenedView D) (pass : ℕ) (moment : ℤ) (asked request : TurnRequest) (reply : TurnReply) → asked ≡ request → ((n : ℕ) (m : ℤ) → Turn (λ _ k. k ≡ m) (pass_at s.opening n) (entries_of s.store) asked reply []) →
    HasTurned faults (λ _ m. m ≡ moment) request s pass s reply
turned_by_look faults s pass moment asked request reply is looks =
    subst (λ (r : TurnRequest). HasTurned faults (λ _ m. m ≡ moment) r s pass s reply) is
    (record {
      given = [];
      opening_stays = refl;
      grows = sym (append-nil (entries_of s.store));
      turn = looks pass moment;
      none_failed = λ runs. NoneFailed-same faults s.store;
      stops = λ stopper was now_is. none_some s.store.stop stopper was now_is;
    })

-- a step is one that was asked for, at the moment that was shown
pub turned_by_request : {D : Type 0} (faults : D → ℕ) (before after : OpenedView D) (pass : ℕ) (shown moment : ℤ) (asked request : TurnRequest) (reply : TurnReply) → shown ≡ moment → asked ≡ request → HasTurned faults (λ _ m. m ≡ shown) asked before pass after reply →
    HasTurned faults (λ _ m. m ≡ moment) request before pass after reply
turned_by_request faults before after pass shown moment asked request reply is same turned =
    subst (λ (k : ℤ). HasTurned faults (λ _ m. m ≡ k) request before pass after reply) is (subst (λ (r : TurnRequest). HasTurned faults (λ _ m. m ≡ shown) r before pass after reply) same turned)

-- the moment was one that the clock gives
pub turn_shown : (gives : List StoreEntry → ℤ → Type 0) (p : StorePass) (before : List StoreEntry) (request : TurnRequest) (moment : ℤ) (reply : TurnReply) (given : List StoreEntry) → gives before moment →
    Turn (λ _ m. m ≡ moment) p before request reply given → Turn gives p before request reply given
turn_shown gives p before request moment _ _ shown (turns.was_stopped is) = turns.was_stopped is
turn_shown gives p before request moment _ _ shown (turns.answered at reply running same answers) = turns.answered at reply running (subst (gives before) (sym same) shown) answers
turn_shown gives p before request moment _ _ shown (turns.full at reply entry running same answers is_full) = turns.full at reply entry running (subst (gives before) (sym same) shown) answers is_full
turn_shown gives p before request moment _ _ shown (turns.kept at reply entry running same answers room) = turns.kept at reply entry running (subst (gives before) (sym same) shown) answers room
turn_shown gives p before request moment _ _ shown (turns.failed at reply entry running same answers room) = turns.failed at reply entry running (subst (gives before) (sym same) shown) answers room
turn_shown gives p before request moment _ _ shown turns.without_memory = turns.without_memory
