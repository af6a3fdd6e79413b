-- What entries say, and when a step is full.
use Rattle.std.proofs.Common.{◌≡◌, ◌⊎◌, ℕ, zero, suc, ◌+◌, ◌-◌, ◌≤◌, List, [], ◌∷◌, ◌++◌, length, take, drop, map, Some, None, refl, sym, ◌∙◌, ap, subst, inl, inr, arith, append_assoc, length-append}
use Rattle.std.specs.Prelude.{Option, ℤ}
use Rattle.std.proofs.lemmas.List.{append-nil, take_all, drop_all, length-drop, drop-drop, take-append-le, drop-append-le, take-append-drop}
use Rattle.journal_core.specs.Area.{area_bytes, records, record_bytes}
use Rattle.journal_core.proofs.RecordLemmas.{area_split, record_length}
use Rattle.journal_records.specs.declared.event.Event.{Event}
use Rattle.access_history.specs.declared.request.StepRequest.{StepRequest}
use Rattle.access_history.specs.declared.reply.StepReply.{StepReply}
use Rattle.access_history.specs.Base.{BaseView}
use Rattle.access_history.specs.Replay.{next_state, replay}
use Rattle.access_history.specs.Lawful.{IsLawful}
use Rattle.access_history.proofs.AnswerLemmas.{one_answer}
use Rattle.journal_records.specs.EventSpelling.{event_spelling}
use Rattle.pcfs_store.specs.declared.reply.StoreReply.{StoreReply}
use Rattle.pcfs_store.specs.declared.reply.StoreReply.TheVariants.{Full, NoMemory}
use Rattle.checkpoint_image.specs.ImageSpelling.{image_spelling}
use Rattle.pcfs_store.specs.declared.checkpoints.Checkpoint.{Checkpoint}
use Rattle.pcfs_store.specs.StoredHistory.{payloads_of, state_after, area_since}
use Rattle.pcfs_store.specs.StoreView.{StoreView, AnswersIn, authority_of_store, last_after, settled_of, image_since, AreInOrder, IsStore}
use Rattle.pcfs_store.specs.Entries.{StoreEntry, happened, checkpointed, stopped as stop_mark, stop_entries, root_of, merged, entries_of, events_among, checkpoints_among, used_after, used_by}
use Rattle.pcfs_store.specs.Checkpoints.{with_checkpoint}
use Rattle.pcfs_store.proofs.SurvivalLemmas.{order_within, order_above}
use Rattle.pcfs_store.specs.Steps.{IsFullFor, with_event, Steps, answered, kept, full, failed, stopped, without_memory}

-- ---- events among entries

among-append : (xs ys : List StoreEntry) → events_among (xs ++ ys) ≡ events_among xs ++ events_among ys
among-append [] ys = refl
among-append (happened event ∷ xs) ys = ap (λ (l : List Event). event ∷ l) (among-append xs ys)
among-append (checkpointed pass ∷ xs) ys = among-append xs ys
among-append (stop_mark pass met ∷ xs) ys = among-append xs ys

among-happened : (events : List Event) → events_among (map happened events) ≡ events
among-happened [] = refl
among-happened (event ∷ events) = ap (λ (l : List Event). event ∷ l) (among-happened events)

among-stop : (stop : Option ℕ) (met : Option Event) → events_among (stop_entries stop met) ≡ []
among-stop None met = refl
among-stop (Some pass) met = refl

among-merged : (before : ℕ) (events : List Event) (checkpoints : List Checkpoint) → events_among (merged before events checkpoints) ≡ events
among-merged before events [] = among-happened events
among-merged before events (checkpoint ∷ checkpoints) =
    let some = checkpoint.after - before in
    among-append (map happened (take some events)) (checkpointed checkpoint.pass ∷ merged checkpoint.after (drop some events) checkpoints)
    ∙ ap (λ (l : List Event). l ++ events_among (merged checkpoint.after (drop some events) checkpoints)) (among-happened (take some events))
    ∙ ap (λ (l : List Event). take some events ++ l) (among-merged checkpoint.after (drop some events) checkpoints)
    ∙ take-append-drop some events

pub events-entries : (events : List Event) (checkpoints : List Checkpoint) (stop : Option ℕ) (met : Option Event) → events_among (merged 0 events checkpoints ++ stop_entries stop met) ≡ events
events-entries events checkpoints stop met =
    among-append (merged 0 events checkpoints) (stop_entries stop met)
    ∙ ap (λ (l : List Event). l ++ events_among (stop_entries stop met)) (among-merged 0 events checkpoints)
    ∙ ap (λ (l : List Event). events ++ l) (among-stop stop met)
    ∙ append-nil events

-- ---- checkpoints among entries

count-append : (xs ys : List StoreEntry) → checkpoints_among (xs ++ ys) ≡ checkpoints_among xs + checkpoints_among ys
count-append [] ys = omega arith
count-append (happened event ∷ xs) ys = count-append xs ys
count-append (checkpointed pass ∷ xs) ys = let rest = count-append xs ys in omega (arith, rest)
count-append (stop_mark pass met ∷ xs) ys = count-append xs ys

count-happened : (events : List Event) → checkpoints_among (map happened events) ≡ 0
count-happened [] = refl
count-happened (event ∷ events) = count-happened events

count-stop : (stop : Option ℕ) (met : Option Event) → checkpoints_among (stop_entries stop met) ≡ 0
count-stop None met = refl
count-stop (Some pass) met = refl

count-merged : (before : ℕ) (events : List Event) (checkpoints : List Checkpoint) → checkpoints_among (merged before events checkpoints) ≡ length checkpoints
count-merged before events [] = count-happened events
count-merged before events (checkpoint ∷ checkpoints) =
    let some = checkpoint.after - before in
    let parts = count-append (map happened (take some events)) (checkpointed checkpoint.pass ∷ merged checkpoint.after (drop some events) checkpoints) in
    let rest = count-merged checkpoint.after (drop some events) checkpoints in
    omega (arith, parts, rest, count-happened (take some events))

pub generation-entries : {D : Type 0} (s : StoreView D) → IsStore s → s.generation ≡ (root_of s).generation + checkpoints_among (entries_of s)
generation-entries s store =
    let parts = count-append (merged 0 s.events s.checkpoints) (stop_entries s.stop s.met) in
    let all = count-merged 0 s.events s.checkpoints in
    omega (arith, parts, all, count-stop s.stop s.met, store.counted)

-- ---- bytes of the area

pub area-length : (generation : ℕ) (image : List ℕ) (payloads : List (List ℕ)) → length (area_bytes generation image payloads) ≡ 24 + length image + length (records payloads)
area-length generation image payloads =
    omega (arith, ap length (area_split generation image payloads), length-append (area_bytes generation image []) (records payloads), ap length (append-nil image))

used-append : (state : BaseView) (used : ℕ) (xs ys : List StoreEntry) → used_after state used (xs ++ ys) ≡ used_after (replay state (events_among xs)) (used_after state used xs) ys
used-append state used [] ys = refl
used-append state used (happened event ∷ xs) ys = used-append (next_state state event) (used + (5 + length (event_spelling event))) xs ys
used-append state used (checkpointed pass ∷ xs) ys = used-append state (24 + length (image_spelling state)) xs ys
used-append state used (stop_mark pass met ∷ xs) ys = used-append state used xs ys

used-happened : (state : BaseView) (used : ℕ) (events : List Event) → used_after state used (map happened events) ≡ used + length (records (payloads_of events))
used-happened state used [] = omega arith
used-happened state used (event ∷ events) =
    let rest = used-happened (next_state state event) (used + (5 + length (event_spelling event))) events in
    omega (arith, rest, record_length (event_spelling event), length-append (record_bytes (event_spelling event)) (records (payloads_of events)))

used-stop : (state : BaseView) (used : ℕ) (stop : Option ℕ) (met : Option Event) → used_after state used (stop_entries stop met) ≡ used
used-stop state used None met = refl
used-stop state used (Some pass) met = refl

-- the area after these checkpoints of a history
abbrev area_at : ℕ → List ℕ → BaseView → List Event → List Checkpoint → ℕ → List ℕ
area_at generation opened state events checkpoints settled = area_since generation (image_since opened (state_after state events settled) checkpoints) events settled

-- the state after some first events, and then some
after-both : (state : BaseView) (some more : ℕ) (events : List Event) → state_after (state_after state events some) (drop some events) more ≡ state_after state events (some + more)
after-both state zero more events = ap (state_after state events) (let same : more ≡ 0 + more = omega arith in same)
after-both state (suc some) more [] = ap (replay state) (take_all more [] (omega arith) ∙ sym (take_all (suc some + more) [] (omega arith)))
after-both state (suc some) more (event ∷ events) =
    after-both (next_state state event) some more events ∙ ap (state_after state (event ∷ events)) (let same : suc (some + more) ≡ suc some + more = omega arith in same)

-- after a checkpoint and others, the image is that of the state at the last
image-last : (state : BaseView) (events : List Event) (before more : ℕ) (checkpoints : List Checkpoint) → more ≡ last_after before checkpoints - before →
    image_since (image_spelling state) (state_after state events more) checkpoints ≡ image_spelling (state_after state events more)
image-last state events before more [] is = ap (λ (n : ℕ). image_spelling (state_after state events n)) (let none : 0 ≡ more = omega (arith, is) in none)
image-last state events before more (checkpoint ∷ checkpoints) is = refl

used-merged : (generation : ℕ) (opened : List ℕ) (state : BaseView) (before : ℕ) (events : List Event) (most : ℕ) (checkpoints : List Checkpoint) → AreInOrder before most checkpoints →
    used_after state (24 + length opened) (merged before events checkpoints) ≡ length (area_at generation opened state events checkpoints (last_after before checkpoints - before))
used-merged generation opened state before events most [] order =
    used-happened state (24 + length opened) events
    ∙ sym (area-length generation opened (payloads_of events))
    ∙ ap (λ (n : ℕ). length (area_since generation opened events n)) (let none : 0 ≡ before - before = omega arith in none)
used-merged generation opened state before events most (checkpoint ∷ checkpoints) order =
    let some = checkpoint.after - before in
    let last = last_after checkpoint.after checkpoints in
    let more = last - checkpoint.after in
    let above = order_above checkpoint.after most checkpoints order.1 in
    let sum : some + more ≡ last - before = omega (arith, above, order.0) in
    let then : BaseView = state_after state events some in
    let rest : List StoreEntry = merged checkpoint.after (drop some events) checkpoints in
    used-append state (24 + length opened) (map happened (take some events)) (checkpointed checkpoint.pass ∷ rest)
    ∙ ap (λ (es : List Event). used_after (replay state es) (24 + length (image_spelling (replay state es))) rest) (among-happened (take some events))
    ∙ used-merged generation (image_spelling then) then checkpoint.after (drop some events) most checkpoints order.1
    ∙ ap (λ (image : List ℕ). length (area_bytes generation image (payloads_of (drop more (drop some events))))) (image-last then (drop some events) checkpoint.after more checkpoints refl)
    ∙ ap (λ (b : BaseView). length (area_bytes generation (image_spelling b) (payloads_of (drop more (drop some events))))) (after-both state some more events)
    ∙ ap (λ (es : List Event). length (area_bytes generation (image_spelling (state_after state events (some + more))) (payloads_of es))) (drop-drop more some events)
    ∙ ap (λ (n : ℕ). length (area_since generation (image_spelling (state_after state events n)) events n)) sum

pub used-entries : {D : Type 0} (s : StoreView D) → IsStore s → s.used ≡ used_by (root_of s) (entries_of s)
used-entries s store =
    let image_length : ℕ = length s.opened in
    store.used_is
    ∙ ap (λ (n : ℕ). length (area_at s.generation s.opened s.base s.events s.checkpoints n)) (let none : settled_of s ≡ settled_of s - 0 = omega arith in none)
    ∙ sym (used-merged s.generation s.opened s.base 0 s.events (length s.events) s.checkpoints store.in_order)
    ∙ sym (used-stop (replay s.base (events_among (merged 0 s.events s.checkpoints))) (used_after s.base (24 + image_length) (merged 0 s.events s.checkpoints)) s.stop s.met)
    ∙ sym (used-append s.base (24 + image_length) (merged 0 s.events s.checkpoints) (stop_entries s.stop s.met))

-- the same over the root of a store with this base and this image
pub used-since : {D : Type 0} (opening now : StoreView D) → now.base ≡ opening.base → now.opened ≡ opening.opened → IsStore now → now.used ≡ used_by (root_of opening) (entries_of now)
used-since opening now base opened store =
    used-entries now store
    ∙ ap (λ (b : BaseView). used_after b (24 + length now.opened) (entries_of now)) base
    ∙ ap (λ (image : List ℕ). used_after opening.base (24 + length image) (entries_of now)) opened

-- ---- what is added to entries

happened-push : (events : List Event) (event : Event) → map happened (events ++ event ∷ []) ≡ map happened events ++ happened event ∷ []
happened-push [] event = refl
happened-push (first ∷ events) event = ap (λ (l : List StoreEntry). happened first ∷ l) (happened-push events event)

merged-push : (before most : ℕ) (events : List Event) (event : Event) (checkpoints : List Checkpoint) → AreInOrder before most checkpoints → most ≡ before + length events →
    merged before (events ++ event ∷ []) checkpoints ≡ merged before events checkpoints ++ happened event ∷ []
merged-push before most events event [] order is = happened-push events event
merged-push before most events event (checkpoint ∷ checkpoints) order is =
    let some = checkpoint.after - before in
    let above = order_above checkpoint.after most checkpoints order.1 in
    let under = order_within checkpoint.after most checkpoints order.1 in
    let few : some ≤ length events = omega (arith, order.0, above, under, is) in
    let rest : List StoreEntry = merged checkpoint.after (drop some events) checkpoints in
    ap (λ (es : List Event). map happened es ++ checkpointed checkpoint.pass ∷ merged checkpoint.after (drop some (events ++ event ∷ [])) checkpoints) (take-append-le some events (event ∷ []) few)
    ∙ ap (λ (es : List Event). map happened (take some events) ++ checkpointed checkpoint.pass ∷ merged checkpoint.after es checkpoints) (drop-append-le some events (event ∷ []) few)
    ∙ ap (λ (l : List StoreEntry). map happened (take some events) ++ checkpointed checkpoint.pass ∷ l)
    (merged-push checkpoint.after most (drop some events) event checkpoints order.1 (let long = length-drop some events in omega (arith, long, few, order.0, is)))
    ∙ sym (append_assoc (map happened (take some events)) (checkpointed checkpoint.pass ∷ rest) (happened event ∷ []))

merged-mark : (before most : ℕ) (events : List Event) (mark : Checkpoint) (checkpoints : List Checkpoint) → AreInOrder before most checkpoints → most ≡ before + length events → mark.after ≡ most →
    merged before events (checkpoints ++ mark ∷ []) ≡ merged before events checkpoints ++ checkpointed mark.pass ∷ []
merged-mark before most events mark [] order is at =
    let all : length events ≤ mark.after - before = omega (arith, is, at) in
    ap (λ (es : List Event). map happened es ++ checkpointed mark.pass ∷ map happened (drop (mark.after - before) events)) (take_all (mark.after - before) events all)
    ∙ ap (λ (es : List Event). map happened events ++ checkpointed mark.pass ∷ map happened es) (drop_all (mark.after - before) events all)
merged-mark before most events mark (checkpoint ∷ checkpoints) order is at =
    let some = checkpoint.after - before in
    let above = order_above checkpoint.after most checkpoints order.1 in
    let under = order_within checkpoint.after most checkpoints order.1 in
    let rest : List StoreEntry = merged checkpoint.after (drop some events) checkpoints in
    ap (λ (l : List StoreEntry). map happened (take some events) ++ checkpointed checkpoint.pass ∷ l)
    (merged-mark checkpoint.after most (drop some events) mark checkpoints order.1 (let long = length-drop some events in omega (arith, long, order.0, above, under, is)) at)
    ∙ sym (append_assoc (map happened (take some events)) (checkpointed checkpoint.pass ∷ rest) (checkpointed mark.pass ∷ []))

no-stop : (entries more : List StoreEntry) (stop : Option ℕ) (met : Option Event) → stop ≡ None → (entries ++ more) ++ stop_entries stop met ≡ (entries ++ stop_entries stop met) ++ more
no-stop entries more None met none = append-nil (entries ++ more) ∙ ap (λ (l : List StoreEntry). l ++ more) (sym (append-nil entries))
no-stop entries more (Some pass) met none = absurd cc

module _ {D : Type 0} (s : StoreView D) (running : s.stop ≡ None) where
  -- an event that is kept, a checkpoint that is made, and a disk that fails add their entry at the end
  pub entries-kept : (event : Event) (active : D) → IsStore s → entries_of (with_event s event active) ≡ entries_of s ++ happened event ∷ []
  entries-kept event active store =
      ap (λ (l : List StoreEntry). l ++ stop_entries s.stop s.met) (merged-push 0 (length s.events) s.events event s.checkpoints store.in_order (omega arith))
      ∙ no-stop (merged 0 s.events s.checkpoints) (happened event ∷ []) s.stop s.met running

  pub entries-made : (pass : ℕ) (active : D) → IsStore s → entries_of (with_checkpoint s pass active) ≡ entries_of s ++ checkpointed pass ∷ []
  entries-made pass active store =
      ap (λ (l : List StoreEntry). l ++ stop_entries s.stop s.met) (merged-mark 0 (length s.events) s.events (record { after = length s.events; pass = pass }) s.checkpoints store.in_order (omega arith) refl)
      ∙ no-stop (merged 0 s.events s.checkpoints) (checkpointed pass ∷ []) s.stop s.met running

  pub entries-stopped : (active other : D) (pass : ℕ) (met : Option Event) → entries_of (record s { active = active; other = other; stop = Some pass; met = met }) ≡ entries_of s ++ stop_mark pass met ∷ []
  entries-stopped active other pass met =
      sym (ap (λ (o : Option ℕ). (merged 0 s.events s.checkpoints ++ stop_entries o s.met) ++ stop_mark pass met ∷ []) running
      ∙ ap (λ (l : List StoreEntry). l ++ stop_mark pass met ∷ []) (append-nil (merged 0 s.events s.checkpoints)))

-- ---- full

not_none : (event : Event) → ◌≡◌ {A = Option Event} (Some event) None → ⊥
not_none event e = cc

some_event : (event other : Event) → ◌≡◌ {A = Option Event} (Some event) (Some other) → event ≡ other
some_event event other e = cc

none_some : (o : Option ℕ) (pass : ℕ) → o ≡ None → o ≡ Some pass → ⊥
none_some o pass none some = cc

module _ {D : Type 0} (faults : D → ℕ) (old : StoreView D) (pass : ℕ) (clock : ℤ) (request : StepRequest) (reply : StepReply) (event : Event)
    (lawful : IsLawful (authority_of_store old) old.base old.events) (running : old.stop ≡ None) (answers : AnswersIn old pass clock request reply (Some event)) (is_full : IsFullFor old event) where
  same : (other : StepReply) (found : Option Event) → AnswersIn old pass clock request other found → ◌≡◌ {A = Option Event} (Some event) found
  same other found there = (one_answer (authority_of_store old) old.base old.events pass clock request reply other (Some event) found lawful answers there).1

  by : (told : StoreReply) (new : StoreView D) → Steps faults old pass clock request told new → (told ≡ Full) ⊎ (told ≡ NoMemory)
  by _ _ (answered other goes there) = absurd (not_none event (same other None there))
  by _ _ (kept other found active goes there fits stood) = absurd (fits (subst (IsFullFor old) (some_event event found (same other (Some found) there)) is_full))
  by _ _ (full other found goes there fits) = inl refl
  by _ _ (failed other found active goes there fits risen) = absurd (fits (subst (IsFullFor old) (some_event event found (same other (Some found) there)) is_full))
  by _ _ (stopped earlier stop) = absurd (none_some old.stop earlier running stop)
  by _ _ (without_memory goes) = inr refl

pub full_or_without_memory : {D : Type 0} (faults : D → ℕ) (old new : StoreView D) (pass : ℕ) (clock : ℤ) (request : StepRequest) (reply : StepReply) (event : Event) (told : StoreReply)
    → IsLawful (authority_of_store old) old.base old.events → old.stop ≡ None → AnswersIn old pass clock request reply (Some event) → IsFullFor old event → Steps faults old pass clock request told new
    → (told ≡ Full) ⊎ (told ≡ NoMemory)
full_or_without_memory faults old new pass clock request reply event told lawful running answers is_full steps = by faults old pass clock request reply event lawful running answers is_full told new steps
