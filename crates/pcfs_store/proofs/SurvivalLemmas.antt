-- Bytes that stand for a history, and what survives of a store.
use Rattle.std.proofs.Common.{◌≡◌, ℕ, zero, suc, ◌+◌, ◌<◌, ◌≤◌, List, [], ◌∷◌, ◌++◌, length, take, drop, get_or, map, Some, None, IfSome, Bool, true, false, refl, sym, ◌∙◌, ap, subst, inl, inr, arith, append_assoc, length-append}
use Rattle.std.specs.Prelude.{Option, nat_lt, ◌==◌, if◌then◌else◌}
use Rattle.std.specs.Option.{option_map}
use Rattle.std.specs.Int.{w64, from_be_bytes}
use Rattle.std.proofs.lemmas.Bool.{le-ltb, lt-ltb}
use Rattle.std.proofs.lemmas.List.{take_all, take-append-le, drop-append-le}
use Rattle.journal_core.specs.Area.{area_limit, area_bytes, base_bytes, record_bytes, records, Begins, StandsForBody, IsGeneration, IsArea, generation_of, Closed}
use Rattle.journal_core.proofs.RecordLemmas.{base_generation, base_within, records_push}
use Rattle.journal_core.proofs.ReadingLemmas.{base_begins, opens}
use Rattle.journal_core.proofs.RestsLemmas.{some_same}
use Rattle.journal_records.specs.declared.event.Event.{Event}
use Rattle.access_history.specs.Base.{BaseView}
use Rattle.bl_syntax.proofs.GrantLemmas.{AllByRecursion-push}
use Rattle.journal_records.specs.Passes.{erase}
use Rattle.journal_records.specs.EventSpelling.{event_spelling, IsSpellableEvent}
use Rattle.journal_records.proofs.EventLemmas.{erased_spellable, same_spelling}
use Rattle.access_history.specs.Replay.{replay}
use Rattle.pcfs_store.specs.declared.checkpoints.Checkpoint.{Checkpoint}
use Rattle.pcfs_store.specs.Image.{IsImageOf}
use Rattle.pcfs_store.specs.StoredHistory.{payloads_of, AreSpellable, state_after, area_since, StandsFor, Resumes}
use Rattle.pcfs_store.specs.Newest.{newer, one_of, newest, IsNewestAt, NewestBegins, SurvivesWhole, SurvivesWholeClosed}
use Rattle.pcfs_store.specs.StoreView.{StoreView, HasNothingAdded, first_disk, second_disk, last_after, settled_of, head_of, records_of, image_of, body_of, AreInOrder, IsStore}
use Rattle.pcfs_store.specs.Ready.{IsBehind, IsReady, IsCurrent, IsAtRest, RestsSince, StopsNow, SurvivesCheckpoint}

-- ---- generations

-- the generation of bytes that begin with an area
pub generation_begins : (bytes : List ℕ) (generation : ℕ) (image : List ℕ) (payloads : List (List ℕ)) → IsGeneration generation → length (area_bytes generation image payloads) < area_limit →
    Begins (area_bytes generation image payloads) bytes → generation_of bytes ≡ Some generation
generation_begins bytes generation image payloads generated fits begins =
    let based : Begins (area_bytes generation image []) bytes = base_begins bytes generation image payloads fits begins in
    let open_gate : get_or bytes 0 0 ≡ 1 = opens bytes generation image payloads fits begins in
    let long : 24 + length image ≤ length bytes = base_within bytes generation image based in
    let number : from_be_bytes w64 (take 8 (drop 8 bytes)) ≡ generation = base_generation bytes generation image based (omega (arith, generated.high)) in
    ap (λ (n : ℕ). if n == 1 then (if nat_lt (length bytes) 16 then Some 0 else Some (from_be_bytes w64 (take 8 (drop 8 bytes)))) else None) open_gate
    ∙ ap (λ (b : Bool). if b then Some 0 else Some (from_be_bytes w64 (take 8 (drop 8 bytes)))) (le-ltb (length bytes) 16 (omega (arith, long)))
    ∙ ap Some number

pub generation_stands : (bytes : List ℕ) (generation : ℕ) (base : BaseView) (events : List Event) → StandsFor bytes generation base events → generation_of bytes ≡ Some generation
generation_stands bytes generation base events stands =
    generation_begins bytes generation stands.image (payloads_of events) stands.is_area.generated stands.is_area.fits stands.is_area.stands.front

-- ---- which area counts

newer_first : (generation : ℕ) (other : Option ℕ) → IsBehind false generation other → newer (Some generation) other ≡ Some false
newer_first generation None behind = refl
newer_first generation (Some found) behind = ap Some (le-ltb generation found (omega (arith, behind)))

newer_second : (generation : ℕ) (other : Option ℕ) → IsBehind true generation other → newer other (Some generation) ≡ Some true
newer_second generation None behind = refl
newer_second generation (Some found) behind = ap Some (lt-ltb found generation (omega (arith, behind)))

-- the area that is not older counts
pub newest_active : (second : Bool) (active other : List ℕ) (generation : ℕ) → generation_of active ≡ Some generation → IsBehind second generation (generation_of other) →
    newest (one_of active other second) (one_of other active second) ≡ Some active
newest_active false active other generation is behind =
    ap (option_map (one_of active other)) (ap (λ (o : Option ℕ). newer o (generation_of other)) is ∙ newer_first generation (generation_of other) behind)
newest_active true active other generation is behind =
    ap (option_map (one_of other active)) (ap (λ (o : Option ℕ). newer (generation_of other) o) is ∙ newer_second generation (generation_of other) behind)

-- its place, and its generation
pub newest_at : (second : Bool) (active other : List ℕ) (generation : ℕ) → generation_of active ≡ Some generation → IsBehind second generation (generation_of other) →
    IsNewestAt generation second (one_of active other second) (one_of other active second)
newest_at false active other generation is behind = record {
  place_is = ap (λ (o : Option ℕ). newer o (generation_of other)) is ∙ newer_first generation (generation_of other) behind;
  generation_is = is;
}
newest_at true active other generation is behind = record {
  place_is = ap (λ (o : Option ℕ). newer (generation_of other) o) is ∙ newer_second generation (generation_of other) behind;
  generation_is = is;
}

-- ---- histories in bytes

payloads_push : (events : List Event) (event : Event) → payloads_of (events ++ event ∷ []) ≡ payloads_of events ++ event_spelling event ∷ []
payloads_push [] event = refl
payloads_push (first ∷ events) event = ap (λ (l : List (List ℕ)). event_spelling first ∷ l) (payloads_push events event)

-- the area of one event more
pub area_push : (generation : ℕ) (image : List ℕ) (events : List Event) (event : Event) →
    area_bytes generation image (payloads_of (events ++ event ∷ [])) ≡ area_bytes generation image (payloads_of events) ++ record_bytes (event_spelling event)
area_push generation image events event =
    ap (area_bytes generation image) (payloads_push events event)
    ∙ ap (λ (b : List ℕ). 1 ∷ base_bytes generation image ++ b) (records_push (payloads_of events) (event_spelling event))
    ∙ sym (append_assoc (1 ∷ base_bytes generation image) (records (payloads_of events)) (record_bytes (event_spelling event)))

-- passes are not stored
pub payloads_erased : (events : List Event) → payloads_of (map erase events) ≡ payloads_of events
payloads_erased [] = refl
payloads_erased (event ∷ events) =
    ap (λ (p : List ℕ). p ∷ payloads_of (map erase events)) (same_spelling event) ∙ ap (λ (l : List (List ℕ)). event_spelling event ∷ l) (payloads_erased events)

all_erased : (events : List Event) → AreSpellable events → AreSpellable (map erase events)
all_erased [] spelled = tt
all_erased (event ∷ events) spelled = (erased_spellable event spelled.0, all_erased events spelled.1)

-- what stands for a history stands for it without its passes
pub stands_erased : (bytes : List ℕ) (generation : ℕ) (base : BaseView) (events : List Event) → StandsFor bytes generation base events → StandsFor bytes generation base (map erase events)
stands_erased bytes generation base events stands = record {
  image = stands.image;
  is_image = stands.is_image;
  spelled = all_erased events stands.spelled;
  is_area = subst (λ (l : List (List ℕ)). IsArea bytes generation stands.image l) (sym (payloads_erased events)) stands.is_area;
}

all_dropped : (n : ℕ) (events : List Event) → AreSpellable events → AreSpellable (drop n events)
all_dropped zero events spelled = spelled
all_dropped (suc n) [] spelled = tt
all_dropped (suc n) (event ∷ events) spelled = all_dropped n events spelled.1

-- a whole history is resumed by the state after some first of its events, and the others without their passes
resumes_since : (base : BaseView) (events : List Event) (settled : ℕ) → settled ≤ length events → Resumes (state_after base events settled) (map erase (drop settled events)) base events (length events)
resumes_since base events settled within = record {
  skipped = settled;
  skipped_few = within;
  kept_few = omega arith;
  base_is = refl;
  events_are = ap (λ (es : List Event). map erase (drop settled es)) (sym (take_all (length events) events (omega arith)));
}

-- bytes that stand for the state after some first events and the others, and count: the history survives
pub survives_stands : (base : BaseView) (events : List Event) (settled : ℕ) → settled ≤ length events → (first second bytes : List ℕ) (generation : ℕ) → newest first second ≡ Some bytes →
    StandsFor bytes generation (state_after base events settled) (drop settled events) → SurvivesWhole base events first second
survives_stands base events settled within first second bytes generation counts stands = record {
  bytes = bytes;
  counts = counts;
  generation = generation;
  found_base = state_after base events settled;
  found = map erase (drop settled events);
  stands = stands_erased bytes generation (state_after base events settled) (drop settled events) stands;
  resumes = resumes_since base events settled within;
}

-- what a history has to keep to be told in an area by this image of the state after its first `settled` events
pub record IsTellable (generation : ℕ) (image : List ℕ) (base : BaseView) (events : List Event) (settled : ℕ) : Type 0 where
  pub generated : IsGeneration generation
  pub within : settled ≤ length events
  pub is_image : IsImageOf (state_after base events settled) image
  pub spelled : AreSpellable events
  pub fits : length (area_since generation image events settled) < area_limit

-- ---- checkpoints in order

pub order_within : (least most : ℕ) (checkpoints : List Checkpoint) → AreInOrder least most checkpoints → last_after least checkpoints ≤ most
order_within least most [] order = order
order_within least most (checkpoint ∷ checkpoints) order = order_within checkpoint.after most checkpoints order.1

pub order_above : (least most : ℕ) (checkpoints : List Checkpoint) → AreInOrder least most checkpoints → least ≤ last_after least checkpoints
order_above least most [] order = omega arith
order_above least most (checkpoint ∷ checkpoints) order = let later = order_above checkpoint.after most checkpoints order.1 in omega (arith, order.0, later)

pub order_more : (least most more : ℕ) (checkpoints : List Checkpoint) → most ≤ more → AreInOrder least most checkpoints → AreInOrder least more checkpoints
order_more least most more [] le order = omega (arith, le, order)
order_more least most more (checkpoint ∷ checkpoints) le order = (order.0, order_more checkpoint.after most more checkpoints le order.1)

pub tellable_store : {D : Type 0} (s : StoreView D) → IsStore s → IsTellable s.generation (image_of s) s.base s.events (settled_of s)
tellable_store s store = record {
  generated = store.generated;
  within = order_within 0 (length s.events) s.checkpoints store.in_order;
  is_image = store.is_image;
  spelled = store.spelled;
  fits = subst (λ (n : ℕ). n < area_limit) store.used_is store.fits;
}

-- ---- one event more

-- the state after some first events is the same
pub state_push : (base : BaseView) (events : List Event) (event : Event) (settled : ℕ) → settled ≤ length events → state_after base (events ++ event ∷ []) settled ≡ state_after base events settled
state_push base events event settled within = ap (replay base) (take-append-le settled events (event ∷ []) within)

-- the area has its record more
pub since_push : (generation : ℕ) (image : List ℕ) (events : List Event) (event : Event) (settled : ℕ) → settled ≤ length events →
    area_since generation image (events ++ event ∷ []) settled ≡ area_since generation image events settled ++ record_bytes (event_spelling event)
since_push generation image events event settled within =
    ap (λ (es : List Event). area_bytes generation image (payloads_of es)) (drop-append-le settled events (event ∷ []) within)
    ∙ area_push generation image (drop settled events) event

image_push : (base : BaseView) (image : List ℕ) (events : List Event) (event : Event) (settled : ℕ) → settled ≤ length events → IsImageOf (state_after base events settled) image →
    IsImageOf (state_after base (events ++ event ∷ []) settled) image
image_push base image events event settled within is_image = subst (λ (b : BaseView). IsImageOf b image) (sym (state_push base events event settled within)) is_image

pub tellable_push : (generation : ℕ) (image : List ℕ) (base : BaseView) (events : List Event) (settled : ℕ) (event : Event) → IsTellable generation image base events settled →
    IsSpellableEvent event → length (area_since generation image (events ++ event ∷ []) settled) < area_limit → IsTellable generation image base (events ++ event ∷ []) settled
tellable_push generation image base events settled event told spelled fits = record {
  generated = told.generated;
  within = let more = length-append events (event ∷ []) in omega (arith, told.within, more);
  is_image = image_push base image events event settled told.within told.is_image;
  spelled = AllByRecursion-push IsSpellableEvent events event told.spelled spelled;
  fits = fits;
}

-- ---- what survives

-- bytes of a tellable history stand for its state and its records
pub stands_since : (generation : ℕ) (image : List ℕ) (base : BaseView) (events : List Event) (settled : ℕ) (bytes : List ℕ) → IsTellable generation image base events settled →
    StandsForBody (area_since generation image events settled) bytes → StandsFor bytes generation (state_after base events settled) (drop settled events)
stands_since generation image base events settled bytes told stands = record {
  image = image;
  is_image = told.is_image;
  spelled = all_dropped settled events told.spelled;
  is_area = record { generated = told.generated; fits = told.fits; stands = stands };
}

-- their generation
pub generation_since : (generation : ℕ) (image : List ℕ) (base : BaseView) (events : List Event) (settled : ℕ) (bytes : List ℕ) → IsTellable generation image base events settled →
    StandsForBody (area_since generation image events settled) bytes → generation_of bytes ≡ Some generation
generation_since generation image base events settled bytes told stands = generation_begins bytes generation image (payloads_of (drop settled events)) told.generated told.fits stands.front

-- bytes of the area that counts, beside others that are older
pub survives_beside : (second : Bool) (active other : List ℕ) (generation : ℕ) (image : List ℕ) (base : BaseView) (events : List Event) (settled : ℕ) → IsTellable generation image base events settled →
    StandsForBody (area_since generation image events settled) active → IsBehind second generation (generation_of other) →
    SurvivesWhole base events (one_of active other second) (one_of other active second)
survives_beside second active other generation image base events settled told stands behind =
    survives_stands base events settled told.within (one_of active other second) (one_of other active second) active generation
    (newest_active second active other generation (generation_since generation image base events settled active told stands) behind)
    (stands_since generation image base events settled active told stands)

-- the same of bytes that are closed
pub survives_closed : (second : Bool) (active other : List ℕ) (generation : ℕ) (image : List ℕ) (base : BaseView) (events : List Event) (settled : ℕ) → IsTellable generation image base events settled →
    Closed (area_since generation image events settled) active → IsBehind second generation (generation_of other) →
    SurvivesWholeClosed base events (one_of active other second) (one_of other active second)
unfolding survives_beside survives_stands stands_erased stands_since
survives_closed second active other generation image base events settled told closed behind = record {
  survives = survives_beside second active other generation image base events settled told closed.stands behind;
  gate = subst (λ (payloads : List (List ℕ)). length (area_bytes generation image payloads) < length active) (sym (payloads_erased (drop settled events))) closed.gate;
}

-- bytes of the area that counts, with its closed gate: the history survives there
abbrev pub SurvivesThere : BaseView → List Event → ℕ → Bool → List ℕ → List ℕ → Type 0
SurvivesThere base events generation second x y = SurvivesWholeClosed base events x y × IsNewestAt generation second x y

pub survives_there : (second : Bool) (active other : List ℕ) (generation : ℕ) (image : List ℕ) (base : BaseView) (events : List Event) (settled : ℕ) → IsTellable generation image base events settled →
    Closed (area_since generation image events settled) active → IsBehind second generation (generation_of other) →
    SurvivesThere base events generation second (one_of active other second) (one_of other active second)
survives_there second active other generation image base events settled told closed behind = (
  survives_closed second active other generation image base events settled told closed behind,
  newest_at second active other generation (generation_since generation image base events settled active told closed.stands) behind,
)

-- the same of bytes that may lack their closed gate
pub stays_there : (second : Bool) (active other : List ℕ) (generation : ℕ) (image : List ℕ) (base : BaseView) (events : List Event) (settled : ℕ) → IsTellable generation image base events settled →
    StandsForBody (area_since generation image events settled) active → IsBehind second generation (generation_of other) →
    SurvivesCheckpoint base events generation second (one_of active other second) (one_of other active second)
stays_there second active other generation image base events settled told stands behind = (
  survives_beside second active other generation image base events settled told stands behind,
  inl (newest_at second active other generation (generation_since generation image base events settled active told stands) behind),
)

-- bytes that begin with the area of a history count beside others that are older
begins_in : (second : Bool) (active other body : List ℕ) → Begins body active → Begins body (one_of (one_of active other second) (one_of other active second) second)
begins_in false active other body begins = begins
begins_in true active other body begins = begins

pub begins_there : (second : Bool) (active other : List ℕ) (generation : ℕ) (image : List ℕ) (base : BaseView) (events : List Event) (settled : ℕ) → IsTellable generation image base events settled →
    Begins (area_since generation image events settled) active → IsBehind second generation (generation_of other) →
    NewestBegins generation second (area_since generation image events settled) (one_of active other second) (one_of other active second)
begins_there second active other generation image base events settled told begins behind = record {
  newest_at = newest_at second active other generation (generation_begins active generation image (payloads_of (drop settled events)) told.generated told.fits begins) behind;
  begins = begins_in second active other (area_since generation image events settled) begins;
}

-- ---- stores

pub one_longer : (events : List Event) (event : Event) → length events < length (events ++ event ∷ [])
one_longer events event = let long = length-append events (event ∷ []) in omega (arith, long)

pub nothing_same : {D : Type 0} (s : StoreView D) → HasNothingAdded s s
nothing_same s = record { events_stay = refl; checkpoints_stay = refl }

pub nothing_both : {D : Type 0} (old mid new : StoreView D) → HasNothingAdded old mid → HasNothingAdded mid new → HasNothingAdded old new
nothing_both old mid new one other = record { events_stay = other.events_stay ∙ one.events_stay; checkpoints_stay = other.checkpoints_stay ∙ one.checkpoints_stay }

pub at_some : (told : Option (List ℕ)) (P : List ℕ → Type 0) (bytes : List ℕ) → told ≡ Some bytes → IfSome told P → P bytes
at_some told P bytes is holds = let Q : Option (List ℕ) → Type 0 = λ o. IfSome o P in subst Q is holds

pub if_some : (told : Option (List ℕ)) (P : List ℕ → Type 0) (bytes : List ℕ) → told ≡ Some bytes → P bytes → IfSome told P
if_some told P bytes is holds = let Q : Option (List ℕ) → Type 0 = λ o. IfSome o P in subst Q (sym is) holds

module _ {D : Type 0} where
  -- what the two disks tell, in the order in which they were given
  pub told_pairs : (image : D → Option (List ℕ)) (second : Bool) (active other : D) (P : List ℕ → List ℕ → Type 0) →
      ((a o : List ℕ) → image active ≡ Some a → image other ≡ Some o → P (one_of a o second) (one_of o a second)) →
      (x y : List ℕ) → image (one_of active other second) ≡ Some x → image (one_of other active second) ≡ Some y → P x y
  told_pairs image false active other P each x y is_x is_y = each x y is_x is_y
  told_pairs image true active other P each x y is_x is_y = each y x is_y is_x

  -- what a crash leaves of the two disks, in the order in which they were given
  pub left_pairs : (clock : D → ℕ) (left_since : D → ℕ → List ℕ → Type 0) (second : Bool) (old active other : D) (P : List ℕ → List ℕ → Type 0) →
      ((a o : List ℕ) → left_since active (clock old) a → left_since other (clock other) o → P (one_of a o second) (one_of o a second)) →
      (x y : List ℕ) → left_since (one_of active other second) (clock (one_of old other second)) x → left_since (one_of other active second) (clock (one_of other old second)) y → P x y
  left_pairs clock left_since false old active other P each x y left_x left_y = each x y left_x left_y
  left_pairs clock left_since true old active other P each x y left_x left_y = each y x left_y left_x

  module _ (clock : D → ℕ) (left_since : D → ℕ → List ℕ → Type 0) (image : D → Option (List ℕ)) (s : StoreView D) where
    -- a store that is ready is current
    pub ready_current : IsReady clock left_since image s → IsCurrent clock left_since image s
    ready_current ready = record {
      running = ready.running;
      active = if_some (image s.active) (StandsForBody (body_of s)) ready.rests.bytes ready.rests.told ready.rests.closed.stands;
      other = if_some (image s.other) (λ bytes. IsBehind s.second_active s.generation (generation_of bytes)) ready.other_bytes ready.other_told ready.behind;
    }

    -- what the disks of a current store tell has its history
    pub current_survives : IsStore s → IsCurrent clock left_since image s → (x y : List ℕ) → image (first_disk s) ≡ Some x → image (second_disk s) ≡ Some y → SurvivesWhole s.base s.events x y
    current_survives store current x y is_x is_y =
        told_pairs image s.second_active s.active s.other (SurvivesWhole s.base s.events)
        (λ a o is_a is_o. survives_beside s.second_active a o s.generation (image_of s) s.base s.events (settled_of s) (tellable_store s store)
        (at_some (image s.active) (StandsForBody (body_of s)) a is_a current.active)
        (at_some (image s.other) (λ bytes. IsBehind s.second_active s.generation (generation_of bytes)) o is_o current.other))
        x y is_x is_y

    -- a crash now leaves the history of a ready store, in its area
    pub ready_there_now : IsStore s → IsReady clock left_since image s → StopsNow clock left_since image s (SurvivesThere s.base s.events s.generation s.second_active)
    ready_there_now store ready x y left_x left_y =
        left_pairs clock left_since s.second_active s.active s.active s.other (SurvivesThere s.base s.events s.generation s.second_active)
        (λ a o left_a left_o. survives_there s.second_active a o s.generation (image_of s) s.base s.events (settled_of s) (tellable_store s store)
        (subst (Closed (body_of s)) (some_same ready.rests.bytes a (sym ready.rests.told ∙ ready.rests.pinned a left_a)) ready.rests.closed)
        (subst (λ (bytes : List ℕ). IsBehind s.second_active s.generation (generation_of bytes)) (some_same ready.other_bytes o (sym ready.other_told ∙ ready.other_pinned o left_o)) ready.behind))
        x y left_x left_y

    -- a store that is ready is at rest
    pub ready_at_rest : IsReady clock left_since image s → IsAtRest clock left_since image s
    ready_at_rest ready = record {
      current = ready_current ready;
      active_bytes = ready.rests.bytes;
      active_told = ready.rests.told;
      active_pinned = ready.rests.pinned;
      other_bytes = ready.other_bytes;
      other_told = ready.other_told;
      other_pinned = ready.other_pinned;
    }

    pub rests_ready : (old : StoreView D) → IsReady clock left_since image s → RestsSince clock left_since image old s
    rests_ready old ready = (ready_at_rest ready, inl ready)

    pub rests_same : IsAtRest clock left_since image s → RestsSince clock left_since image s s
    rests_same rest = (rest, inr (nothing_same s))

    -- what a crash now leaves of the disks of a store at rest
    pub rest_active : (rest : IsAtRest clock left_since image s) → (a : List ℕ) → left_since s.active (clock s.active) a → StandsForBody (body_of s) a
    rest_active rest a left = at_some (image s.active) (StandsForBody (body_of s)) a (rest.active_pinned a left) rest.current.active

    pub rest_other : (rest : IsAtRest clock left_since image s) → IsBehind s.second_active s.generation (generation_of rest.other_bytes)
    rest_other rest = at_some (image s.other) (λ bytes. IsBehind s.second_active s.generation (generation_of bytes)) rest.other_bytes rest.other_told rest.current.other

    pub rest_there_now : IsStore s → IsAtRest clock left_since image s → StopsNow clock left_since image s (SurvivesCheckpoint s.base s.events s.generation s.second_active)
    rest_there_now store rest x y left_x left_y =
        left_pairs clock left_since s.second_active s.active s.active s.other (SurvivesCheckpoint s.base s.events s.generation s.second_active)
        (λ a o left_a left_o. stays_there s.second_active a o s.generation (image_of s) s.base s.events (settled_of s) (tellable_store s store) (rest_active rest a left_a)
        (at_some (image s.other) (λ bytes. IsBehind s.second_active s.generation (generation_of bytes)) o (rest.other_pinned o left_o) rest.current.other))
        x y left_x left_y

    pub ready_survives_now : IsStore s → IsReady clock left_since image s → StopsNow clock left_since image s (SurvivesWholeClosed s.base s.events)
    ready_survives_now store ready x y left_x left_y = (ready_there_now store ready x y left_x left_y).0

    -- what a read of the disks of a ready store gives has its history, and the closed gate
    pub ready_survives : IsStore s → IsReady clock left_since image s → (x y : List ℕ) → image (first_disk s) ≡ Some x → image (second_disk s) ≡ Some y → SurvivesWholeClosed s.base s.events x y
    ready_survives store ready x y is_x is_y =
        told_pairs image s.second_active s.active s.other (SurvivesWholeClosed s.base s.events)
        (λ a o is_a is_o. survives_closed s.second_active a o s.generation (image_of s) s.base s.events (settled_of s) (tellable_store s store)
        (subst (Closed (body_of s)) (some_same ready.rests.bytes a (sym ready.rests.told ∙ is_a)) ready.rests.closed)
        (subst (λ (bytes : List ℕ). IsBehind s.second_active s.generation (generation_of bytes)) (some_same ready.other_bytes o (sym ready.other_told ∙ is_o)) ready.behind))
        x y is_x is_y

    -- the newest area that a read of the disks of a current store gives stands for the state of its last checkpoint and the events since, under its generation
    pub current_stands : IsStore s → IsCurrent clock left_since image s → (x y : List ℕ) → image (first_disk s) ≡ Some x → image (second_disk s) ≡ Some y →
        (bytes : List ℕ) × (newest x y ≡ Some bytes) × StandsFor bytes s.generation (head_of s) (records_of s)
    current_stands store current x y is_x is_y =
        told_pairs image s.second_active s.active s.other (λ u v. (bytes : List ℕ) × (newest u v ≡ Some bytes) × StandsFor bytes s.generation (head_of s) (records_of s))
        (λ a o is_a is_o.
        let told = tellable_store s store in
        let stands = at_some (image s.active) (StandsForBody (body_of s)) a is_a current.active in (
          a,
          newest_active s.second_active a o s.generation (generation_since s.generation (image_of s) s.base s.events (settled_of s) a told stands)
              (at_some (image s.other) (λ bytes. IsBehind s.second_active s.generation (generation_of bytes)) o is_o current.other),
          stands_since s.generation (image_of s) s.base s.events (settled_of s) a told stands,
        ))
        x y is_x is_y
