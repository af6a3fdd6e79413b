-- No open area is neither one of a lawful history nor damaged.
use Rattle.std.proofs.Common.{◌≡◌, ◌+◌, ℕ, List, [], ◌∷◌, ◌++◌, length, refl, sym, ap, subst, ◌∙◌, arith, ⊎_elim, append_assoc, append-nil, length-append}
use Rattle.std.specs.List.{AllByRecursion}
use Rattle.std.proofs.lemmas.List.{map-append}
use Rattle.bl_syntax.specs.FirstFailing.{IsFirstFailing}
use Rattle.bl_syntax.specs.Statement.{IsStatement}
use Rattle.bl_syntax.proofs.GrantLemmas.{AllByRecursion-push}
use Rattle.policy_statement.specs.Registered.{RegisteredView}
use Rattle.journal_core.specs.Area.{IsArea, IsFront, IsShut, IsSomeArea, BreaksAfter, IsBroken}
use Rattle.journal_core.proofs.ReadingLemmas.{area_front}
use Rattle.journal_core.proofs.TotalLemmas.{one_of_three}
use Rattle.journal_records.specs.declared.event.Event.{Event}
use Rattle.journal_records.specs.declared.event.Event.TheVariants.{Registered, Withdrawn, Issued, Acted}
use Rattle.access_history.specs.Authority.{Authority}
use Rattle.policy_statement.specs.Registry.{sayings}
use Rattle.access_history.specs.Base.{BaseView}
use Rattle.access_history.specs.Lawful.{IsLawful, IsLawfulBase, no_event, one_more}
use Rattle.journal_records.specs.Passes.{erase}
use Rattle.access_history.specs.Replay.{replay}
use Rattle.access_history.proofs.LawfulLemmas.{IsLawfulBase-lawful}
use Rattle.access_history.proofs.PassLemmas.{erase_twice}
use Rattle.access_history.proofs.ReplayLemmas.{count-replay}
use Rattle.file_world.specs.declared.operation.Op.{Op}
use Rattle.file_world.specs.declared.operation.Op.TheVariants.{Read, Write, Truncate, List as ListOf, Lookup, Create, Mkdir, Unlink, Rename, Getattr, Setattr, Delattr, Chown}
use Rattle.file_world.specs.Effect.{IsOperation}
use Rattle.record_parts.specs.OperationSpelling.{IsSpellableOperation}
use Rattle.checkpoint_image.specs.ImageSpelling.{IsSpellableEntry}
use Rattle.checkpoint.specs.Reading.{IsSpelledAs, current, old, IsImageOf}
use Rattle.journal_records.specs.EventSpelling.{event_spelling, IsSpellableEvent, IsReadEvent}
use Rattle.journal_records.proofs.EventLemmas.{erased_spellable, same_spelling}
use Rattle.op_gate.specs.declared.damage.Damage.{Damage}
use Rattle.op_gate.specs.declared.damage.Damage.TheVariants.{Header, Shape}
use Rattle.op_gate.specs.Damage.{IsFreeOf, MayComeNext, event_damages}
use Rattle.op_gate.specs.BaseDamage.{IsBaseFreeOf, base_damages}
use Rattle.op_gate.specs.DamageLaws.{IsTypedEvent, IsTypedBase}
use Rattle.op_gate.proofs.AdmitLemmas.{free_next}
use Rattle.op_gate.proofs.BaseDamageLemmas.{lawful_if_free}
use Rattle.pcfs_store.specs.StoredHistory.{AreSpellable, StandsFor}
use Rattle.recover.specs.AreaDamage.{AreRead, IsDamagedImage, no_state, of_state, IsDamagedPayload, of_event, IsDamagedAt, AreLawfulPayloads, IsDamagedArea, no_base, no_image, no_payload, no_record}
use Rattle.recover.specs.AreaDamage as damages

-- ---- the first of a list that lacks a property

-- a list of which not all items have the property, and of which none is the first that lacks it, is none
all_or_first : {A : Type 0} (P : A → Type 0) (items : List A) → (AllByRecursion P items → ⊥) → ((place : ℕ) (item : A) → IsFirstFailing P items place item → ⊥) → ⊥
all_or_first P [] none first = none tt
all_or_first P (x ∷ xs) none first =
    let fails : (P x → ⊥) → ⊥ = λ fails. first 0 x (record { before = []; behind = xs; parts = refl; place_is = refl; holds_before = tt; fails = fails }) in
    fails (λ holds. all_or_first P xs (λ all. none (holds, all)) (λ place item f. first (place + 1) item (record {
      before = x ∷ f.before;
      behind = f.behind;
      parts = ap (λ (l : List _). x ∷ l) f.parts;
      place_is = omega (arith, f.place_is);
      holds_before = (holds, f.holds_before);
      fails = f.fails;
    })))

-- ---- what is spelled is what the types of the code keep

operation_typed : (op : Op) → IsSpellableOperation op → IsOperation op
operation_typed (Read file offset len) spelled = tt
operation_typed (Write file offset bytes) spelled = tt
operation_typed (Truncate file len) spelled = tt
operation_typed (ListOf directory) spelled = tt
operation_typed (Lookup directory name) spelled = tt
operation_typed (Create directory name) spelled = tt
operation_typed (Mkdir directory name) spelled = tt
operation_typed (Unlink directory name) spelled = tt
operation_typed (Rename directory name target renamed) spelled = tt
operation_typed (Getattr node name) spelled = tt
operation_typed (Setattr node name value) spelled = spelled.1.1
operation_typed (Delattr node name) spelled = tt
operation_typed (Chown node owner) spelled = spelled.1

event_typed : (event : Event) → IsSpellableEvent event → IsTypedEvent event
event_typed (Registered pass statement signature) spelled = spelled.said.statement
event_typed (Withdrawn pass number signature) spelled = tt
event_typed (Issued pass cited proof grant) spelled = tt
event_typed (Acted pass caller op procaps moment) spelled = (spelled.named, operation_typed op spelled.words)

entries_said : (entries : List RegisteredView) → AllByRecursion IsSpellableEntry entries → AllByRecursion IsStatement (sayings entries)
entries_said [] each = tt
entries_said (entry ∷ entries) each = (each.0.said.statement, entries_said entries each.1)

image_said : (base : BaseView) (image : List ℕ) → IsSpelledAs base image → AllByRecursion IsStatement (sayings base.statements)
image_said base _ (current spelled) = entries_said base.statements spelled.statements.each
image_said base _ (old fields) = entries_said base.statements fields.spelled.statements.each

base_typed : (base : BaseView) (image : List ℕ) → IsImageOf base image → IsTypedBase base
base_typed base image is = (is.world, image_said base image is.spelled)

-- ---- the image

-- an image that is of no lawful state is damaged
lawful_or_damaged : (authority : Authority) (image : List ℕ) → ((base : BaseView) → IsImageOf base image → IsLawfulBase authority base → ⊥) → ((damage : Damage) → IsDamagedImage authority image damage → ⊥) → ⊥
lawful_or_damaged authority image lawful damaged =
    damaged Shape (no_state (λ base is. all_or_first (IsBaseFreeOf authority base) base_damages
    (λ free. lawful base is ((lawful_if_free authority base (base_typed base image is)).1 free))
    (λ place damage first. damaged damage (of_state base damage is (record { place = place; first = first })))))

-- ---- the payloads

-- one more event that may come next
lawful_more : (authority : Authority) (base : BaseView) (events : List Event) (event : Event) → IsLawful authority base events → MayComeNext authority (replay base events) event → IsLawful authority base (events ++ event ∷ [])
lawful_more authority base events event lawful may = record {
  lawful_base = lawful.lawful_base;
  counted = omega (arith, may.counted, count-replay base events, length-append events (event ∷ []));
  each = one_more events event lawful.each may.follows;
}

read_more : (before : List (List ℕ)) (events : List Event) (payload : List ℕ) (event : Event) → AreRead before events → IsReadEvent event → payload ≡ event_spelling event → AreRead (before ++ payload ∷ []) (events ++ event ∷ [])
read_more before events payload event read is spelled = record {
  payloads_are = ap (λ (p : List ℕ). before ++ p ∷ []) spelled ∙ ap (λ (ps : List (List ℕ)). ps ++ event_spelling event ∷ []) read.payloads_are ∙ sym (map-append event_spelling events (event ∷ []));
  each = AllByRecursion-push IsReadEvent events event read.each is;
}

-- payloads that are not all of lawful events are damaged at some place
payloads_or_damaged : (authority : Authority) (base : BaseView) (before : List (List ℕ)) (events : List Event) (rest : List (List ℕ)) → AreRead before events → IsLawful authority base events →
    (AreLawfulPayloads authority base (before ++ rest) → ⊥) → ((number : ℕ) (damage : Damage) → IsDamagedAt authority base (before ++ rest) number damage → ⊥) → ⊥
payloads_or_damaged authority base before events [] read lawful all at =
    all (subst (λ (ps : List (List ℕ)). AreLawfulPayloads authority base ps) (sym (append-nil before)) (record { events = events; read = read; lawful = lawful }))
payloads_or_damaged authority base before events (payload ∷ rest) read lawful all at =
    let state : BaseView = replay base events in
    let here : (damage : Damage) → IsDamagedPayload authority state payload damage → ⊥ = λ damage damaged. at (length before + 1) damage (record {
      before = before;
      payload = payload;
      others = rest;
      parts = refl;
      number_is = refl;
      events = events;
      read = read;
      lawful = lawful;
      damaged = damaged;
    }) in
    let parts : (before ++ payload ∷ []) ++ rest ≡ before ++ payload ∷ rest = append_assoc before (payload ∷ []) rest in
    here Shape (damages.no_event (λ found spelled is.
    let event : Event = erase found in
    let read_event : IsReadEvent event = record { spelled = erased_spellable found spelled; erased = erase_twice found } in
    let payload_is : payload ≡ event_spelling event = is ∙ sym (same_spelling found) in
    all_or_first (IsFreeOf authority state event) event_damages
    (λ free.
    let may = free_next authority state event (IsLawfulBase-lawful authority base events lawful) (event_typed event read_event.spelled) free in
    payloads_or_damaged authority base (before ++ payload ∷ []) (events ++ event ∷ []) rest (read_more before events payload event read read_event payload_is) (lawful_more authority base events event lawful may)
    (λ lawful_all. all (subst (λ (ps : List (List ℕ)). AreLawfulPayloads authority base ps) parts lawful_all))
    (λ number damage damaged. at number damage (subst (λ (ps : List (List ℕ)). IsDamagedAt authority base ps number damage) parts damaged)))
    (λ place damage first. here damage (of_event event damage read_event payload_is (record { place = place; first = first })))))

-- ---- areas

spellable : (events : List Event) → AllByRecursion IsReadEvent events → AreSpellable events
spellable [] each = tt
spellable (event ∷ events) each = (each.0.spelled, spellable events each.1)

module _ (authority : Authority) (bytes : List ℕ) (damaged : (number : ℕ) (damage : Damage) → IsDamagedArea authority bytes number damage → ⊥) where
  -- what a front that is not damaged holds
  front_lawful : (generation : ℕ) (image : List ℕ) (payloads : List (List ℕ)) → IsFront bytes generation image payloads → ((base : BaseView) → IsImageOf base image → AreLawfulPayloads authority base payloads → ⊥) → ⊥
  front_lawful generation image payloads front lawful = lawful_or_damaged authority image
      (λ base is lawful_base. payloads_or_damaged authority base [] [] payloads (record { payloads_are = refl; each = tt }) (record { lawful_base = lawful_base; counted = omega (arith, lawful_base.counted); each = no_event })
      (lawful base is)
      (λ number damage at. damaged number damage (no_payload generation image base payloads number damage front is at)))
      (λ damage image_damaged. damaged 0 damage (no_image generation image payloads damage front image_damaged))

  broken_none : (number : ℕ) → IsBroken number bytes → ⊥
  broken_none number broken = ⊎_elim
      (λ base. damaged 0 Header (no_base base.1))
      (λ after.
      let b : BreaksAfter after.0 bytes = after.2 in
      let front : IsFront bytes b.generation b.image b.payloads = record { generated = b.generated; fits = b.fits; front = b.front; last = λ is_open. b.none } in
      front_lawful b.generation b.image b.payloads front
      (λ base is lawful. damaged (length b.payloads + 1) Shape (no_record b.generation b.image base b.payloads front is lawful b.is_open)))
      broken

  area_none : ((generation : ℕ) (base : BaseView) (events : List Event) → StandsFor bytes generation base events → IsLawful authority base events → ⊥) → IsSomeArea bytes → ⊥
  area_none lawful area = front_lawful area.0 area.1 area.2 (area_front bytes area.0 area.1 area.2 area.3)
      (λ base is all. lawful area.0 base all.events
      (record {
        image = area.1;
        is_image = is;
        spelled = spellable all.events all.read.each;
        is_area = subst (λ (ps : List (List ℕ)). IsArea bytes area.0 area.1 ps) all.read.payloads_are area.3;
      }) all.lawful)

pub open_area : (authority : Authority) (bytes : List ℕ) → (IsShut bytes → ⊥) → ((generation : ℕ) (base : BaseView) (events : List Event) → StandsFor bytes generation base events → IsLawful authority base events → ⊥) →
    ((number : ℕ) (damage : Damage) → IsDamagedArea authority bytes number damage → ⊥) → ⊥
open_area authority bytes is_open lawful damaged =
    ⊎_elim is_open (λ read. ⊎_elim (area_none authority bytes damaged lawful) (λ broken. broken_none authority bytes damaged broken.0 broken.1) read) (one_of_three bytes)
