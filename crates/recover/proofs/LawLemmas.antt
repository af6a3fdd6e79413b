-- Bytes stand for one history; an area has at most one first damage, and none if it stands for a lawful history.
use Rattle.std.proofs.Common.{◌≡◌, ◌+◌, ◌⊎◌, ℕ, List, [], ◌∷◌, ◌++◌, length, get_or, map, refl, sym, ap, subst, ◌∙◌, arith, inl, inr, ⊎_elim}
use Rattle.std.specs.List.{AllByRecursion}
use Rattle.journal_core.specs.Area.{area_bytes, IsFront, IsShut}
use Rattle.journal_core.proofs.ReadingLemmas.{one_area, one_front, front_has_base, area_front, opens}
use Rattle.journal_records.specs.declared.event.Event.{Event}
use Rattle.access_history.specs.Authority.{Authority}
use Rattle.access_history.specs.Base.{BaseView}
use Rattle.access_history.specs.Lawful.{IsLawful, IsLawfulBase}
use Rattle.access_history.specs.Replay.{replay}
use Rattle.journal_records.specs.Passes.{erase}
use Rattle.journal_records.specs.EventSpelling.{event_spelling, IsReadEvent}
use Rattle.journal_records.proofs.EventLemmas.{apart}
use Rattle.op_gate.specs.declared.damage.Damage.{Damage}
use Rattle.op_gate.specs.Damage.{IsDamagedBy, MayComeNext}
use Rattle.op_gate.proofs.AdmitLemmas.{damaged_not_next, first_damages}
use Rattle.op_gate.specs.BaseDamage.{IsDamagedBase}
use Rattle.op_gate.proofs.BaseDamageLemmas.{one_base_damage, lawful_base_not_damaged}
use Rattle.checkpoint.specs.Reading.{IsImageOf}
use Rattle.pcfs_store.specs.StoredHistory.{payloads_of, AreSpellable, StandsFor}
use Rattle.recover.specs.AreaDamage.{AreRead, IsDamagedImage, no_state, of_state, IsDamagedPayload, no_event as spells_no_event, of_event, IsDamagedAt, AreLawfulPayloads, IsDamagedArea, no_base, no_image, no_payload, no_record}
use Rattle.pcfs_store.proofs.SurvivalLemmas.{payloads_erased}
use Rattle.recover.proofs.FollowingLemmas.{erased_history, erased_read, next_at}
use Rattle.checkpoint.proofs.ReadingLemmas.{one_state}

-- ---- payloads of events

one_event : (first second : Event) → IsReadEvent first → IsReadEvent second → event_spelling first ≡ event_spelling second → first ≡ second
one_event first second one other same =
    sym one.erased ∙ (apart first second [] [] one.spelled other.spelled (ap (λ (bytes : List ℕ). bytes ++ []) same)).0 ∙ other.erased

-- the event of a payload among others
record IsAmong (events : List Event) (before : List (List ℕ)) (payload : List ℕ) : Type 0 where
  earlier : List Event
  event : Event
  later : List Event
  parts : events ≡ earlier ++ event ∷ later
  before_are : before ≡ payloads_of earlier
  payload_is : payload ≡ event_spelling event
  reads : AllByRecursion IsReadEvent earlier
  read : IsReadEvent event

among : (events : List Event) (before : List (List ℕ)) (payload : List ℕ) (others : List (List ℕ)) → AllByRecursion IsReadEvent events → before ++ payload ∷ others ≡ payloads_of events → IsAmong events before payload
among [] [] payload others each same = absurd cc
among [] (p ∷ before) payload others each same = absurd cc
among (event ∷ events) [] payload others each same = record { earlier = []; event = event; later = events; parts = refl; before_are = refl; payload_is = cc; reads = tt; read = each.0 }
among (event ∷ events) (p ∷ before) payload others each same =
    let head : p ≡ event_spelling event = cc in
    let tail : before ++ payload ∷ others ≡ payloads_of events = cc in
    let rest = among events before payload others each.1 tail in
    record {
      earlier = event ∷ rest.earlier;
      event = rest.event;
      later = rest.later;
      parts = ap (λ (es : List Event). event ∷ es) rest.parts;
      before_are = ap (λ (q : List ℕ). q ∷ before) head ∙ ap (λ (ps : List (List ℕ)). event_spelling event ∷ ps) rest.before_are;
      payload_is = rest.payload_is;
      reads = (each.0, rest.reads);
      read = rest.read;
    }

-- payloads have one list of events
pub one_list : (first second : List Event) → AllByRecursion IsReadEvent first → AllByRecursion IsReadEvent second → payloads_of first ≡ payloads_of second → first ≡ second
one_list [] [] one other same = refl
one_list [] (d ∷ second) one other same = absurd cc
one_list (c ∷ first) [] one other same = absurd cc
one_list (c ∷ first) (d ∷ second) one other same =
    let spelled : event_spelling c ≡ event_spelling d = cc in
    let tails : payloads_of first ≡ payloads_of second = cc in
    let head : c ≡ d = one_event c d one.0 other.0 spelled in
    let tail : first ≡ second = one_list first second one.1 other.1 tails in
    cc

-- an event that may come next does not have a damaged payload
payload_not_damaged : (authority : Authority) (state : BaseView) (payload : List ℕ) (damage : Damage) (event : Event) → IsReadEvent event → payload ≡ event_spelling event → MayComeNext authority state event → IsDamagedPayload authority state payload damage → ⊥
payload_not_damaged authority state payload _ event read spelled may (spells_no_event none) = none event read.spelled spelled
payload_not_damaged authority state payload _ event read spelled may (of_event found damage found_read found_spelled damaged) =
    damaged_not_next authority state event damage (subst (λ (e : Event). IsDamagedBy authority state e damage) (one_event found event found_read read (sym found_spelled ∙ spelled)) damaged) may

-- so payloads of lawful events are not damaged
lawful_not_damaged : (authority : Authority) (base : BaseView) (payloads : List (List ℕ)) (events : List Event) (number : ℕ) (damage : Damage) → AreRead payloads events → IsLawful authority base events → IsDamagedAt authority base payloads number damage → ⊥
lawful_not_damaged authority base payloads events number damage read lawful at =
    let it = among events at.before at.payload at.others read.each (sym at.parts ∙ read.payloads_are) in
    let earlier : at.events ≡ it.earlier = one_list at.events it.earlier at.read.each it.reads (sym at.read.payloads_are ∙ it.before_are) in
    payload_not_damaged authority (replay base at.events) at.payload damage it.event it.read it.payload_is
    (subst (λ (es : List Event). MayComeNext authority (replay base es) it.event) (sym earlier) (next_at authority base events it.earlier it.later it.event lawful it.parts))
    at.damaged

-- a payload has one damage
one_payload_damage : (authority : Authority) (state : BaseView) (payload : List ℕ) (c d : Damage) → IsDamagedPayload authority state payload c → IsDamagedPayload authority state payload d → c ≡ d
one_payload_damage authority state payload _ _ (spells_no_event none) (spells_no_event other) = refl
one_payload_damage authority state payload _ _ (spells_no_event none) (of_event event d read spelled damaged) = absurd (none event read.spelled spelled)
one_payload_damage authority state payload _ _ (of_event event c read spelled damaged) (spells_no_event none) = absurd (none event read.spelled spelled)
one_payload_damage authority state payload _ _ (of_event first c read spelled damaged) (of_event second d other_read other_spelled other_damaged) =
    first_damages authority state second c d (subst (λ (e : Event). IsDamagedBy authority state e c) (one_event first second read other_read (sym spelled ∙ other_spelled)) damaged) other_damaged

-- two places in one list: the same, or one before the other
splits : (first second : List (List ℕ)) (p q : List ℕ) (ps qs : List (List ℕ)) → first ++ p ∷ ps ≡ second ++ q ∷ qs →
    ((first ≡ second) × (p ≡ q)) ⊎ (((rest : List (List ℕ)) × (second ≡ first ++ p ∷ rest)) ⊎ ((rest : List (List ℕ)) × (first ≡ second ++ q ∷ rest)))
splits [] [] p q ps qs same = inl (refl, cc)
splits [] (s ∷ second) p q ps qs same = inr (inl (second, cc))
splits (f ∷ first) [] p q ps qs same = inr (inr (first, cc))
splits (f ∷ first) (s ∷ second) p q ps qs same =
    let head : f ≡ s = cc in
    let tails : first ++ p ∷ ps ≡ second ++ q ∷ qs = cc in
    ⊎_elim
    (λ all. inl (let tail : first ≡ second = all.0 in cc, all.1))
    (λ differ. inr (⊎_elim
    (λ longer. inl (longer.0, let tail : second ≡ first ++ p ∷ longer.0 = longer.1 in cc))
    (λ longer. inr (longer.0, let tail : first ≡ second ++ q ∷ longer.0 = longer.1 in cc))
    differ))
    (splits first second p q ps qs tails)

-- payloads are damaged first at one place, by one damage
one_at : (authority : Authority) (base : BaseView) (payloads : List (List ℕ)) (m n : ℕ) (c d : Damage) → IsDamagedAt authority base payloads m c → IsDamagedAt authority base payloads n d → (m ≡ n) × (c ≡ d)
one_at authority base payloads m n c d one other =
    ⊎_elim
    (λ all.
    let events : one.events ≡ other.events = one_list one.events other.events one.read.each other.read.each (sym one.read.payloads_are ∙ all.0 ∙ other.read.payloads_are) in (
      omega (arith, one.number_is, other.number_is, ap length all.0),
      one_payload_damage authority (replay base other.events) other.payload c d
          (subst (λ (es : List Event). IsDamagedPayload authority (replay base es) other.payload c) events (subst (λ (p : List ℕ). IsDamagedPayload authority (replay base one.events) p c) all.1 one.damaged))
          other.damaged,
    ))
    (λ differ. ⊎_elim
    (λ longer. absurd (lawful_not_damaged authority base other.before other.events m c other.read other.lawful
    (record { before = one.before; payload = one.payload; others = longer.0; parts = longer.1; number_is = one.number_is; events = one.events; read = one.read; lawful = one.lawful; damaged = one.damaged })))
    (λ longer. absurd (lawful_not_damaged authority base one.before one.events n d one.read one.lawful
    (record { before = other.before; payload = other.payload; others = longer.0; parts = longer.1; number_is = other.number_is; events = other.events; read = other.read; lawful = other.lawful; damaged = other.damaged })))
    differ)
    (splits one.before other.before one.payload other.payload one.others other.others (sym one.parts ∙ other.parts))

-- ---- images

-- the image of a state that a history may begin with is not damaged
lawful_image : (authority : Authority) (base : BaseView) (image : List ℕ) (damage : Damage) → IsImageOf base image → IsLawfulBase authority base → IsDamagedImage authority image damage → ⊥
lawful_image authority base image _ is lawful (no_state none) = none base is
lawful_image authority base image _ is lawful (of_state other damage other_is damaged) =
    lawful_base_not_damaged authority base damage (subst (λ (b : BaseView). IsDamagedBase authority b damage) (one_state other base image other_is is) damaged) lawful

-- an image has one damage
one_image_damage : (authority : Authority) (image : List ℕ) (c d : Damage) → IsDamagedImage authority image c → IsDamagedImage authority image d → c ≡ d
one_image_damage authority image _ _ (no_state none) (no_state other) = refl
one_image_damage authority image _ _ (no_state none) (of_state base d is damaged) = absurd (none base is)
one_image_damage authority image _ _ (of_state base c is damaged) (no_state none) = absurd (none base is)
one_image_damage authority image _ _ (of_state base c is damaged) (of_state other d other_is other_damaged) =
    one_base_damage authority other c d (subst (λ (b : BaseView). IsDamagedBase authority b c) (one_state base other image is other_is) damaged) other_damaged

-- ---- areas

-- two readings of the front of the same bytes
same_image : (bytes : List ℕ) (g h : ℕ) (i j : List ℕ) (ps qs : List (List ℕ)) → IsFront bytes g i ps → IsFront bytes h j qs → i ≡ j
same_image bytes g h i j ps qs one other = (one_front bytes g h i j ps qs one other).1

same_payloads : (bytes : List ℕ) (g h : ℕ) (i j : List ℕ) (ps qs : List (List ℕ)) → IsFront bytes g i ps → IsFront bytes h j qs → ps ≡ qs
same_payloads bytes g h i j ps qs one other = (one_front bytes g h i j ps qs one other).2

same_state : (bytes : List ℕ) (g h : ℕ) (i j : List ℕ) (ps qs : List (List ℕ)) (base other : BaseView) → IsFront bytes g i ps → IsFront bytes h j qs → IsImageOf base i → IsImageOf other j → base ≡ other
same_state bytes g h i j ps qs base other one two is other_is = one_state base other j (subst (IsImageOf base) (same_image bytes g h i j ps qs one two) is) other_is

-- the damage of the payloads in one reading, in the words of another
moved : (authority : Authority) (bytes : List ℕ) (g h : ℕ) (i j : List ℕ) (ps qs : List (List ℕ)) (base other : BaseView) (number : ℕ) (damage : Damage) → IsFront bytes g i ps → IsFront bytes h j qs → IsImageOf base i → IsImageOf other j →
    IsDamagedAt authority base ps number damage → IsDamagedAt authority other qs number damage
moved authority bytes g h i j ps qs base other number damage one two is other_is at =
    subst (λ (b : BaseView). IsDamagedAt authority b qs number damage) (same_state bytes g h i j ps qs base other one two is other_is)
    (subst (λ (rs : List (List ℕ)). IsDamagedAt authority base rs number damage) (same_payloads bytes g h i j ps qs one two) at)

-- a front with the image of a state that a history may begin with has no damaged image
not_image : (authority : Authority) (bytes : List ℕ) (g h : ℕ) (i j : List ℕ) (ps qs : List (List ℕ)) (base : BaseView) (damage : Damage) → IsFront bytes g i ps → IsFront bytes h j qs → IsImageOf base i → IsLawfulBase authority base →
    IsDamagedImage authority j damage → ⊥
not_image authority bytes g h i j ps qs base damage one two is lawful damaged = lawful_image authority base j damage (subst (IsImageOf base) (same_image bytes g h i j ps qs one two) is) lawful damaged

-- and no damaged payload, if its payloads are lawful
not_payload : (authority : Authority) (bytes : List ℕ) (g h : ℕ) (i j : List ℕ) (ps qs : List (List ℕ)) (base other : BaseView) (number : ℕ) (damage : Damage) → IsFront bytes g i ps → IsFront bytes h j qs → IsImageOf base i → IsImageOf other j →
    AreLawfulPayloads authority base ps → IsDamagedAt authority other qs number damage → ⊥
not_payload authority bytes g h i j ps qs base other number damage one two is other_is lawful at =
    lawful_not_damaged authority base ps lawful.events number damage lawful.read lawful.lawful (moved authority bytes h g j i qs ps other base number damage two one other_is is at)

pub damages_determined : (authority : Authority) (bytes : List ℕ) (m n : ℕ) (c d : Damage) → IsDamagedArea authority bytes m c → IsDamagedArea authority bytes n d → (m ≡ n) × (c ≡ d)
damages_determined authority bytes _ _ _ _ (no_base base) (no_base other) = (refl, refl)
damages_determined authority bytes _ _ _ _ (no_base base) (no_image h j qs d front damaged) = absurd (front_has_base bytes h j qs front base)
damages_determined authority bytes _ _ _ _ (no_base base) (no_payload h j b qs n d front is at) = absurd (front_has_base bytes h j qs front base)
damages_determined authority bytes _ _ _ _ (no_base base) (no_record h j b qs front is lawful is_open) = absurd (front_has_base bytes h j qs front base)
damages_determined authority bytes _ _ _ _ (no_image g i ps c front damaged) (no_base base) = absurd (front_has_base bytes g i ps front base)
damages_determined authority bytes _ _ _ _ (no_image g i ps c front damaged) (no_image h j qs d other other_damaged) =
    (refl, one_image_damage authority j c d (subst (λ (image : List ℕ). IsDamagedImage authority image c) (same_image bytes g h i j ps qs front other) damaged) other_damaged)
damages_determined authority bytes _ _ _ _ (no_image g i ps c front damaged) (no_payload h j b qs n d other is at) = absurd (not_image authority bytes h g j i qs ps b c other front is at.lawful.lawful_base damaged)
damages_determined authority bytes _ _ _ _ (no_image g i ps c front damaged) (no_record h j b qs other is lawful is_open) = absurd (not_image authority bytes h g j i qs ps b c other front is lawful.lawful.lawful_base damaged)
damages_determined authority bytes _ _ _ _ (no_payload g i a ps m c front is at) (no_base base) = absurd (front_has_base bytes g i ps front base)
damages_determined authority bytes _ _ _ _ (no_payload g i a ps m c front is at) (no_image h j qs d other damaged) = absurd (not_image authority bytes g h i j ps qs a d front other is at.lawful.lawful_base damaged)
damages_determined authority bytes _ _ _ _ (no_payload g i a ps m c front is at) (no_payload h j b qs n d other other_is other_at) =
    one_at authority b qs m n c d (moved authority bytes g h i j ps qs a b m c front other is other_is at) other_at
damages_determined authority bytes _ _ _ _ (no_payload g i a ps m c front is at) (no_record h j b qs other other_is lawful is_open) = absurd (not_payload authority bytes h g j i qs ps b a m c other front other_is is lawful at)
damages_determined authority bytes _ _ _ _ (no_record g i a ps front is lawful is_open) (no_base base) = absurd (front_has_base bytes g i ps front base)
damages_determined authority bytes _ _ _ _ (no_record g i a ps front is lawful is_open) (no_image h j qs d other damaged) = absurd (not_image authority bytes g h i j ps qs a d front other is lawful.lawful.lawful_base damaged)
damages_determined authority bytes _ _ _ _ (no_record g i a ps front is lawful is_open) (no_payload h j b qs n d other other_is at) = absurd (not_payload authority bytes g h i j ps qs a b n d front other is other_is lawful at)
damages_determined authority bytes _ _ _ _ (no_record g i a ps front is lawful is_open) (no_record h j b qs other other_is other_lawful other_open) =
    (ap (λ (rs : List (List ℕ)). length rs + 1) (same_payloads bytes g h i j ps qs front other), refl)

-- a front is open
pub damaged_open : (authority : Authority) (bytes : List ℕ) (number : ℕ) (damage : Damage) → IsDamagedArea authority bytes number damage → IsShut bytes → ⊥
damaged_open authority bytes _ _ (no_base base) shut = shut base.is_open
damaged_open authority bytes _ _ (no_image g i ps d front damaged) shut = shut (opens bytes g i ps front.fits front.front)
damaged_open authority bytes _ _ (no_payload g i b ps n d front is at) shut = shut (opens bytes g i ps front.fits front.front)
damaged_open authority bytes _ _ (no_record g i b ps front is lawful is_open) shut = shut (opens bytes g i ps front.fits front.front)

-- the payloads of a lawful history are of events of pass 0, which are lawful too
lawful_payloads : (authority : Authority) (base : BaseView) (events : List Event) → AreSpellable events → IsLawful authority base events → AreLawfulPayloads authority base (payloads_of events)
lawful_payloads authority base events spelled lawful = record {
  events = map erase events;
  read = record { payloads_are = sym (payloads_erased events); each = erased_read events spelled };
  lawful = erased_history authority base events lawful;
}

-- the front of bytes that stand for a history
stood : (bytes : List ℕ) (generation : ℕ) (base : BaseView) (events : List Event) (stands : StandsFor bytes generation base events) → IsFront bytes generation stands.image (payloads_of events)
stood bytes generation base events stands = area_front bytes generation stands.image (payloads_of events) stands.is_area

pub lawful_area : (authority : Authority) (bytes : List ℕ) (generation : ℕ) (base : BaseView) (events : List Event) (number : ℕ) (damage : Damage) → StandsFor bytes generation base events → IsLawful authority base events →
    IsDamagedArea authority bytes number damage → ⊥
lawful_area authority bytes generation base events _ _ stands lawful (no_base none) = front_has_base bytes generation stands.image (payloads_of events) (stood bytes generation base events stands) none
lawful_area authority bytes generation base events _ _ stands lawful (no_image g i ps damage front damaged) =
    not_image authority bytes generation g stands.image i (payloads_of events) ps base damage (stood bytes generation base events stands) front stands.is_image lawful.lawful_base damaged
lawful_area authority bytes generation base events _ _ stands lawful (no_payload g i b ps number damage front is at) =
    not_payload authority bytes generation g stands.image i (payloads_of events) ps base b number damage (stood bytes generation base events stands) front stands.is_image is (lawful_payloads authority base events stands.spelled lawful) at
lawful_area authority bytes generation base events _ _ stands lawful (no_record g i b ps front is found is_open) =
    let same = one_front bytes g generation i stands.image ps (payloads_of events) front (stood bytes generation base events stands) in
    stands.is_area.stands.shut (
    subst (λ (h : ℕ). get_or bytes (length (area_bytes h stands.image (payloads_of events))) 0 ≡ 1) same.0
    (subst (λ (image : List ℕ). get_or bytes (length (area_bytes g image (payloads_of events))) 0 ≡ 1) same.1
    (subst (λ (rs : List (List ℕ)). get_or bytes (length (area_bytes g i rs)) 0 ≡ 1) same.2 is_open)))

-- bytes stand for one history
pub one_history : (bytes : List ℕ) (m n : ℕ) (base other : BaseView) (events found : List Event) → StandsFor bytes m base events → StandsFor bytes n other found → (m ≡ n) × (base ≡ other) × (map erase events ≡ map erase found)
one_history bytes m n base other events found one two =
    let same = one_area bytes m n one.image two.image (payloads_of events) (payloads_of found) one.is_area two.is_area in (
      same.0,
      one_state base other two.image (subst (IsImageOf base) same.1 one.is_image) two.is_image,
      one_list (map erase events) (map erase found) (erased_read events one.spelled) (erased_read found two.spelled) (payloads_erased events ∙ same.2 ∙ sym (payloads_erased found)),
    )
