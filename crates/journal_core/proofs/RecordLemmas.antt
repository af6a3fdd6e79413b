-- Header, image and records in the bytes of an area.
use Rattle.std.proofs.Common.{◌≡◌, ◌≢◌, ℕ, ◌+◌, ◌-◌, ◌^◌, ◌<◌, ◌≤◌, List, [], ◌∷◌, ◌++◌, length, take, drop, get_or, Bool, true, false, not, refl, sym, ◌∙◌, ap, subst, inl, inr, ⊎_elim, arith, append_assoc, length-append, length-take, length-drop, take-append-drop, get_or-take, get_or-drop}
use Rattle.std.specs.Int.{w32, w64, to_be_bytes, from_be_bytes}
use Rattle.std.proofs.lemmas.Nat.{be_bytes_4, be_bytes_8, from_be_bytes-to_be_bytes_4, from_be_bytes-to_be_bytes_8}
use Rattle.std.proofs.lemmas.List.{append-nil, take_at, drop_at, take-take, drop-drop, drop_more, get_or_past}
use Rattle.std.proofs.lemmas.Bool.{cases_lt}
use Rattle.journal_core.specs.Area.{area_limit, magic, area_bytes, record_bytes, records, IsShut, Begins, IsArea, IsFront, HasNoBase, BreaksAfter, IsBroken}
use Rattle.journal_core.specs.Reports.{BaseEndsAt, RecordEndsAt, NoRecordAt, RecordsEndAt}
use Rattle.journal_core.specs.Faults.{BrokeAt, IsReported, IsFrontReported}
use Rattle.journal_core.specs.declared.scan.ScanFault.{ScanFault}
use Rattle.journal_core.specs.declared.scan.ScanFault.TheVariants.{Closed, Broken, Disk, NoMemory}
use Rattle.journal_core.proofs.AreaLemmas.{begins_within}

-- all numbers are bytes
abbrev pub AreBytes : List ℕ → Type 0
AreBytes bytes = (i : ℕ) → get_or bytes i 0 < 256

bytes_from : (n : ℕ) (bytes : List ℕ) → AreBytes bytes → AreBytes (drop n bytes)
bytes_from n bytes fits i = rw get_or-drop (fits (n + i))

bytes_of : (n : ℕ) (bytes : List ℕ) → AreBytes bytes → AreBytes (take n bytes)
bytes_of n bytes fits i =
    elim (cases_lt i n) [
      | inl lt ↦ rw (get_or-take n bytes i 0 lt) (fits i)
      | inr le ↦ rw (get_or_past (take n bytes) i 0 (omega (arith, length-take n bytes, le))) (omega arith)
    ]

-- ---- fronts

pub begins_split : (front bytes : List ℕ) → Begins front bytes → bytes ≡ front ++ drop (length front) bytes
begins_split front bytes begins = sym (take-append-drop (length front) bytes) ∙ ap (λ (b : List ℕ). b ++ drop (length front) bytes) begins

pub begins_by : (front rest bytes : List ℕ) → bytes ≡ front ++ rest → Begins front bytes
begins_by front rest bytes is = ap (take (length front)) is ∙ take_at front rest (length front) refl

pub begins_append : (front more bytes : List ℕ) → Begins front bytes → Begins more (drop (length front) bytes) → Begins (front ++ more) bytes
begins_append front more bytes first then =
    let rest = drop (length more) (drop (length front) bytes) in
    begins_by (front ++ more) rest bytes
    (begins_split front bytes first ∙ ap (λ (b : List ℕ). front ++ b) (begins_split more (drop (length front) bytes) then) ∙ sym (append_assoc front more rest))

pub begins_rest : (front more bytes : List ℕ) → Begins (front ++ more) bytes → Begins more (drop (length front) bytes)
begins_rest front more bytes begins =
    let rest = drop (length (front ++ more)) bytes in
    begins_by more rest (drop (length front) bytes)
    (ap (drop (length front)) (begins_split (front ++ more) bytes begins ∙ append_assoc front more rest) ∙ drop_at front (more ++ rest) (length front) refl)

-- ---- one record

pub record_length : (payload : List ℕ) → length (record_bytes payload) ≡ 5 + length payload
record_length payload = omega arith

module _ (bytes : List ℕ) (gate : ℕ) where
  abbrev after_gate : List ℕ
  after_gate = drop (gate + 1) bytes

  opened : get_or bytes gate 0 ≡ 1 → gate < length bytes → drop gate bytes ≡ 1 ∷ after_gate
  opened is_open within = drop_more bytes gate 0 within ∙ ap (λ (x : ℕ). x ∷ after_gate) is_open

  after_length : drop 4 after_gate ≡ drop (gate + 5) bytes
  after_length = drop-drop 4 (gate + 1) bytes ∙ ap (λ (n : ℕ). drop n bytes) (let same : gate + 1 + 4 ≡ gate + 5 = omega arith in same)

  pub record_found : (end : ℕ) → AreBytes bytes → get_or bytes gate 0 ≡ 1 → gate + 5 ≤ length bytes →
      end ≡ gate + 5 + from_be_bytes w32 (take 4 after_gate) → end ≤ length bytes →
      Begins (record_bytes (take (end - (gate + 5)) (drop (gate + 5) bytes))) (drop gate bytes)
  record_found end fits is_open long is within =
      let number = from_be_bytes w32 (take 4 after_gate) in
      let payload = take (end - (gate + 5)) (drop (gate + 5) bytes) in
      let rest = drop (end - (gate + 5)) (drop (gate + 5) bytes) in
      let counted : length payload ≡ number = omega (arith, is, within, long, length-take (end - (gate + 5)) (drop (gate + 5) bytes), length-drop (gate + 5) bytes) in
      let four : length (take 4 after_gate) ≡ 4 = omega (arith, long, length-take 4 after_gate, length-drop (gate + 1) bytes) in
      let spelled : to_be_bytes w32 (length payload) ≡ take 4 after_gate =
      ap (to_be_bytes w32) counted ∙ be_bytes_4 (take 4 after_gate) number four (bytes_of 4 after_gate (bytes_from (gate + 1) bytes fits)) refl in
      begins_by (record_bytes payload) rest (drop gate bytes) (
      opened is_open (omega (arith, long))
      ∙ ap (λ (b : List ℕ). 1 ∷ b) (
      sym (take-append-drop 4 after_gate)
      ∙ ap (λ (b : List ℕ). b ++ drop 4 after_gate) (sym spelled)
      ∙ ap (λ (b : List ℕ). to_be_bytes w32 (length payload) ++ b) (after_length ∙ sym (take-append-drop (end - (gate + 5)) (drop (gate + 5) bytes))))
      ∙ sym (append_assoc (1 ∷ to_be_bytes w32 (length payload)) payload rest))

  pub record_number : (payload : List ℕ) → length payload < 2 ^ 32 → Begins (record_bytes payload) (drop gate bytes) →
      from_be_bytes w32 (take 4 after_gate) ≡ length payload
  record_number payload short begins =
      let rest = drop (length (record_bytes payload)) (drop gate bytes) in
      let split : drop gate bytes ≡ record_bytes payload ++ rest = begins_split (record_bytes payload) (drop gate bytes) begins in
      let spelled : take 4 (drop 1 (record_bytes payload ++ rest)) ≡ to_be_bytes w32 (length payload) = refl in
      ap (λ (b : List ℕ). from_be_bytes w32 (take 4 b)) (sym (drop-drop 1 gate bytes) ∙ ap (drop 1) split)
      ∙ ap (from_be_bytes w32) spelled
      ∙ from_be_bytes-to_be_bytes_4 (length payload) short

  pub record_within : (payload : List ℕ) → Begins (record_bytes payload) (drop gate bytes) → gate + 5 + length payload ≤ length bytes
  record_within payload begins =
      omega (arith, begins_within (record_bytes payload) (drop gate bytes) begins, record_length payload, length-drop gate bytes)

-- ---- header and image

module _ (bytes : List ℕ) where
  pub base_found : (generation end : ℕ) → AreBytes bytes → get_or bytes 0 0 ≡ 1 → 24 ≤ end → end ≤ length bytes →
      take 7 (drop 1 bytes) ≡ magic → generation ≡ from_be_bytes w64 (take 8 (drop 8 bytes)) → end ≡ 24 + from_be_bytes w64 (take 8 (drop 16 bytes)) →
      Begins (area_bytes generation (take (end - 24) (drop 24 bytes)) []) bytes
  base_found generation end fits is_open low within named numbered is =
      let len = from_be_bytes w64 (take 8 (drop 16 bytes)) in
      let image = take (end - 24) (drop 24 bytes) in
      let rest = drop (end - 24) (drop 24 bytes) in
      let counted : length image ≡ len = omega (arith, is, within, low, length-take (end - 24) (drop 24 bytes), length-drop 24 bytes) in
      let first : to_be_bytes w64 generation ≡ take 8 (drop 8 bytes) =
      be_bytes_8 (take 8 (drop 8 bytes)) generation (omega (arith, low, within, length-take 8 (drop 8 bytes), length-drop 8 bytes)) (bytes_of 8 (drop 8 bytes) (bytes_from 8 bytes fits)) numbered in
      let second : to_be_bytes w64 (length image) ≡ take 8 (drop 16 bytes) =
      ap (to_be_bytes w64) counted ∙ be_bytes_8 (take 8 (drop 16 bytes)) len (omega (arith, low, within, length-take 8 (drop 16 bytes), length-drop 16 bytes)) (bytes_of 8 (drop 16 bytes) (bytes_from 16 bytes fits)) refl in
      let tail : drop 24 bytes ≡ image ++ rest = sym (take-append-drop (end - 24) (drop 24 bytes)) in
      let third : drop 16 bytes ≡ to_be_bytes w64 (length image) ++ (image ++ rest) =
      sym (take-append-drop 8 (drop 16 bytes)) ∙ ap (λ (b : List ℕ). b ++ drop 8 (drop 16 bytes)) (sym second)
      ∙ ap (λ (b : List ℕ). to_be_bytes w64 (length image) ++ b) (drop-drop 8 16 bytes ∙ tail) in
      let fourth : drop 8 bytes ≡ to_be_bytes w64 generation ++ (to_be_bytes w64 (length image) ++ (image ++ rest)) =
      sym (take-append-drop 8 (drop 8 bytes)) ∙ ap (λ (b : List ℕ). b ++ drop 8 (drop 8 bytes)) (sym first)
      ∙ ap (λ (b : List ℕ). to_be_bytes w64 generation ++ b) (drop-drop 8 8 bytes ∙ third) in
      let fifth : drop 1 bytes ≡ magic ++ (to_be_bytes w64 generation ++ (to_be_bytes w64 (length image) ++ (image ++ rest))) =
      sym (take-append-drop 7 (drop 1 bytes)) ∙ ap (λ (b : List ℕ). b ++ drop 7 (drop 1 bytes)) named
      ∙ ap (λ (b : List ℕ). magic ++ b) (drop-drop 7 1 bytes ∙ fourth) in
      begins_by (area_bytes generation image []) rest bytes (
      drop_more bytes 0 0 (omega (arith, low, within))
      ∙ ap (λ (x : ℕ). x ∷ drop 1 bytes) is_open
      ∙ ap (λ (b : List ℕ). 1 ∷ b) fifth
      ∙ ap (λ (b : List ℕ). 1 ∷ magic ++ (to_be_bytes w64 generation ++ (to_be_bytes w64 (length image) ++ (b ++ rest)))) (sym (append-nil image)))

  module _ (generation : ℕ) (image : List ℕ) (begins : Begins (area_bytes generation image []) bytes) where
    split : bytes ≡ area_bytes generation image [] ++ drop (length (area_bytes generation image [])) bytes
    split = begins_split (area_bytes generation image []) bytes begins

    pub base_name : take 7 (drop 1 bytes) ≡ magic
    base_name = ap (λ (b : List ℕ). take 7 (drop 1 b)) split

    pub base_generation : generation < 2 ^ 64 → from_be_bytes w64 (take 8 (drop 8 bytes)) ≡ generation
    base_generation short = ap (λ (b : List ℕ). from_be_bytes w64 (take 8 (drop 8 b))) split ∙ from_be_bytes-to_be_bytes_8 generation short

    pub base_length : length image < 2 ^ 64 → from_be_bytes w64 (take 8 (drop 16 bytes)) ≡ length image
    base_length short = ap (λ (b : List ℕ). from_be_bytes w64 (take 8 (drop 16 b))) split ∙ from_be_bytes-to_be_bytes_8 (length image) short

    pub base_within : 24 + length image ≤ length bytes
    base_within = omega (arith, begins_within (area_bytes generation image []) bytes begins, ap length (append-nil image))

-- ---- all records

pub records_push : (payloads : List (List ℕ)) (payload : List ℕ) → records (payloads ++ payload ∷ []) ≡ records payloads ++ record_bytes payload
records_push [] payload = append-nil (record_bytes payload)
records_push (first ∷ payloads) payload =
    ap (λ (b : List ℕ). record_bytes first ++ b) (records_push payloads payload) ∙ sym (append_assoc (record_bytes first) (records payloads) (record_bytes payload))

pub none_yet : (bytes : List ℕ) (from : ℕ) → from < area_limit → from ≤ length bytes → RecordsEndAt bytes from [] from
none_yet bytes from high within = record { front = refl; is = omega arith; high = high; within = within }

pub one_more : (bytes : List ℕ) (from gate end : ℕ) (payloads : List (List ℕ)) (payload : List ℕ) → RecordsEndAt bytes from payloads gate →
    RecordEndsAt bytes gate end → payload ≡ take (end - (gate + 5)) (drop (gate + 5) bytes) → RecordsEndAt bytes from (payloads ++ payload ∷ []) end
one_more bytes from gate end payloads payload so_far next is =
    let counted : length payload ≡ end - (gate + 5) = omega (arith, ap length is, next.low, next.within, length-take (end - (gate + 5)) (drop (gate + 5) bytes), length-drop (gate + 5) bytes) in
    let here : drop (length (records payloads)) (drop from bytes) ≡ drop gate bytes =
    drop-drop (length (records payloads)) from bytes ∙ ap (λ (n : ℕ). drop n bytes) (sym so_far.is) in
    let begins : Begins (record_bytes payload) (drop (length (records payloads)) (drop from bytes)) =
    subst (λ (b : List ℕ). Begins (record_bytes payload) b) (sym here) (subst (λ (p : List ℕ). Begins (record_bytes p) (drop gate bytes)) (sym is) next.front) in
    record {
      front = subst (λ (b : List ℕ). Begins b (drop from bytes)) (sym (records_push payloads payload)) (begins_append (records payloads) (record_bytes payload) (drop from bytes) so_far.front begins);
      is = omega (arith, so_far.is, next.low, counted, record_length payload, ap length (records_push payloads payload), length-append (records payloads) (record_bytes payload));
      high = next.high;
      within = next.within;
    }

-- header and image, and then the records
pub area_split : (generation : ℕ) (image : List ℕ) (payloads : List (List ℕ)) → area_bytes generation image payloads ≡ area_bytes generation image [] ++ records payloads
area_split generation image payloads = ap (λ (b : List ℕ). b ++ records payloads) (sym (append-nil (1 ∷ (magic ++ to_be_bytes w64 generation ++ to_be_bytes w64 (length image) ++ image))))

module _ (bytes : List ℕ) (generation from end : ℕ) (base : BaseEndsAt bytes generation from) (payloads : List (List ℕ)) (ends : RecordsEndAt bytes from payloads end) where
  abbrev image_there : List ℕ
  image_there = take (from - 24) (drop 24 bytes)

  base_long : length (area_bytes generation image_there []) ≡ from
  base_long = omega (arith, base.low, base.within, ap length (append-nil image_there), length-take (from - 24) (drop 24 bytes), length-drop 24 bytes)

  pub area_long : length (area_bytes generation image_there payloads) ≡ end
  area_long = omega (arith, ap length (area_split generation image_there payloads), length-append (area_bytes generation image_there []) (records payloads), base_long, ends.is)

  pub area_begins : Begins (area_bytes generation image_there payloads) bytes
  area_begins =
      subst (λ (b : List ℕ). Begins b bytes) (sym (area_split generation image_there payloads))
      (begins_append (area_bytes generation image_there []) (records payloads) bytes base.front
      (subst (λ (n : ℕ). Begins (records payloads) (drop n bytes)) (sym base_long) ends.front))

  pub area_found : get_or bytes end 0 ≢ 1 → IsArea bytes generation image_there payloads
  area_found shut = record {
    generated = base.generated;
    fits = omega (arith, area_long, ends.high);
    stands = record { front = area_begins; shut = λ is_open. shut (ap (λ (n : ℕ). get_or bytes n 0) (sym area_long) ∙ is_open) };
  }

  none_further : NoRecordAt bytes end → (payload : List ℕ) → length (area_bytes generation image_there payloads ++ record_bytes payload) < area_limit →
      Begins (area_bytes generation image_there payloads ++ record_bytes payload) bytes → ⊥
  none_further none payload fits begins =
      none payload
      (omega (arith, fits, area_long, record_length payload, length-append (area_bytes generation image_there payloads) (record_bytes payload)))
      (subst (λ (n : ℕ). Begins (record_bytes payload) (drop n bytes)) area_long (begins_rest (area_bytes generation image_there payloads) (record_bytes payload) bytes begins))

  pub area_broken : get_or bytes end 0 ≡ 1 → NoRecordAt bytes end → BreaksAfter (length payloads) bytes
  area_broken is_open none = record {
    generation = generation;
    image = image_there;
    payloads = payloads;
    counted = refl;
    generated = base.generated;
    fits = omega (arith, area_long, ends.high);
    front = area_begins;
    is_open = ap (λ (n : ℕ). get_or bytes n 0) area_long ∙ is_open;
    none = none_further none;
  }

  pub front_found : (get_or bytes end 0 ≡ 1 → NoRecordAt bytes end) → IsFront bytes generation image_there payloads
  front_found none = record {
    generated = base.generated;
    fits = omega (arith, area_long, ends.high);
    front = area_begins;
    last = λ is_open. none_further (none (ap (λ (n : ℕ). get_or bytes n 0) (sym area_long) ∙ is_open));
  }

-- ---- bytes past the limit

module _ (bytes : List ℕ) where
  abbrev cut : List ℕ
  cut = take area_limit bytes

  longer : (front : List ℕ) → length front < area_limit → Begins front cut → Begins front bytes
  longer front short begins = sym (take-take (length front) area_limit bytes (omega (arith, short))) ∙ begins

  shorter : (front : List ℕ) → length front < area_limit → Begins front bytes → Begins front cut
  shorter front short begins = take-take (length front) area_limit bytes (omega (arith, short)) ∙ begins

  byte : (n : ℕ) → n < area_limit → get_or cut n 0 ≡ get_or bytes n 0
  byte n short = get_or-take area_limit bytes n 0 short

  pub area_past : (generation : ℕ) (image : List ℕ) (payloads : List (List ℕ)) → IsArea cut generation image payloads → IsArea bytes generation image payloads
  area_past generation image payloads is = record {
    generated = is.generated;
    fits = is.fits;
    stands = record {
      front = longer (area_bytes generation image payloads) is.fits is.stands.front;
      shut = λ is_open. is.stands.shut (byte (length (area_bytes generation image payloads)) is.fits ∙ is_open);
    };
  }

  pub front_past : (generation : ℕ) (image : List ℕ) (payloads : List (List ℕ)) → IsFront cut generation image payloads → IsFront bytes generation image payloads
  front_past generation image payloads is = record {
    generated = is.generated;
    fits = is.fits;
    front = longer (area_bytes generation image payloads) is.fits is.front;
    last = λ is_open payload fits begins. is.last (byte (length (area_bytes generation image payloads)) is.fits ∙ is_open) payload fits (shorter (area_bytes generation image payloads ++ record_bytes payload) fits begins);
  }

  pub shut_past : IsShut cut → IsShut bytes
  shut_past shut is_open = shut (byte 0 (omega arith) ∙ is_open)

  pub base_past : HasNoBase cut → HasNoBase bytes
  base_past is = record {
    is_open = sym (byte 0 (omega arith)) ∙ is.is_open;
    none = λ generation image generated fits begins. is.none generation image generated fits (shorter (area_bytes generation image []) fits begins);
  }

  breaks_past : (count : ℕ) → BreaksAfter count cut → BreaksAfter count bytes
  breaks_past count is = record {
    generation = is.generation;
    image = is.image;
    payloads = is.payloads;
    counted = is.counted;
    generated = is.generated;
    fits = is.fits;
    front = longer (area_bytes is.generation is.image is.payloads) is.fits is.front;
    is_open = sym (byte (length (area_bytes is.generation is.image is.payloads)) is.fits) ∙ is.is_open;
    none = λ payload fits begins. is.none payload fits (shorter (area_bytes is.generation is.image is.payloads ++ record_bytes payload) fits begins);
  }

  pub broken_past : (number : ℕ) → IsBroken number cut → IsBroken number bytes
  broken_past number is = ⊎_elim (λ base. inl (base.0, base_past base.1)) (λ breaks. inr (breaks.0, breaks.1, breaks_past breaks.0 breaks.2)) is

-- ---- faults

module _ (bytes : List ℕ) (generation from : ℕ) (base : BaseEndsAt bytes generation from) where
  pub reported : (fault : ScanFault) → BrokeAt fault bytes from → IsReported fault bytes
  reported Closed broke = absurd broke
  reported (Broken number) broke =
      let breaks = broke.2 in
      inr (
        broke.0,
        broke.1,
        subst (λ (n : ℕ). BreaksAfter n bytes) breaks.counted
            (area_broken bytes generation from breaks.end base breaks.payloads breaks.ends breaks.is_open breaks.none),
      )
  reported Disk broke = absurd broke
  reported NoMemory broke = tt

pub reported_past : (bytes : List ℕ) (fault : ScanFault) → IsReported fault (take area_limit bytes) → IsReported fault bytes
reported_past bytes Closed report = shut_past bytes report
reported_past bytes (Broken number) report = broken_past bytes number report
reported_past bytes Disk report = absurd report
reported_past bytes NoMemory report = tt

pub front_reported_past : (bytes : List ℕ) (fault : ScanFault) → IsFrontReported fault (take area_limit bytes) → IsFrontReported fault bytes
front_reported_past bytes Closed report = shut_past bytes report
front_reported_past bytes (Broken number) report = (report.0, base_past bytes report.1)
front_reported_past bytes Disk report = absurd report
front_reported_past bytes NoMemory report = tt

-- a test for a difference that failed
pub named_by : (same differs : Bool) → differs ≡ not same → differs ≡ false → same ≡ true
named_by true differs e f = refl
named_by false differs e f = absurd cc
