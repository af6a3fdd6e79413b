-- Each string of bytes is shut, an area, or broken.
use Rattle.std.proofs.Common.{◌≡◌, ◌⊎◌, ℕ, zero, suc, ◌+◌, ◌^◌, ◌<◌, ◌≤◌, List, [], ◌∷◌, ◌++◌, length, take, drop, get_or, refl, sym, ◌∙◌, ap, subst, inl, inr, arith, append_assoc, length-append}
use Rattle.std.specs.Int.{w32, w64, from_be_bytes}
use Rattle.std.specs.Str.{bytes_eq}
use Rattle.std.proofs.lemmas.Bool.{cases_lt, cases_eq, cases_Bool, both_ways}
use Rattle.std.proofs.lemmas.List.{append-nil, take_at, drop-drop}
use Rattle.std.proofs.lemmas.Slice.Eq.{bytes_eq-Decides}
use Rattle.journal_core.specs.Area.{area_limit, base_bytes, area_bytes, record_bytes, records, IsShut, Begins, IsGeneration, IsArea, HasNoBase, BreaksAfter, IsBroken, IsSomeArea}
use Rattle.journal_core.proofs.RecordLemmas.{begins_split, begins_append, begins_rest, record_number, record_length, records_push, base_generation, base_length}
use Rattle.journal_core.proofs.ReadingLemmas.{image_at}

begins_or_not : (front bytes : List ℕ) → Begins front bytes ⊎ (Begins front bytes → ⊥)
begins_or_not front bytes =
    let decides = bytes_eq-Decides (take (length front) bytes) front in
    elim (cases_Bool (bytes_eq (take (length front) bytes) front)) [
      | inl same ↦ inl (decides.0 same)
      | inr differ ↦ inr (λ begins. both_ways (bytes_eq (take (length front) bytes) front) differ (decides.1 begins))
    ]

generation_or_not : (generation : ℕ) → IsGeneration generation ⊎ (IsGeneration generation → ⊥)
generation_or_not generation =
    elim (cases_lt generation 1) [
      | inl none ↦ inr (λ is. omega (arith, none, is.low))
      | inr low ↦ elim (cases_lt generation (2 ^ 48)) [
        | inl high ↦ inl (record { low = low; high = high })
        | inr past ↦ inr (λ is. omega (arith, past, is.high))
      ]
    ]

-- an area without its closed gate begins the bytes, and leaves room for the gate
record HasFront (bytes : List ℕ) (generation : ℕ) (image : List ℕ) (payloads : List (List ℕ)) : Type 0 where
  generated : IsGeneration generation
  fits : length (area_bytes generation image payloads) < area_limit
  front : Begins (area_bytes generation image payloads) bytes

-- one more record
area_more : (generation : ℕ) (image : List ℕ) (payloads : List (List ℕ)) (payload : List ℕ) →
    area_bytes generation image (payloads ++ payload ∷ []) ≡ area_bytes generation image payloads ++ record_bytes payload
area_more generation image payloads payload =
    ap (λ (b : List ℕ). 1 ∷ base_bytes generation image ++ b) (records_push payloads payload)
    ∙ sym (append_assoc (1 ∷ base_bytes generation image) (records payloads) (record_bytes payload))

length_more : (generation : ℕ) (image : List ℕ) (payloads : List (List ℕ)) (payload : List ℕ) →
    length (area_bytes generation image (payloads ++ payload ∷ [])) ≡ length (area_bytes generation image payloads) + 5 + length payload
length_more generation image payloads payload =
    omega (arith, ap length (area_more generation image payloads payload), length-append (area_bytes generation image payloads) (record_bytes payload), record_length payload)

module _ (bytes : List ℕ) where
  -- ---- header and image

  abbrev shown_generation : ℕ
  shown_generation = from_be_bytes w64 (take 8 (drop 8 bytes))

  abbrev shown_image : List ℕ
  shown_image = take (from_be_bytes w64 (take 8 (drop 16 bytes))) (drop 24 bytes)

  -- there are no others
  same_base : (generation : ℕ) (image : List ℕ) → HasFront bytes generation image [] → HasFront bytes shown_generation shown_image []
  same_base generation image has =
      let number : shown_generation ≡ generation = base_generation bytes generation image has.front (omega (arith, has.generated.high)) in
      let long : from_be_bytes w64 (take 8 (drop 16 bytes)) ≡ length image =
      base_length bytes generation image has.front (omega (arith, has.fits, ap length (append-nil image))) in
      let same : shown_image ≡ image = ap (λ (n : ℕ). take n (drop 24 bytes)) long ∙ image_at bytes generation image has.front in
      subst (λ (g : ℕ). HasFront bytes g shown_image []) (sym number)
      (subst (λ (i : List ℕ). HasFront bytes generation i []) (sym same) has)

  base_or_not : HasFront bytes shown_generation shown_image [] ⊎ (HasFront bytes shown_generation shown_image [] → ⊥)
  base_or_not =
      elim (generation_or_not shown_generation) [
        | inr none ↦ inr (λ has. none has.generated)
        | inl generated ↦ elim (cases_lt (length (area_bytes shown_generation shown_image [])) area_limit) [
          | inr past ↦ inr (λ has. omega (arith, past, has.fits))
          | inl fits ↦ elim (begins_or_not (area_bytes shown_generation shown_image []) bytes) [
            | inr none ↦ inr (λ has. none has.front)
            | inl front ↦ inl (record { generated = generated; fits = fits; front = front })
          ]
        ]
      ]

  no_base : get_or bytes 0 0 ≡ 1 → (HasFront bytes shown_generation shown_image [] → ⊥) → HasNoBase bytes
  no_base is_open none = record {
    is_open = is_open;
    none = λ generation image generated fits front. none (same_base generation image (record { generated = generated; fits = fits; front = front }));
  }

  -- ---- one record

  module _ (gate : ℕ) where
    abbrev shown_payload : List ℕ
    shown_payload = take (from_be_bytes w32 (take 4 (drop (gate + 1) bytes))) (drop (gate + 5) bytes)

    payload_at : (payload : List ℕ) → Begins (record_bytes payload) (drop gate bytes) → take (length payload) (drop (gate + 5) bytes) ≡ payload
    payload_at payload begins =
        let rest = drop (length (record_bytes payload)) (drop gate bytes) in
        ap (take (length payload)) (sym (drop-drop 5 gate bytes) ∙ ap (drop 5) (begins_split (record_bytes payload) (drop gate bytes) begins))
        ∙ take_at payload rest (length payload) refl

    same_payload : (payload : List ℕ) → length payload < 2 ^ 32 → Begins (record_bytes payload) (drop gate bytes) → shown_payload ≡ payload
    same_payload payload short begins =
        ap (λ (n : ℕ). take n (drop (gate + 5) bytes)) (record_number bytes gate payload short begins) ∙ payload_at payload begins

    -- a record that begins here and leaves room for a closed gate
    abbrev HasRecord : List ℕ → Type 0
    HasRecord payload = (gate + 5 + length payload < area_limit) × Begins (record_bytes payload) (drop gate bytes)

    record_or_not : HasRecord shown_payload ⊎ (HasRecord shown_payload → ⊥)
    record_or_not =
        elim (cases_lt (gate + 5 + length shown_payload) area_limit) [
          | inr past ↦ inr (λ has. omega (arith, past, has.0))
          | inl fits ↦ elim (begins_or_not (record_bytes shown_payload) (drop gate bytes)) [
            | inr none ↦ inr (λ has. none has.1)
            | inl begins ↦ inl (fits, begins)
          ]
        ]

    same_record : (payload : List ℕ) → HasRecord payload → HasRecord shown_payload
    same_record payload has =
        subst HasRecord (sym (same_payload payload (omega (arith, has.0)) has.1)) has

  -- ---- all records

  module _ (generation : ℕ) (image : List ℕ) (payloads : List (List ℕ)) (has : HasFront bytes generation image payloads) where
    abbrev end : ℕ
    end = length (area_bytes generation image payloads)

    goes_on : (payload : List ℕ) → HasRecord end payload → HasFront bytes generation image (payloads ++ payload ∷ [])
    goes_on payload more = record {
      generated = has.generated;
      fits = omega (arith, more.0, length_more generation image payloads payload);
      front = subst (λ (b : List ℕ). Begins b bytes) (sym (area_more generation image payloads payload))
          (begins_append (area_bytes generation image payloads) (record_bytes payload) bytes has.front more.1);
    }

    ends : (get_or bytes end 0 ≡ 1 → ⊥) → IsArea bytes generation image payloads
    ends shut = record { generated = has.generated; fits = has.fits; stands = record { front = has.front; shut = shut } }

    breaks : get_or bytes end 0 ≡ 1 → (HasRecord end (shown_payload end) → ⊥) → BreaksAfter (length payloads) bytes
    breaks is_open none = record {
      generation = generation;
      image = image;
      payloads = payloads;
      counted = refl;
      generated = has.generated;
      fits = has.fits;
      front = has.front;
      is_open = is_open;
      none = λ payload fits front. none (same_record end payload (
        omega (arith, fits, length-append (area_bytes generation image payloads) (record_bytes payload), record_length payload),
        begins_rest (area_bytes generation image payloads) (record_bytes payload) bytes front,
      ));
    }

  abbrev Reading : Type 0
  Reading = IsSomeArea bytes ⊎ ((number : ℕ) × IsBroken number bytes)

  read_on : (fuel : ℕ) (generation : ℕ) (image : List ℕ) (payloads : List (List ℕ)) → HasFront bytes generation image payloads →
      area_limit ≤ length (area_bytes generation image payloads) + fuel → Reading
  read_on zero generation image payloads has enough = absurd (omega (arith, enough, has.fits))
  read_on (suc fuel) generation image payloads has enough =
      let gate = length (area_bytes generation image payloads) in
      elim (cases_eq (get_or bytes gate 0) 1) [
        | inr shut ↦ inl (generation, image, payloads, ends generation image payloads has shut)
        | inl is_open ↦ elim (record_or_not gate) [
          | inr none ↦ inr (length payloads + 1, inr (length payloads, refl, breaks generation image payloads has is_open none))
          | inl more ↦ read_on fuel generation image (payloads ++ shown_payload gate ∷ []) (goes_on generation image payloads has (shown_payload gate) more)
              (omega (arith, enough, length_more generation image payloads (shown_payload gate)))
        ]
      ]

  pub one_of_three : IsShut bytes ⊎ Reading
  one_of_three =
      elim (cases_eq (get_or bytes 0 0) 1) [
        | inr shut ↦ inl shut
        | inl is_open ↦ inr (elim base_or_not [
          | inr none ↦ inr (0, inl (refl, no_base is_open none))
          | inl has ↦ read_on area_limit shown_generation shown_image [] has (omega arith)
        ])
      ]
