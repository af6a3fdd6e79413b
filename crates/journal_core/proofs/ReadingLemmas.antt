-- Each string of bytes has one reading as an area.
use Rattle.std.proofs.Common.{◌≡◌, ◌≢◌, ◌⊎◌, ℕ, ◌+◌, ◌^◌, ◌<◌, ◌≤◌, List, [], ◌∷◌, ◌++◌, length, take, drop, get_or, refl, sym, ◌∙◌, ap, subst, inl, inr, ⊎_elim, arith, append_assoc, length-append, get_or-drop}
use Rattle.std.proofs.lemmas.List.{append-nil, take_at, drop-drop}
use Rattle.journal_core.specs.Area.{area_limit, area_bytes, record_bytes, records, IsShut, Begins, IsGeneration, IsArea, IsFront, HasNoBase, BreaksAfter, IsBroken}
use Rattle.journal_core.proofs.RecordLemmas.{begins_split, begins_by, begins_append, begins_rest, record_number, record_length, base_generation, base_length, area_split}

begins_front : (front more bytes : List ℕ) → Begins (front ++ more) bytes → Begins front bytes
begins_front front more bytes begins =
    begins_by front (more ++ drop (length (front ++ more)) bytes) bytes
    (begins_split (front ++ more) bytes begins ∙ append_assoc front more (drop (length (front ++ more)) bytes))

-- ---- one record

record_same : (bytes p q : List ℕ) → length p < 2 ^ 32 → length q < 2 ^ 32 → Begins (record_bytes p) bytes → Begins (record_bytes q) bytes → p ≡ q
record_same bytes p q short_p short_q begins_p begins_q =
    let same : length p ≡ length q = sym (record_number bytes 0 p short_p begins_p) ∙ record_number bytes 0 q short_q begins_q in
    let long : length (record_bytes p) ≡ length (record_bytes q) = omega (arith, same, record_length p, record_length q) in
    let whole : record_bytes p ≡ record_bytes q = sym begins_p ∙ ap (λ (n : ℕ). take n bytes) long ∙ begins_q in
    ap (drop 5) whole

-- a record begins with an open gate
record_opens : (bytes p : List ℕ) → Begins (record_bytes p) bytes → get_or bytes 0 0 ≡ 1
record_opens bytes p begins = ap (λ (b : List ℕ). get_or b 0 0) (begins_split (record_bytes p) bytes begins)

-- ---- two lists of records

-- after the records of the first list one more of the second begins
abbrev GoesOn : List (List ℕ) → List (List ℕ) → List ℕ → Type 0
GoesOn ps qs bytes = (x : List ℕ) × Begins (record_bytes x) (drop (length (records ps)) bytes) × (length (records ps) + 5 + length x ≤ length (records qs))

goes_on : (p : List ℕ) (ps qs : List (List ℕ)) (bytes : List ℕ) → GoesOn ps qs (drop (length (record_bytes p)) bytes) → GoesOn (p ∷ ps) (p ∷ qs) bytes
goes_on p ps qs bytes more =
    let same : drop (length (records ps)) (drop (length (record_bytes p)) bytes) ≡ drop (length (record_bytes p ++ records ps)) bytes =
    drop-drop (length (records ps)) (length (record_bytes p)) bytes ∙ ap (λ (n : ℕ). drop n bytes) (sym (length-append (record_bytes p) (records ps))) in
    (more.0, subst (λ (b : List ℕ). Begins (record_bytes more.0) b) same more.1, omega (arith, more.2, length-append (record_bytes p) (records ps), length-append (record_bytes p) (records qs)))

compare : (ps qs : List (List ℕ)) (bytes : List ℕ) → length (records ps) < 2 ^ 32 → length (records qs) < 2 ^ 32 →
    Begins (records ps) bytes → Begins (records qs) bytes → (ps ≡ qs) ⊎ (GoesOn ps qs bytes ⊎ GoesOn qs ps bytes)
compare [] [] bytes short_p short_q begins_p begins_q = inl refl
compare [] (q ∷ qs) bytes short_p short_q begins_p begins_q =
    inr (inl (q, begins_front (record_bytes q) (records qs) bytes begins_q, omega (arith, record_length q, length-append (record_bytes q) (records qs))))
compare (p ∷ ps) [] bytes short_p short_q begins_p begins_q =
    inr (inr (p, begins_front (record_bytes p) (records ps) bytes begins_p, omega (arith, record_length p, length-append (record_bytes p) (records ps))))
compare (p ∷ ps) (q ∷ qs) bytes short_p short_q begins_p begins_q =
    let long_p = length-append (record_bytes p) (records ps) in
    let long_q = length-append (record_bytes q) (records qs) in
    let same : p ≡ q = record_same bytes p q (omega (arith, short_p, long_p, record_length p)) (omega (arith, short_q, long_q, record_length q))
    (begins_front (record_bytes p) (records ps) bytes begins_p) (begins_front (record_bytes q) (records qs) bytes begins_q) in
    let rest = drop (length (record_bytes p)) bytes in
    let rest_q : Begins (records qs) rest = subst (λ (r : List ℕ). Begins (records qs) (drop (length (record_bytes r)) bytes)) (sym same) (begins_rest (record_bytes q) (records qs) bytes begins_q) in
    let next = compare ps qs rest (omega (arith, short_p, long_p)) (omega (arith, short_q, long_q)) (begins_rest (record_bytes p) (records ps) bytes begins_p) rest_q in
    subst (λ (r : List ℕ). (p ∷ ps ≡ r ∷ qs) ⊎ (GoesOn (p ∷ ps) (r ∷ qs) bytes ⊎ GoesOn (r ∷ qs) (p ∷ ps) bytes)) same
    (⊎_elim (λ all. inl (ap (λ (rs : List (List ℕ)). p ∷ rs) all))
    (λ differ. inr (⊎_elim (λ more. inl (goes_on p ps qs bytes more)) (λ more. inr (goes_on p qs ps bytes more)) differ)) next)

-- ---- areas

-- the image is what stands after the header
pub image_at : (bytes : List ℕ) (generation : ℕ) (image : List ℕ) → Begins (area_bytes generation image []) bytes → take (length image) (drop 24 bytes) ≡ image
image_at bytes generation image begins =
    let rest = drop (length (area_bytes generation image [])) bytes in
    ap (λ (b : List ℕ). take (length image) (drop 24 b)) (begins_split (area_bytes generation image []) bytes begins)
    ∙ ap (λ (b : List ℕ). take (length image) (b ++ rest)) (append-nil image)
    ∙ take_at image rest (length image) refl

module _ (bytes : List ℕ) (g h : ℕ) (i j : List ℕ) (generated_g : IsGeneration g) (generated_h : IsGeneration h)
    (fits_g : length (area_bytes g i []) < area_limit) (fits_h : length (area_bytes h j []) < area_limit)
    (begins_g : Begins (area_bytes g i []) bytes) (begins_h : Begins (area_bytes h j []) bytes) where
  pub generation_same : g ≡ h
  generation_same = sym (base_generation bytes g i begins_g (omega (arith, generated_g.high))) ∙ base_generation bytes h j begins_h (omega (arith, generated_h.high))

  length_same : length i ≡ length j
  length_same =
      sym (base_length bytes g i begins_g (omega (arith, fits_g, ap length (append-nil i))))
      ∙ base_length bytes h j begins_h (omega (arith, fits_h, ap length (append-nil j)))

  pub image_same : i ≡ j
  image_same = sym (image_at bytes g i begins_g) ∙ ap (λ (n : ℕ). take n (drop 24 bytes)) length_same ∙ image_at bytes h j begins_h

  pub base_same : length (area_bytes g i []) ≡ length (area_bytes h j [])
  base_same = omega (arith, length_same, ap length (append-nil i), ap length (append-nil j))

-- header and image of a whole front
module _ (bytes : List ℕ) (g : ℕ) (i : List ℕ) (ps : List (List ℕ)) (fits : length (area_bytes g i ps) < area_limit) (begins : Begins (area_bytes g i ps) bytes) where
  whole : Begins (area_bytes g i [] ++ records ps) bytes
  whole = subst (λ (b : List ℕ). Begins b bytes) (area_split g i ps) begins

  pub base_begins : Begins (area_bytes g i []) bytes
  base_begins = begins_front (area_bytes g i []) (records ps) bytes whole

  pub records_begin : Begins (records ps) (drop (length (area_bytes g i [])) bytes)
  records_begin = begins_rest (area_bytes g i []) (records ps) bytes whole

  pub long : length (area_bytes g i ps) ≡ length (area_bytes g i []) + length (records ps)
  long = ap length (area_split g i ps) ∙ length-append (area_bytes g i []) (records ps)

  pub base_fits : length (area_bytes g i []) < area_limit
  base_fits = omega (arith, fits, long)

  pub opens : get_or bytes 0 0 ≡ 1
  opens = ap (λ (b : List ℕ). get_or b 0 0) (begins_split (area_bytes g i ps) bytes begins)

-- two fronts of the same bytes
module _ (bytes : List ℕ) (g h : ℕ) (i j : List ℕ) (ps qs : List (List ℕ)) (generated_g : IsGeneration g) (generated_h : IsGeneration h)
    (fits_g : length (area_bytes g i ps) < area_limit) (fits_h : length (area_bytes h j qs) < area_limit)
    (begins_g : Begins (area_bytes g i ps) bytes) (begins_h : Begins (area_bytes h j qs) bytes) where
  abbrev from : ℕ
  from = length (area_bytes g i [])

  from_same : from ≡ length (area_bytes h j [])
  from_same = base_same bytes g h i j generated_g generated_h (base_fits bytes g i ps fits_g begins_g) (base_fits bytes h j qs fits_h begins_h) (base_begins bytes g i ps fits_g begins_g) (base_begins bytes h j qs fits_h begins_h)

  pub fronts : (ps ≡ qs) ⊎ (GoesOn ps qs (drop from bytes) ⊎ GoesOn qs ps (drop from bytes))
  fronts = compare ps qs (drop from bytes)
      (omega (arith, fits_g, long bytes g i ps fits_g begins_g)) (omega (arith, fits_h, long bytes h j qs fits_h begins_h))
      (records_begin bytes g i ps fits_g begins_g)
      (subst (λ (n : ℕ). Begins (records qs) (drop n bytes)) (sym from_same) (records_begin bytes h j qs fits_h begins_h))

  -- the second goes on where the first ends
  pub more_after : GoesOn ps qs (drop from bytes) → (x : List ℕ) × Begins (record_bytes x) (drop (length (area_bytes g i ps)) bytes) × (length (area_bytes g i ps) + 5 + length x < area_limit)
  more_after more =
      let same : drop (length (records ps)) (drop from bytes) ≡ drop (length (area_bytes g i ps)) bytes =
      drop-drop (length (records ps)) from bytes ∙ ap (λ (n : ℕ). drop n bytes) (sym (long bytes g i ps fits_g begins_g)) in (
        more.0,
        subst (λ (b : List ℕ). Begins (record_bytes more.0) b) same more.1,
        omega (arith, more.2, fits_h, from_same, long bytes g i ps fits_g begins_g, long bytes h j qs fits_h begins_h),
      )

-- after an area no record begins
no_more : (bytes body x : List ℕ) → get_or bytes (length body) 0 ≢ 1 → Begins (record_bytes x) (drop (length body) bytes) → ⊥
no_more bytes body x shut begins =
    shut (ap (λ (n : ℕ). get_or bytes n 0) (let same : length body ≡ length body + 0 = omega arith in same) ∙ sym (get_or-drop (length body) bytes 0 0) ∙ record_opens (drop (length body) bytes) x begins)

-- after a front no whole record begins
front_there : (bytes : List ℕ) (g : ℕ) (i : List ℕ) (ps : List (List ℕ)) (x : List ℕ) → IsFront bytes g i ps → Begins (record_bytes x) (drop (length (area_bytes g i ps)) bytes) → length (area_bytes g i ps) + 5 + length x < area_limit → ⊥
front_there bytes g i ps x is begins fits =
    no_more bytes (area_bytes g i ps) x
    (λ is_open. is.last is_open x (omega (arith, fits, record_length x, length-append (area_bytes g i ps) (record_bytes x))) (begins_append (area_bytes g i ps) (record_bytes x) bytes is.front begins))
    begins

-- bytes have at most one front
pub one_front : (bytes : List ℕ) (g h : ℕ) (i j : List ℕ) (ps qs : List (List ℕ)) → IsFront bytes g i ps → IsFront bytes h j qs → (g ≡ h) × (i ≡ j) × (ps ≡ qs)
one_front bytes g h i j ps qs first second =
    let base_g = base_begins bytes g i ps first.fits first.front in
    let base_h = base_begins bytes h j qs second.fits second.front in
    let fits_g = base_fits bytes g i ps first.fits first.front in
    let fits_h = base_fits bytes h j qs second.fits second.front in (
      generation_same bytes g h i j first.generated second.generated fits_g fits_h base_g base_h,
      image_same bytes g h i j first.generated second.generated fits_g fits_h base_g base_h,
      ⊎_elim (λ all. all) (λ differ. ⊎_elim
          (λ more. let after = more_after bytes g h i j ps qs first.generated second.generated first.fits second.fits first.front second.front more in
          absurd (front_there bytes g i ps after.0 first after.1 after.2))
          (λ more. let after = more_after bytes h g j i qs ps second.generated first.generated second.fits first.fits second.front first.front
          (subst (λ (n : ℕ). GoesOn qs ps (drop n bytes)) (from_same bytes g h i j ps qs first.generated second.generated first.fits second.fits first.front second.front) more) in
          absurd (front_there bytes h j qs after.0 second after.1 after.2))
          differ)
          (fronts bytes g h i j ps qs first.generated second.generated first.fits second.fits first.front second.front),
    )

-- an area is a front
pub area_front : (bytes : List ℕ) (g : ℕ) (i : List ℕ) (ps : List (List ℕ)) → IsArea bytes g i ps → IsFront bytes g i ps
area_front bytes g i ps is = record { generated = is.generated; fits = is.fits; front = is.stands.front; last = λ is_open. absurd (is.stands.shut is_open) }

-- a front after which no open gate stands is an area
pub front_area : (bytes : List ℕ) (g : ℕ) (i : List ℕ) (ps : List (List ℕ)) → IsFront bytes g i ps → get_or bytes (length (area_bytes g i ps)) 0 ≢ 1 → IsArea bytes g i ps
front_area bytes g i ps is shut = record { generated = is.generated; fits = is.fits; stands = record { front = is.front; shut = shut } }

-- bytes are at most one area
pub one_area : (bytes : List ℕ) (g h : ℕ) (i j : List ℕ) (ps qs : List (List ℕ)) → IsArea bytes g i ps → IsArea bytes h j qs → (g ≡ h) × (i ≡ j) × (ps ≡ qs)
one_area bytes g h i j ps qs first second = one_front bytes g h i j ps qs (area_front bytes g i ps first) (area_front bytes h j qs second)

-- an area is open
pub area_opens : (bytes : List ℕ) (g : ℕ) (i : List ℕ) (ps : List (List ℕ)) → IsArea bytes g i ps → IsShut bytes → ⊥
area_opens bytes g i ps is shut = shut (opens bytes g i ps is.fits is.stands.front)

-- what breaks is open
pub broken_opens : (bytes : List ℕ) (number : ℕ) → IsBroken number bytes → IsShut bytes → ⊥
broken_opens bytes number broken shut =
    ⊎_elim (λ base. shut base.1.is_open) (λ breaks. let b = breaks.2 in shut (opens bytes b.generation b.image b.payloads b.fits b.front)) broken

-- what breaks has no record after its last one
breaks_there : (count : ℕ) (bytes : List ℕ) (b : BreaksAfter count bytes) (x : List ℕ) →
    Begins (record_bytes x) (drop (length (area_bytes b.generation b.image b.payloads)) bytes) →
    length (area_bytes b.generation b.image b.payloads) + 5 + length x < area_limit → ⊥
breaks_there count bytes b x begins fits =
    b.none x (omega (arith, fits, record_length x, length-append (area_bytes b.generation b.image b.payloads) (record_bytes x)))
    (begins_append (area_bytes b.generation b.image b.payloads) (record_bytes x) bytes b.front begins)

-- two fronts with the same records end at the same place
same_end : (bytes : List ℕ) (g h : ℕ) (i j : List ℕ) (ps qs : List (List ℕ)) → IsGeneration g → IsGeneration h →
    length (area_bytes g i ps) < area_limit → length (area_bytes h j qs) < area_limit → Begins (area_bytes g i ps) bytes → Begins (area_bytes h j qs) bytes →
    ps ≡ qs → length (area_bytes g i ps) ≡ length (area_bytes h j qs)
same_end bytes g h i j ps qs generated_g generated_h fits_g fits_h begins_g begins_h same =
    omega (
      arith,
      long bytes g i ps fits_g begins_g,
      long bytes h j qs fits_h begins_h,
      ap (λ (rs : List (List ℕ)). length (records rs)) same,
      from_same bytes g h i j ps qs generated_g generated_h fits_g fits_h begins_g begins_h,
    )

-- an area is not broken
pub area_not_broken : (bytes : List ℕ) (g : ℕ) (i : List ℕ) (ps : List (List ℕ)) (number : ℕ) → IsArea bytes g i ps → IsBroken number bytes → ⊥
area_not_broken bytes g i ps number is broken =
    ⊎_elim
    (λ base. base.1.none g i is.generated (base_fits bytes g i ps is.fits is.stands.front) (base_begins bytes g i ps is.fits is.stands.front))
    (λ breaks. let b = breaks.2 in
    ⊎_elim
    (λ all. is.stands.shut (ap (λ (n : ℕ). get_or bytes n 0) (same_end bytes g b.generation i b.image ps b.payloads is.generated b.generated is.fits b.fits is.stands.front b.front all) ∙ b.is_open))
    (λ differ. ⊎_elim
    (λ more. let after = more_after bytes g b.generation i b.image ps b.payloads is.generated b.generated is.fits b.fits is.stands.front b.front more in
    no_more bytes (area_bytes g i ps) after.0 is.stands.shut after.1)
    (λ more. let after = more_after bytes b.generation g b.image i b.payloads ps b.generated is.generated b.fits is.fits b.front is.stands.front
    (subst (λ (n : ℕ). GoesOn b.payloads ps (drop n bytes)) (from_same bytes g b.generation i b.image ps b.payloads is.generated b.generated is.fits b.fits is.stands.front b.front) more) in
    breaks_there breaks.0 bytes b after.0 after.1 after.2)
    differ)
    (fronts bytes g b.generation i b.image ps b.payloads is.generated b.generated is.fits b.fits is.stands.front b.front))
    broken

-- two that break do so at the same record
breaks_same : (bytes : List ℕ) (m n : ℕ) → BreaksAfter m bytes → BreaksAfter n bytes → m ≡ n
breaks_same bytes m n a b =
    ⊎_elim
    (λ all. sym a.counted ∙ ap (λ (rs : List (List ℕ)). length rs) all ∙ b.counted)
    (λ differ. ⊎_elim
    (λ more. let after = more_after bytes a.generation b.generation a.image b.image a.payloads b.payloads a.generated b.generated a.fits b.fits a.front b.front more in
    absurd (breaks_there m bytes a after.0 after.1 after.2))
    (λ more. let after = more_after bytes b.generation a.generation b.image a.image b.payloads a.payloads b.generated a.generated b.fits a.fits b.front a.front
    (subst (λ (k : ℕ). GoesOn b.payloads a.payloads (drop k bytes)) (from_same bytes a.generation b.generation a.image b.image a.payloads b.payloads a.generated b.generated a.fits b.fits a.front b.front) more) in
    absurd (breaks_there n bytes b after.0 after.1 after.2))
    differ)
    (fronts bytes a.generation b.generation a.image b.image a.payloads b.payloads a.generated b.generated a.fits b.fits a.front b.front)

-- a front has header and image
pub front_has_base : (bytes : List ℕ) (g : ℕ) (i : List ℕ) (ps : List (List ℕ)) → IsFront bytes g i ps → HasNoBase bytes → ⊥
front_has_base bytes g i ps is base = base.none g i is.generated (base_fits bytes g i ps is.fits is.front) (base_begins bytes g i ps is.fits is.front)

no_base_breaks : (bytes : List ℕ) (n : ℕ) → HasNoBase bytes → BreaksAfter n bytes → ⊥
no_base_breaks bytes n base b =
    base.none b.generation b.image b.generated (base_fits bytes b.generation b.image b.payloads b.fits b.front) (base_begins bytes b.generation b.image b.payloads b.fits b.front)

pub one_break : (bytes : List ℕ) (m n : ℕ) → IsBroken m bytes → IsBroken n bytes → m ≡ n
one_break bytes m n first second =
    ⊎_elim
    (λ base. ⊎_elim (λ other. base.0 ∙ sym other.0) (λ other. absurd (no_base_breaks bytes other.0 base.1 other.2)) second)
    (λ breaks. ⊎_elim
    (λ other. absurd (no_base_breaks bytes breaks.0 other.1 breaks.2))
    (λ other. breaks.1 ∙ ap (λ (k : ℕ). k + 1) (breaks_same bytes breaks.0 other.0 breaks.2 other.2) ∙ sym other.1)
    second)
    first
