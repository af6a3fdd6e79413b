-- Each request is read as it was spelled, and what was spelled is read again.
use Rattle.std.proofs.Common.{◌≡◌, ℕ, ◌^◌, ◌<◌, Bool, true, false, eqb, ◌||◌, List, [], ◌∷◌, ◌++◌, length, Option, Some, refl, sym, ap, subst, ◌∙◌}
use Rattle.std.specs.Int.{w16, w32, w64, to_le_bytes}
use Rattle.std.proofs.lemmas.Bool.{eqb-true}
use Rattle.std.proofs.lemmas.List.{append-nil}
use Rattle.nine_messages.specs.Fields.{Reading, number_at, byte_at, counted, counted_at, text, text_at, both_at, listed, listed_at, ended, filled}
use Rattle.nine_messages.specs.Codec.{AreBytes}
use Rattle.nine_messages.specs.Requests.{RequestView, tversion, tattach, tflush, twalk, topen, tread, twrite, tclunk, tother, request_kind, request_fields, request_of, is_table_kind, IsRequest}
use Rattle.nine_messages.proofs.ReadingLemmas.{bind_some, by_test, some_is, ended_some}
use Rattle.nine_messages.proofs.FieldLemmas.{IsField, AreBoth, both, AreListed, wide16, wide32, wide64, number_field, byte_field, counted_field, both_field, listed_field}

-- a value whose spelling fills the bytes
pub record Fills {A B : Type 0} (IsSpelled : A → Type 0) (spelling : A → List ℕ) (make : A → B) (bytes : List ℕ) (y : B) : Type 0 where
  pub x : A
  pub spelled : IsSpelled x
  pub bytes_are : bytes ≡ spelling x
  pub made : make x ≡ y

pub filling_found : {A B : Type 0} (IsSpelled : A → Type 0) (spelling : A → List ℕ) (at : List ℕ → Reading A) (make : A → B) → IsField IsSpelled spelling at
    → (bytes : List ℕ) (y : B) → AreBytes bytes → filled make (at bytes) ≡ Some y → Fills IsSpelled spelling make bytes y
filling_found {A} {B} IsSpelled spelling at make c bytes y fits e =
    let a = bind_some (at bytes) (λ (x : A × List ℕ). ended (make x.0) x.1) y e in
    let b = ended_some (make a.0.0) y a.0.1 a.2 in
    let it = c.found bytes a.0.1 a.0.0 fits a.1 in
    record {
      x = a.0.0;
      spelled = it.0;
      bytes_are = it.1 ∙ ap (λ (r : List ℕ). spelling a.0.0 ++ r) b.1 ∙ append-nil (spelling a.0.0);
      made = b.0;
    }

pub filling_again : {A B : Type 0} (IsSpelled : A → Type 0) (spelling : A → List ℕ) (at : List ℕ → Reading A) (make : A → B) → IsField IsSpelled spelling at
    → (x : A) → IsSpelled x → filled make (at (spelling x)) ≡ Some (make x)
filling_again {A} IsSpelled spelling at make c x h =
    ap (λ (bytes : List ℕ). filled make (at bytes)) (sym (append-nil (spelling x))) ∙ ap (λ (read : Reading A). filled make read) (c.again x [] h)

-- ---- the fields of each request

abbrev pub IsU32 : ℕ → Type 0
IsU32 n = n < 2 ^ 32

abbrev pub IsU64 : ℕ → Type 0
IsU64 n = n < 2 ^ 64

abbrev pub IsShort : List ℕ → Type 0
IsShort bytes = length bytes < 2 ^ 16

abbrev pub IsData : List ℕ → Type 0
IsData bytes = length bytes < 2 ^ 32

pub u16_field : IsField (λ (n : ℕ). n < 2 ^ 16) (to_le_bytes w16) (number_at w16)
u16_field = number_field w16 (2 ^ 16) wide16

pub u32_field : IsField IsU32 (to_le_bytes w32) (number_at w32)
u32_field = number_field w32 (2 ^ 32) wide32

pub u64_field : IsField IsU64 (to_le_bytes w64) (number_at w64)
u64_field = number_field w64 (2 ^ 64) wide64

pub text_field : IsField IsShort text text_at
text_field = counted_field w16 (2 ^ 16) wide16

pub data_field : IsField IsData (counted w32) (counted_at w32)
data_field = counted_field w32 (2 ^ 32) wide32

pub version_field : IsField (AreBoth IsU32 IsShort) (both (to_le_bytes w32) text) (both_at (number_at w32) text_at)
version_field = both_field IsU32 IsShort (to_le_bytes w32) text (number_at w32) text_at u32_field text_field

two_texts : IsField (AreBoth IsShort IsShort) (both text text) (both_at text_at text_at)
two_texts = both_field IsShort IsShort text text text_at text_at text_field text_field

afid_field : IsField (AreBoth IsU32 (AreBoth IsShort IsShort)) (both (to_le_bytes w32) (both text text)) (both_at (number_at w32) (both_at text_at text_at))
afid_field = both_field IsU32 (AreBoth IsShort IsShort) (to_le_bytes w32) (both text text) (number_at w32) (both_at text_at text_at) u32_field two_texts

attach_field : IsField (AreBoth IsU32 (AreBoth IsU32 (AreBoth IsShort IsShort))) (both (to_le_bytes w32) (both (to_le_bytes w32) (both text text))) (both_at (number_at w32) (both_at (number_at w32) (both_at text_at text_at)))
attach_field = both_field IsU32 (AreBoth IsU32 (AreBoth IsShort IsShort)) (to_le_bytes w32) (both (to_le_bytes w32) (both text text)) (number_at w32) (both_at (number_at w32) (both_at text_at text_at)) u32_field afid_field

names_field : IsField (AreListed IsShort) (listed text) (listed_at text_at)
names_field = listed_field IsShort text text_at text_field

newfid_field : IsField (AreBoth IsU32 (AreListed IsShort)) (both (to_le_bytes w32) (listed text)) (both_at (number_at w32) (listed_at text_at))
newfid_field = both_field IsU32 (AreListed IsShort) (to_le_bytes w32) (listed text) (number_at w32) (listed_at text_at) u32_field names_field

walk_field : IsField (AreBoth IsU32 (AreBoth IsU32 (AreListed IsShort))) (both (to_le_bytes w32) (both (to_le_bytes w32) (listed text))) (both_at (number_at w32) (both_at (number_at w32) (listed_at text_at)))
walk_field = both_field IsU32 (AreBoth IsU32 (AreListed IsShort)) (to_le_bytes w32) (both (to_le_bytes w32) (listed text)) (number_at w32) (both_at (number_at w32) (listed_at text_at)) u32_field newfid_field

open_field : IsField (AreBoth IsU32 (λ (n : ℕ). n < 2 ^ 8)) (both (to_le_bytes w32) (λ n. n ∷ [])) (both_at (number_at w32) byte_at)
open_field = both_field IsU32 (λ (n : ℕ). n < 2 ^ 8) (to_le_bytes w32) (λ n. n ∷ []) (number_at w32) byte_at u32_field byte_field

range_field : IsField (AreBoth IsU64 IsU32) (both (to_le_bytes w64) (to_le_bytes w32)) (both_at (number_at w64) (number_at w32))
range_field = both_field IsU64 IsU32 (to_le_bytes w64) (to_le_bytes w32) (number_at w64) (number_at w32) u64_field u32_field

read_field : IsField (AreBoth IsU32 (AreBoth IsU64 IsU32)) (both (to_le_bytes w32) (both (to_le_bytes w64) (to_le_bytes w32))) (both_at (number_at w32) (both_at (number_at w64) (number_at w32)))
read_field = both_field IsU32 (AreBoth IsU64 IsU32) (to_le_bytes w32) (both (to_le_bytes w64) (to_le_bytes w32)) (number_at w32) (both_at (number_at w64) (number_at w32)) u32_field range_field

piece_field : IsField (AreBoth IsU64 IsData) (both (to_le_bytes w64) (counted w32)) (both_at (number_at w64) (counted_at w32))
piece_field = both_field IsU64 IsData (to_le_bytes w64) (counted w32) (number_at w64) (counted_at w32) u64_field data_field

write_field : IsField (AreBoth IsU32 (AreBoth IsU64 IsData)) (both (to_le_bytes w32) (both (to_le_bytes w64) (counted w32))) (both_at (number_at w32) (both_at (number_at w64) (counted_at w32)))
write_field = both_field IsU32 (AreBoth IsU64 IsData) (to_le_bytes w32) (both (to_le_bytes w64) (counted w32)) (number_at w32) (both_at (number_at w64) (counted_at w32)) u32_field piece_field

-- ---- requests

-- a request of this kind whose fields are these bytes
pub record FoundRequest (kind : ℕ) (fields : List ℕ) (r : RequestView) : Type 0 where
  pub spelled : IsRequest r
  pub kind_is : kind ≡ request_kind r
  pub fields_are : fields ≡ request_fields r

other_found : (kind : ℕ) (fields : List ℕ) (r : RequestView) → kind < 2 ^ 8 → is_table_kind kind ≡ false → ◌≡◌ {A = Option RequestView} (Some (tother kind fields)) (Some r) → FoundRequest kind fields r
unfolding request_fields
other_found kind fields r low other e =
    subst (λ (p : RequestView). FoundRequest kind fields p) (some_is (tother kind fields) r e) (record { spelled = (other, low); kind_is = refl; fields_are = refl })

pub request_found : (kind : ℕ) (fields : List ℕ) (r : RequestView) → kind < 2 ^ 8 → AreBytes fields → request_of kind fields ≡ Some r → FoundRequest kind fields r
unfolding request_of request_fields
request_found kind fields r low fits e0 =
    by_test (eqb kind 100) _ _ _ e0 (λ is found.
    let it = filling_found (AreBoth IsU32 IsShort) (both (to_le_bytes w32) text) (both_at (number_at w32) text_at) (λ t. tversion t.0 t.1) version_field fields r fits found in
    subst (λ (p : RequestView). FoundRequest kind fields p) it.made (record { spelled = it.spelled; kind_is = eqb-true kind 100 is; fields_are = it.bytes_are })) (λ n0 e1.
    by_test (eqb kind 104) _ _ _ e1 (λ is found.
    let it = filling_found (AreBoth IsU32 (AreBoth IsU32 (AreBoth IsShort IsShort))) (both (to_le_bytes w32) (both (to_le_bytes w32) (both text text))) (both_at (number_at w32) (both_at (number_at w32) (both_at text_at text_at))) (λ t. tattach t.0 t.1.0 t.1.1.0 t.1.1.1) attach_field fields r fits found in
    subst (λ (p : RequestView). FoundRequest kind fields p) it.made (record { spelled = it.spelled; kind_is = eqb-true kind 104 is; fields_are = it.bytes_are })) (λ n1 e2.
    by_test (eqb kind 108) _ _ _ e2 (λ is found.
    let it = filling_found (λ (n : ℕ). n < 2 ^ 16) (to_le_bytes w16) (number_at w16) (λ t. tflush t) u16_field fields r fits found in
    subst (λ (p : RequestView). FoundRequest kind fields p) it.made (record { spelled = it.spelled; kind_is = eqb-true kind 108 is; fields_are = it.bytes_are })) (λ n2 e3.
    by_test (eqb kind 110) _ _ _ e3 (λ is found.
    let it = filling_found (AreBoth IsU32 (AreBoth IsU32 (AreListed IsShort))) (both (to_le_bytes w32) (both (to_le_bytes w32) (listed text))) (both_at (number_at w32) (both_at (number_at w32) (listed_at text_at))) (λ t. twalk t.0 t.1.0 t.1.1) walk_field fields r fits found in
    subst (λ (p : RequestView). FoundRequest kind fields p) it.made (record { spelled = it.spelled; kind_is = eqb-true kind 110 is; fields_are = it.bytes_are })) (λ n3 e4.
    by_test (eqb kind 112) _ _ _ e4 (λ is found.
    let it = filling_found (AreBoth IsU32 (λ (n : ℕ). n < 2 ^ 8)) (both (to_le_bytes w32) (λ n. n ∷ [])) (both_at (number_at w32) byte_at) (λ t. topen t.0 t.1) open_field fields r fits found in
    subst (λ (p : RequestView). FoundRequest kind fields p) it.made (record { spelled = it.spelled; kind_is = eqb-true kind 112 is; fields_are = it.bytes_are })) (λ n4 e5.
    by_test (eqb kind 116) _ _ _ e5 (λ is found.
    let it = filling_found (AreBoth IsU32 (AreBoth IsU64 IsU32)) (both (to_le_bytes w32) (both (to_le_bytes w64) (to_le_bytes w32))) (both_at (number_at w32) (both_at (number_at w64) (number_at w32))) (λ t. tread t.0 t.1.0 t.1.1) read_field fields r fits found in
    subst (λ (p : RequestView). FoundRequest kind fields p) it.made (record { spelled = it.spelled; kind_is = eqb-true kind 116 is; fields_are = it.bytes_are })) (λ n5 e6.
    by_test (eqb kind 118) _ _ _ e6 (λ is found.
    let it = filling_found (AreBoth IsU32 (AreBoth IsU64 IsData)) (both (to_le_bytes w32) (both (to_le_bytes w64) (counted w32))) (both_at (number_at w32) (both_at (number_at w64) (counted_at w32))) (λ t. twrite t.0 t.1.0 t.1.1) write_field fields r fits found in
    subst (λ (p : RequestView). FoundRequest kind fields p) it.made (record { spelled = it.spelled; kind_is = eqb-true kind 118 is; fields_are = it.bytes_are })) (λ n6 e7.
    by_test (eqb kind 120) _ _ _ e7 (λ is found.
    let it = filling_found IsU32 (to_le_bytes w32) (number_at w32) (λ t. tclunk t) u32_field fields r fits found in
    subst (λ (p : RequestView). FoundRequest kind fields p) it.made (record { spelled = it.spelled; kind_is = eqb-true kind 120 is; fields_are = it.bytes_are })) (λ n7 e8.
    other_found kind fields r low (rw (n0, n1, n2, n3, n4, n5, n6, n7) refl) e8))))))))

neither : (a b : Bool) → (a || b) ≡ false → (a ≡ false) × (b ≡ false)
neither true b e = absurd cc
neither false b e = (refl, e)

-- a kind that is not in the table is none of its kinds
other_again : (kind : ℕ) (body : List ℕ) → is_table_kind kind ≡ false → request_of kind body ≡ Some (tother kind body)
unfolding request_of
other_again kind body h =
    let a7 = neither _ (eqb kind 120) h in
    let a6 = neither _ (eqb kind 118) a7.0 in
    let a5 = neither _ (eqb kind 116) a6.0 in
    let a4 = neither _ (eqb kind 112) a5.0 in
    let a3 = neither _ (eqb kind 110) a4.0 in
    let a2 = neither _ (eqb kind 108) a3.0 in
    let a1 = neither (eqb kind 100) (eqb kind 104) a2.0 in
    rw (a1.0, a1.1, a2.1, a3.1, a4.1, a5.1, a6.1, a7.1) refl

pub request_again : (r : RequestView) → IsRequest r → request_of (request_kind r) (request_fields r) ≡ Some r
unfolding request_of request_fields
request_again (tversion msize version) h = filling_again (AreBoth IsU32 IsShort) (both (to_le_bytes w32) text) (both_at (number_at w32) text_at) (λ t. tversion t.0 t.1) version_field (msize, version) h
request_again (tattach fid afid uname aname) h = filling_again (AreBoth IsU32 (AreBoth IsU32 (AreBoth IsShort IsShort))) (both (to_le_bytes w32) (both (to_le_bytes w32) (both text text))) (both_at (number_at w32) (both_at (number_at w32) (both_at text_at text_at))) (λ t. tattach t.0 t.1.0 t.1.1.0 t.1.1.1) attach_field (fid, (afid, (uname, aname))) h
request_again (tflush oldtag) h = filling_again (λ (n : ℕ). n < 2 ^ 16) (to_le_bytes w16) (number_at w16) (λ t. tflush t) u16_field oldtag h
request_again (twalk fid newfid names) h = filling_again (AreBoth IsU32 (AreBoth IsU32 (AreListed IsShort))) (both (to_le_bytes w32) (both (to_le_bytes w32) (listed text))) (both_at (number_at w32) (both_at (number_at w32) (listed_at text_at))) (λ t. twalk t.0 t.1.0 t.1.1) walk_field (fid, (newfid, names)) h
request_again (topen fid mode) h = filling_again (AreBoth IsU32 (λ (n : ℕ). n < 2 ^ 8)) (both (to_le_bytes w32) (λ n. n ∷ [])) (both_at (number_at w32) byte_at) (λ t. topen t.0 t.1) open_field (fid, mode) h
request_again (tread fid offset count) h = filling_again (AreBoth IsU32 (AreBoth IsU64 IsU32)) (both (to_le_bytes w32) (both (to_le_bytes w64) (to_le_bytes w32))) (both_at (number_at w32) (both_at (number_at w64) (number_at w32))) (λ t. tread t.0 t.1.0 t.1.1) read_field (fid, (offset, count)) h
request_again (twrite fid offset bytes) h = filling_again (AreBoth IsU32 (AreBoth IsU64 IsData)) (both (to_le_bytes w32) (both (to_le_bytes w64) (counted w32))) (both_at (number_at w32) (both_at (number_at w64) (counted_at w32))) (λ t. twrite t.0 t.1.0 t.1.1) write_field (fid, (offset, bytes)) h
request_again (tclunk fid) h = filling_again IsU32 (to_le_bytes w32) (number_at w32) (λ t. tclunk t) u32_field fid h
request_again (tother kind body) h = other_again kind body h.0
