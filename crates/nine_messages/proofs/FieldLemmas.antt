-- Each field that is read is the field that was spelled, and what was spelled is read again.
use Rattle.std.proofs.Common.{◌≡◌, ℕ, zero, suc, ◌^◌, ◌<◌, ◌≤◌, Bool, false, cond, ltb, List, [], ◌∷◌, ◌++◌, length, take, drop, Some, None, refl, sym, ap, subst, ◌∙◌, append_assoc, arith, inl, inr}
use Rattle.std.specs.List.{flat_map, AllByRecursion}
use Rattle.std.specs.Int.{Width, w16, w32, w64, byte_len, from_le_bytes, to_le_bytes}
use Rattle.std.proofs.lemmas.Bool.{cases_lt, ltb-false, le-ltb}
use Rattle.std.proofs.lemmas.List.{take_at, drop_at, take-append-drop, length-append, length-take, get_or-take, get_or_past}
use Rattle.std.proofs.lemmas.Nat.{le_bytes_2, le_bytes_4, le_bytes_8, from_le_bytes-to_le_bytes_2, from_le_bytes-to_le_bytes_4, from_le_bytes-to_le_bytes_8}
use Rattle.nine_messages.specs.Fields.{◌>>=◌, Reading, number_at, byte_at, bytes_at, counted, counted_at, both_at, many_at, listed, listed_at}
use Rattle.nine_messages.specs.Codec.{AreBytes}
use Rattle.nine_messages.proofs.ReadingLemmas.{bind_some, by_test, some_parts, AreBytes-after}

-- a field is read as it was spelled, whatever follows it
pub record IsField {A : Type 0} (IsSpelled : A → Type 0) (spelling : A → List ℕ) (at : List ℕ → Reading A) : Type 0 where
  pub found : (bytes rest : List ℕ) (x : A) → AreBytes bytes → at bytes ≡ Some (x, rest) → IsSpelled x × (bytes ≡ spelling x ++ rest)
  pub again : (x : A) (rest : List ℕ) → IsSpelled x → at (spelling x ++ rest) ≡ Some (x, rest)

pub AreBytes-take : (n : ℕ) (bytes : List ℕ) → AreBytes bytes → AreBytes (take n bytes)
AreBytes-take n bytes h i =
    elim (cases_lt i n) [
      | inl lt ↦ rw (get_or-take n bytes i 0 lt) (h i)
      | inr le ↦ rw (get_or_past (take n bytes) i 0 (omega (arith, length-take n bytes))) (omega arith)
    ]

-- ---- numbers

-- what is known of the numbers of a width
pub record IsWide (w : Width) (limit : ℕ) : Type 0 where
  pub len : (n : ℕ) → length (to_le_bytes w n) ≡ byte_len w
  pub back : (bytes : List ℕ) → length bytes ≡ byte_len w → AreBytes bytes → to_le_bytes w (from_le_bytes w bytes) ≡ bytes
  pub same : (n : ℕ) → n < limit → from_le_bytes w (to_le_bytes w n) ≡ n
  pub below : (bytes : List ℕ) → AreBytes bytes → from_le_bytes w bytes < limit

pub wide16 : IsWide w16 (2 ^ 16)
wide16 = record {
  len = λ n. refl;
  back = λ bytes len fits. le_bytes_2 bytes _ len fits refl;
  same = λ n lt. from_le_bytes-to_le_bytes_2 n lt;
  below = λ bytes fits. omega (arith, fits 0, fits 1);
}

pub wide32 : IsWide w32 (2 ^ 32)
wide32 = record {
  len = λ n. refl;
  back = λ bytes len fits. le_bytes_4 bytes _ len fits refl;
  same = λ n lt. from_le_bytes-to_le_bytes_4 n lt;
  below = λ bytes fits. omega (arith, fits 0, fits 1, fits 2, fits 3);
}

pub wide64 : IsWide w64 (2 ^ 64)
wide64 = record {
  len = λ n. refl;
  back = λ bytes len fits. le_bytes_8 bytes _ len fits refl;
  same = λ n lt. from_le_bytes-to_le_bytes_8 n lt;
  below = λ bytes fits. omega (arith, fits 0, fits 1, fits 2, fits 3, fits 4, fits 5, fits 6, fits 7);
}

number_found : (w : Width) (limit : ℕ) (wide : IsWide w limit) (bytes rest : List ℕ) (n : ℕ) → AreBytes bytes → number_at w bytes ≡ Some (n, rest) → (n < limit) × (bytes ≡ to_le_bytes w n ++ rest)
number_found w limit wide bytes rest n fits e =
    by_test (ltb (length bytes) (byte_len w)) None (Some (from_le_bytes w (take (byte_len w) bytes), drop (byte_len w) bytes)) (Some (n, rest)) e (λ short none. absurd cc) (λ long found.
    let parts = some_parts (from_le_bytes w (take (byte_len w) bytes)) n (drop (byte_len w) bytes) rest found in
    let n-is : from_le_bytes w (take (byte_len w) bytes) ≡ n = parts.0 in
    let rest-is : drop (byte_len w) bytes ≡ rest = parts.1 in
    let enough : byte_len w ≤ length bytes = ltb-false _ _ long in
    let front : to_le_bytes w n ≡ take (byte_len w) bytes = rw (← n-is) (wide.back (take (byte_len w) bytes) (omega (arith, length-take (byte_len w) bytes)) (AreBytes-take (byte_len w) bytes fits)) in
    (rw (← n-is) (wide.below (take (byte_len w) bytes) (AreBytes-take (byte_len w) bytes fits)), rw (front, ← rest-is) (sym (take-append-drop (byte_len w) bytes))))

number_again : (w : Width) (limit : ℕ) (wide : IsWide w limit) (n : ℕ) (rest : List ℕ) → n < limit → number_at w (to_le_bytes w n ++ rest) ≡ Some (n, rest)
number_again w limit wide n rest lt =
    let enough : byte_len w ≤ length (to_le_bytes w n ++ rest) = omega (arith, length-append (to_le_bytes w n) rest, wide.len n) in
    let long : ltb (length (to_le_bytes w n ++ rest)) (byte_len w) ≡ false = le-ltb _ _ enough in
    let front : take (byte_len w) (to_le_bytes w n ++ rest) ≡ to_le_bytes w n = take_at (to_le_bytes w n) rest (byte_len w) (wide.len n) in
    let others : drop (byte_len w) (to_le_bytes w n ++ rest) ≡ rest = drop_at (to_le_bytes w n) rest (byte_len w) (wide.len n) in
    ap (λ (b : Bool). cond b None (Some (from_le_bytes w (take (byte_len w) (to_le_bytes w n ++ rest)), drop (byte_len w) (to_le_bytes w n ++ rest)))) long
    ∙ ap (λ (f : List ℕ). Some (from_le_bytes w f, drop (byte_len w) (to_le_bytes w n ++ rest))) front
    ∙ ap (λ (m : ℕ). Some (m, drop (byte_len w) (to_le_bytes w n ++ rest))) (wide.same n lt) ∙ ap (λ (r : List ℕ). Some (n, r)) others

pub number_field : (w : Width) (limit : ℕ) → IsWide w limit → IsField (λ (n : ℕ). n < limit) (to_le_bytes w) (number_at w)
number_field w limit wide = record {
  found = λ bytes rest n fits e. number_found w limit wide bytes rest n fits e;
  again = λ n rest lt. number_again w limit wide n rest lt;
}

byte_found : (bytes rest : List ℕ) (n : ℕ) → AreBytes bytes → byte_at bytes ≡ Some (n, rest) → (n < 2 ^ 8) × (bytes ≡ n ∷ rest)
byte_found [] rest n fits e = absurd cc
byte_found (byte ∷ more) rest n fits e =
    let parts = some_parts byte n more rest e in
    let low : byte < 256 = fits 0 in
    (subst (λ (b : ℕ). b < 256) parts.0 low, ap (λ (b : ℕ). b ∷ more) parts.0 ∙ ap (λ (r : List ℕ). n ∷ r) parts.1)

pub byte_field : IsField (λ (n : ℕ). n < 2 ^ 8) (λ n. n ∷ []) byte_at
byte_field = record {
  found = λ bytes rest n fits e. byte_found bytes rest n fits e;
  again = λ n rest lt. refl;
}

-- ---- bytes after their count

bytes_found : (count : ℕ) (bytes rest front : List ℕ) → bytes_at count bytes ≡ Some (front, rest) → (length front ≡ count) × (bytes ≡ front ++ rest)
bytes_found count bytes rest front e =
    by_test (ltb (length bytes) count) None (Some (take count bytes, drop count bytes)) (Some (front, rest)) e (λ short none. absurd cc) (λ long found.
    let parts = some_parts (take count bytes) front (drop count bytes) rest found in
    let enough : count ≤ length bytes = ltb-false _ _ long in
    let len : length (take count bytes) ≡ count = omega (arith, length-take count bytes) in
    (ap length (sym parts.0) ∙ len, sym (take-append-drop count bytes) ∙ ap (λ (f : List ℕ). f ++ drop count bytes) parts.0 ∙ ap (λ (r : List ℕ). front ++ r) parts.1))

bytes_again : (front rest : List ℕ) → bytes_at (length front) (front ++ rest) ≡ Some (front, rest)
bytes_again front rest =
    let enough : length front ≤ length (front ++ rest) = omega (arith, length-append front rest) in
    ap (λ (b : Bool). cond b None (Some (take (length front) (front ++ rest), drop (length front) (front ++ rest)))) (le-ltb _ _ enough)
    ∙ ap (λ (f : List ℕ). Some (f, drop (length front) (front ++ rest))) (take_at front rest (length front) refl) ∙ ap (λ (r : List ℕ). Some (front, r)) (drop_at front rest (length front) refl)

counted_found : (w : Width) (limit : ℕ) (wide : IsWide w limit) (bytes rest front : List ℕ) → AreBytes bytes → counted_at w bytes ≡ Some (front, rest) → (length front < limit) × (bytes ≡ counted w front ++ rest)
unfolding counted_at
counted_found w limit wide bytes rest front fits e =
    let a = bind_some (number_at w bytes) (λ count. bytes_at count.0 count.1) (front, rest) e in
    let number = number_found w limit wide bytes a.0.1 a.0.0 fits a.1 in
    let b = bytes_found a.0.0 a.0.1 rest front a.2 in (
      subst (λ (n : ℕ). n < limit) (sym b.0) number.0,
      number.1 ∙ ap (λ (n : ℕ). to_le_bytes w n ++ a.0.1) (sym b.0) ∙ ap (λ (r : List ℕ). to_le_bytes w (length front) ++ r) b.1 ∙ sym (append_assoc (to_le_bytes w (length front)) front rest),
    )

counted_again : (w : Width) (limit : ℕ) (wide : IsWide w limit) (front rest : List ℕ) → length front < limit → counted_at w (counted w front ++ rest) ≡ Some (front, rest)
unfolding counted_at
counted_again w limit wide front rest lt =
    ap (λ (bytes : List ℕ). number_at w bytes >>= λ count. bytes_at count.0 count.1) (append_assoc (to_le_bytes w (length front)) front rest)
    ∙ ap (λ (read : Reading ℕ). read >>= λ count. bytes_at count.0 count.1) (number_again w limit wide (length front) (front ++ rest) lt) ∙ bytes_again front rest

pub counted_field : (w : Width) (limit : ℕ) → IsWide w limit → IsField (λ (bytes : List ℕ). length bytes < limit) (counted w) (counted_at w)
counted_field w limit wide = record {
  found = λ bytes rest front fits e. counted_found w limit wide bytes rest front fits e;
  again = λ front rest lt. counted_again w limit wide front rest lt;
}

-- ---- one and then another

-- both have a spelling
abbrev pub AreBoth : {A B : Type 0} → (A → Type 0) → (B → Type 0) → A × B → Type 0
AreBoth IsOne IsOther x = IsOne x.0 × IsOther x.1

-- the spellings of both
abbrev pub both : {A B : Type 0} → (A → List ℕ) → (B → List ℕ) → A × B → List ℕ
both one other x = one x.0 ++ other x.1

both_found : {A B : Type 0} (IsOne : A → Type 0) (IsOther : B → Type 0) (one : A → List ℕ) (other : B → List ℕ) (one_at : List ℕ → Reading A) (other_at : List ℕ → Reading B)
    → IsField IsOne one one_at → IsField IsOther other other_at → (bytes rest : List ℕ) (x : A × B) → AreBytes bytes → both_at one_at other_at bytes ≡ Some (x, rest) → AreBoth IsOne IsOther x × (bytes ≡ both one other x ++ rest)
both_found {A} {B} IsOne IsOther one other one_at other_at first second bytes rest x fits e =
    let a = bind_some (one_at bytes) (λ y. other_at y.1 >>= λ z. Some ((y.0, z.0), z.1)) (x, rest) e in
    let b = bind_some (other_at a.0.1) (λ z. Some ((a.0.0, z.0), z.1)) (x, rest) a.2 in
    let it = first.found bytes a.0.1 a.0.0 fits a.1 in
    let behind : AreBytes a.0.1 = AreBytes-after (one a.0.0) a.0.1 (subst AreBytes it.1 fits) in
    let more = second.found a.0.1 b.0.1 b.0.0 behind b.1 in
    let parts = some_parts (a.0.0, b.0.0) x b.0.1 rest b.2 in
    let pair : AreBoth IsOne IsOther (a.0.0, b.0.0) × (bytes ≡ both one other (a.0.0, b.0.0) ++ b.0.1) =
    ((it.0, more.0), it.1 ∙ ap (λ (r : List ℕ). one a.0.0 ++ r) more.1 ∙ sym (append_assoc (one a.0.0) (other b.0.0) b.0.1)) in
    subst (λ (r : List ℕ). AreBoth IsOne IsOther x × (bytes ≡ both one other x ++ r)) parts.1
    (subst (λ (p : A × B). AreBoth IsOne IsOther p × (bytes ≡ both one other p ++ b.0.1)) parts.0 pair)

both_again : {A B : Type 0} (IsOne : A → Type 0) (IsOther : B → Type 0) (one : A → List ℕ) (other : B → List ℕ) (one_at : List ℕ → Reading A) (other_at : List ℕ → Reading B)
    → IsField IsOne one one_at → IsField IsOther other other_at → (x : A × B) (rest : List ℕ) → AreBoth IsOne IsOther x → both_at one_at other_at (both one other x ++ rest) ≡ Some (x, rest)
both_again {A} {B} IsOne IsOther one other one_at other_at first second x rest h =
    ap (both_at one_at other_at) (append_assoc (one x.0) (other x.1) rest)
    ∙ ap (λ (read : Reading A). read >>= λ y. other_at y.1 >>= λ z. Some ((y.0, z.0), z.1)) (first.again x.0 (other x.1 ++ rest) h.0)
    ∙ ap (λ (read : Reading B). read >>= λ z. Some ((x.0, z.0), z.1)) (second.again x.1 rest h.1)

pub both_field : {A B : Type 0} (IsOne : A → Type 0) (IsOther : B → Type 0) (one : A → List ℕ) (other : B → List ℕ) (one_at : List ℕ → Reading A) (other_at : List ℕ → Reading B)
    → IsField IsOne one one_at → IsField IsOther other other_at → IsField (AreBoth IsOne IsOther) (both one other) (both_at one_at other_at)
both_field IsOne IsOther one other one_at other_at first second = record {
  found = λ bytes rest x fits e. both_found IsOne IsOther one other one_at other_at first second bytes rest x fits e;
  again = λ x rest h. both_again IsOne IsOther one other one_at other_at first second x rest h;
}

-- ---- lists

-- so many that were read
pub record FoundMany {A : Type 0} (IsSpelled : A → Type 0) (spelling : A → List ℕ) (count : ℕ) (bytes : List ℕ) (items : List A) (rest : List ℕ) : Type 0 where
  pub count_is : length items ≡ count
  pub each : AllByRecursion IsSpelled items
  pub bytes_are : bytes ≡ flat_map spelling items ++ rest

pub many_found : {A : Type 0} (IsSpelled : A → Type 0) (spelling : A → List ℕ) (one_at : List ℕ → Reading A) → IsField IsSpelled spelling one_at
    → (count : ℕ) (bytes rest : List ℕ) (items : List A) → AreBytes bytes → many_at one_at count bytes ≡ Some (items, rest) → FoundMany IsSpelled spelling count bytes items rest
unfolding many_at
many_found {A} IsSpelled spelling one_at c zero bytes rest items fits e =
    let parts = some_parts [] items bytes rest e in
    let none : FoundMany IsSpelled spelling 0 bytes [] bytes = record { count_is = refl; each = tt; bytes_are = refl } in
    subst (λ (r : List ℕ). FoundMany IsSpelled spelling 0 bytes items r) parts.1 (subst (λ (p : List A). FoundMany IsSpelled spelling 0 bytes p bytes) parts.0 none)
many_found {A} IsSpelled spelling one_at c (suc count) bytes rest items fits e =
    let a = bind_some (one_at bytes) (λ first. many_at one_at count first.1 >>= λ others. Some (first.0 ∷ others.0, others.1)) (items, rest) e in
    let b = bind_some (many_at one_at count a.0.1) (λ others. Some (a.0.0 ∷ others.0, others.1)) (items, rest) a.2 in
    let one = c.found bytes a.0.1 a.0.0 fits a.1 in
    let behind : AreBytes a.0.1 = AreBytes-after (spelling a.0.0) a.0.1 (subst AreBytes one.1 fits) in
    let others = many_found IsSpelled spelling one_at c count a.0.1 b.0.1 b.0.0 behind b.1 in
    let parts = some_parts (a.0.0 ∷ b.0.0) items b.0.1 rest b.2 in
    let found : FoundMany IsSpelled spelling (suc count) bytes (a.0.0 ∷ b.0.0) b.0.1 = record {
      count_is = ap suc others.count_is;
      each = (one.0, others.each);
      bytes_are = one.1 ∙ ap (λ (end : List ℕ). spelling a.0.0 ++ end) others.bytes_are ∙ sym (append_assoc (spelling a.0.0) (flat_map spelling b.0.0) b.0.1);
    } in
    subst (λ (r : List ℕ). FoundMany IsSpelled spelling (suc count) bytes items r) parts.1 (subst (λ (p : List A). FoundMany IsSpelled spelling (suc count) bytes p b.0.1) parts.0 found)

many_again : {A : Type 0} (IsSpelled : A → Type 0) (spelling : A → List ℕ) (one_at : List ℕ → Reading A) → IsField IsSpelled spelling one_at
    → (items : List A) (rest : List ℕ) → AllByRecursion IsSpelled items → many_at one_at (length items) (flat_map spelling items ++ rest) ≡ Some (items, rest)
unfolding many_at
many_again IsSpelled spelling one_at c [] rest each = refl
many_again {A} IsSpelled spelling one_at c (x ∷ xs) rest each =
    ap (many_at one_at (suc (length xs))) (append_assoc (spelling x) (flat_map spelling xs) rest)
    ∙ ap (λ (read : Reading A). read >>= λ first. many_at one_at (length xs) first.1 >>= λ others. Some (first.0 ∷ others.0, others.1)) (c.again x (flat_map spelling xs ++ rest) each.0)
    ∙ ap (λ (read : Reading (List A)). read >>= λ others. Some (x ∷ others.0, others.1)) (many_again IsSpelled spelling one_at c xs rest each.1)

-- few enough for a count of two bytes, and each has a spelling
abbrev pub AreListed : {A : Type 0} → (A → Type 0) → List A → Type 0
AreListed IsSpelled items = (length items < 2 ^ 16) × AllByRecursion IsSpelled items

listed_found : {A : Type 0} (IsSpelled : A → Type 0) (spelling : A → List ℕ) (one_at : List ℕ → Reading A) → IsField IsSpelled spelling one_at
    → (bytes rest : List ℕ) (items : List A) → AreBytes bytes → listed_at one_at bytes ≡ Some (items, rest) → AreListed IsSpelled items × (bytes ≡ listed spelling items ++ rest)
unfolding listed_at
listed_found IsSpelled spelling one_at c bytes rest items fits e =
    let a = bind_some (number_at w16 bytes) (λ count. many_at one_at count.0 count.1) (items, rest) e in
    let number = number_found w16 (2 ^ 16) wide16 bytes a.0.1 a.0.0 fits a.1 in
    let behind : AreBytes a.0.1 = AreBytes-after (to_le_bytes w16 a.0.0) a.0.1 (subst AreBytes number.1 fits) in
    let it = many_found IsSpelled spelling one_at c a.0.0 a.0.1 rest items behind a.2 in (
      (subst (λ (n : ℕ). n < 2 ^ 16) (sym it.count_is) number.0, it.each),
      number.1 ∙ ap (λ (n : ℕ). to_le_bytes w16 n ++ a.0.1) (sym it.count_is) ∙ ap (λ (r : List ℕ). to_le_bytes w16 (length items) ++ r) it.bytes_are
          ∙ sym (append_assoc (to_le_bytes w16 (length items)) (flat_map spelling items) rest),
    )

listed_again : {A : Type 0} (IsSpelled : A → Type 0) (spelling : A → List ℕ) (one_at : List ℕ → Reading A) → IsField IsSpelled spelling one_at
    → (items : List A) (rest : List ℕ) → AreListed IsSpelled items → listed_at one_at (listed spelling items ++ rest) ≡ Some (items, rest)
unfolding listed_at
listed_again IsSpelled spelling one_at c items rest h =
    ap (λ (bytes : List ℕ). number_at w16 bytes >>= λ count. many_at one_at count.0 count.1) (append_assoc (to_le_bytes w16 (length items)) (flat_map spelling items) rest)
    ∙ ap (λ (read : Reading ℕ). read >>= λ count. many_at one_at count.0 count.1) (number_again w16 (2 ^ 16) wide16 (length items) (flat_map spelling items ++ rest) h.0)
    ∙ many_again IsSpelled spelling one_at c items rest h.1

pub listed_field : {A : Type 0} (IsSpelled : A → Type 0) (spelling : A → List ℕ) (one_at : List ℕ → Reading A) → IsField IsSpelled spelling one_at → IsField (AreListed IsSpelled) (listed spelling) (listed_at one_at)
listed_field IsSpelled spelling one_at c = record {
  found = λ bytes rest items fits e. listed_found IsSpelled spelling one_at c bytes rest items fits e;
  again = λ items rest h. listed_again IsSpelled spelling one_at c items rest h;
}
