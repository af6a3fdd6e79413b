-- The fields of 9P2000 messages: numbers with the lowest byte first, and bytes after their count.
-- Reading is from the left: a value and the bytes after it, or none.
use Rattle.std.specs.Prelude.{◌≡◌, ℕ, zero, suc, List, [], ◌∷◌, ◌++◌, length, take, drop, nat_lt, if◌then◌else◌, Option, Some, None, option_map}
use Rattle.std.specs.List.{flat_map}
use Rattle.std.specs.Int.{Width, w16, byte_len, to_le_bytes, from_le_bytes}

-- one reading, and then another of the bytes after it
infixl 10 ◌>>=◌
abbrev pub ◌>>=◌ : {A B : Type 0} → Option A → (A → Option B) → Option B
(Some x) >>= f = f x
None >>= f = None

-- a value and the bytes after it, or none
abbrev pub Reading : Type 0 → Type 0
Reading A = Option (A × List ℕ)

-- what a call returned, seen by view, is what is read
abbrev pub Gives : {X Y : Type 0} → (X → Y) → Option X → Option Y → Type 0
Gives view (Some x) read = read ≡ Some (view x)
Gives view None read = read ≡ None

-- a number of so many bytes
abbrev pub number_at : Width → List ℕ → Reading ℕ
number_at width bytes =
    if nat_lt (length bytes) (byte_len width) then None else
    Some (from_le_bytes width (take (byte_len width) bytes), drop (byte_len width) bytes)

-- one byte
abbrev pub byte_at : List ℕ → Reading ℕ
byte_at [] = None
byte_at (byte ∷ rest) = Some (byte, rest)

-- the bytes after what is read
abbrev pub after : {A : Type 0} → Reading A → Option (List ℕ)
after read = option_map (λ x. x.1) read

-- so many bytes
abbrev pub bytes_at : ℕ → List ℕ → Reading (List ℕ)
bytes_at count bytes = if nat_lt (length bytes) count then None else Some (take count bytes, drop count bytes)

-- bytes after their count: a text after two bytes of count, data after four
abbrev pub counted : Width → List ℕ → List ℕ
counted width bytes = to_le_bytes width (length bytes) ++ bytes

unfoldable pub counted_at : Width → List ℕ → Reading (List ℕ)
counted_at width bytes = do
  count ← number_at width bytes
  bytes_at count.0 count.1

abbrev pub text : List ℕ → List ℕ
text bytes = counted w16 bytes

abbrev pub text_at : List ℕ → Reading (List ℕ)
text_at bytes = counted_at w16 bytes

-- one and then another
abbrev pub both_at : {A B : Type 0} → (List ℕ → Reading A) → (List ℕ → Reading B) → List ℕ →
    Reading (A × B)
both_at one_at other_at bytes = do
  one ← one_at bytes
  other ← other_at one.1
  Some ((one.0, other.0), other.1)

-- so many, one after the other
unfoldable pub many_at : {A : Type 0} → (List ℕ → Reading A) → ℕ → List ℕ → Reading (List A)
many_at one_at zero bytes = Some ([], bytes)
many_at one_at (suc count) bytes = do
  first ← one_at bytes
  others ← many_at one_at count first.1
  Some (first.0 ∷ others.0, others.1)

-- the texts that are read first, and none past a fault
abbrev pub with_first : Reading (List ℕ) → (List ℕ → List (List ℕ)) → List (List ℕ)
with_first None others = []
with_first (Some first) others = first.0 ∷ others first.1

unfoldable pub texts_in : ℕ → List ℕ → List (List ℕ)
texts_in zero bytes = []
texts_in (suc count) bytes = with_first (text_at bytes) (λ rest. texts_in count rest)

-- how many there are, in two bytes, and each
abbrev pub listed : {A : Type 0} → (A → List ℕ) → List A → List ℕ
listed spelling items = to_le_bytes w16 (length items) ++ flat_map spelling items

unfoldable pub listed_at : {A : Type 0} → (List ℕ → Reading A) → List ℕ → Reading (List A)
listed_at one_at bytes = do
  count ← number_at w16 bytes
  many_at one_at count.0 count.1

-- a value after which nothing is left
abbrev pub ended : {A : Type 0} → A → List ℕ → Option A
ended x [] = Some x
ended x (byte ∷ rest) = None

-- what is made of a value that fills the bytes
abbrev pub filled : {A B : Type 0} → (A → B) → Reading A → Option B
filled make read = do
  x ← read
  ended (make x.0) x.1
