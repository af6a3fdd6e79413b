-- Reading canonical bytes from the left: the value and the bytes after it, or the first fault. The
-- order of the faults is this project's own.
-- A field is a single byte with a table, a number, a point in time, or a name or text with its
-- length byte. A field that is not there whole is Short;
-- a whole field outside its table, grammar or range has its fault at its first byte. The length
-- byte of a name or text, and the first byte of a point
-- in time, are tested as soon as they are there.
use Rattle.std.specs.Prelude.{◌≡◌, ◌-◌, ℕ, ℤ, int_le, List, [], ◌∷◌, length, take, drop, Bool, ◌&&◌, nat_lt, ◌==◌, if◌then◌else◌, Option, Some, None, Result, Ok, Err}
use Rattle.std.specs.Int.{Width, w32, w64, byte_len, from_be_bytes, cast_signed}
use Rattle.bl_syntax.specs.declared.limits.TheConstants.{LONGEST_WORD, LONGEST_TEXT, FIRST_MOMENT, LAST_MOMENT}
use Rattle.bl_syntax.specs.declared.codec_fault.CodecFault.{CodecFault}
use Rattle.bl_syntax.specs.declared.codec_fault.CodecFault.TheVariants.{Short, BadTag, NotCanonical}
use Rattle.bl_syntax.specs.declared.terms.Sort.{Sort}
use Rattle.bl_syntax.specs.declared.terms.Sort.TheVariants as sorts
use Rattle.bl_syntax.specs.declared.terms.Perm.{Perm as Permission}
use Rattle.bl_syntax.specs.declared.terms.Perm.TheVariants as permissions
use Rattle.bl_syntax.specs.declared.terms.TimePoint.{TimePoint}
use Rattle.bl_syntax.specs.declared.terms.TimePoint.TheVariants.{NegInf, At, PosInf}
use Rattle.bl_syntax.specs.declared.terms.Term.{Term}
use Rattle.bl_syntax.specs.declared.terms.Term.TheVariants.{Prin, File, Perm, Time, Text, Ctime, Param, Bound}
use Rattle.bl_syntax.specs.Names.{is_principal_name, is_predicate_name, is_text}

-- one reading, and then another of the bytes after it, unless the first has a fault
infixl 10 ◌>>=◌
abbrev pub ◌>>=◌ : {A B : Type 0} → Result A CodecFault → (A → Result B CodecFault) →
    Result B CodecFault
(Ok x) >>= f = f x
(Err e) >>= f = Err e

-- a value and the bytes after it, or a fault
abbrev pub Reading : Type 0 → Type 0
Reading A = Result (A × List ℕ) CodecFault

-- where the rest of an input begins: how many of the input's bytes stand before it
abbrev pub place : ℕ → List ℕ → ℕ
place input rest = input - length rest

-- the value that f makes of what is read, and what is after it
abbrev pub map_reading : {A B R : Type 0} → (A → B) → Result (A × R) CodecFault →
    Result (B × R) CodecFault
map_reading f read = read >>= λ x. Ok (f x.0, x.1)

-- a big-endian number
abbrev pub number_at : Width → List ℕ → Reading ℕ
number_at width bytes = if nat_lt (length bytes) (byte_len width) then Err Short
    else Ok (from_be_bytes width (take (byte_len width) bytes), drop (byte_len width) bytes)

-- a length byte that lies between two numbers, and that many bytes
unfoldable pub with_length_at : ℕ → ℕ → ℕ → List ℕ → Reading (List ℕ)
with_length_at least most input [] = Err Short
with_length_at least most input (len ∷ rest) =
    if nat_lt len least then Err (NotCanonical (place input (len ∷ rest))) else
    if nat_lt most len then Err (NotCanonical (place input (len ∷ rest))) else
    if nat_lt (length rest) len then Err Short else
    Ok (take len rest, drop len rest)

-- bytes of that length in a grammar
unfoldable pub word_at : ℕ → ℕ → (List ℕ → Bool) → ℕ → List ℕ → Reading (List ℕ)
word_at least most is_word input bytes = do
  word ← with_length_at least most input bytes
  if is_word word.0 then Ok word else Err (NotCanonical (place input bytes))

-- a principal's name
abbrev pub name_at : ℕ → List ℕ → Reading (List ℕ)
name_at input bytes = word_at 1 LONGEST_WORD is_principal_name input bytes

-- a predicate's name
abbrev pub predicate_at : ℕ → List ℕ → Reading (List ℕ)
predicate_at input bytes = word_at 1 LONGEST_WORD is_predicate_name input bytes

-- a text constant
abbrev pub text_at : ℕ → List ℕ → Reading (List ℕ)
text_at input bytes = word_at 0 LONGEST_TEXT is_text input bytes

-- a whole second of the years 1 to 9999
abbrev pub is_moment : ℤ → Bool
is_moment second = int_le FIRST_MOMENT second && int_le second LAST_MOMENT

-- a second in two's complement; its first byte stands one after that of the point in time
unfoldable pub moment_at : ℕ → List ℕ → Reading TimePoint
moment_at start bytes = do
  number ← number_at w64 bytes
  if is_moment (cast_signed w64 number.0) then Ok (At (cast_signed w64 number.0), number.1) else Err (NotCanonical start)

-- a point in time
unfoldable pub time_at : ℕ → List ℕ → Reading TimePoint
time_at input [] = Err Short
time_at input (kind ∷ rest) =
    if kind == 0 then Ok (NegInf, rest) else
    if kind == 1 then moment_at (place input (kind ∷ rest)) rest else
    if kind == 2 then Ok (PosInf, rest) else
    Err (NotCanonical (place input (kind ∷ rest)))

-- the permission of a byte
abbrev pub permission_of : ℕ → Option Permission
permission_of code =
    if code == 1 then Some permissions.Read else
    if code == 2 then Some permissions.Write else
    if code == 3 then Some permissions.Execute else
    if code == 4 then Some permissions.Identity else
    if code == 5 then Some permissions.Govern else
    None

-- the sort of a byte
abbrev pub sort_of : ℕ → Option Sort
sort_of code =
    if code == 1 then Some sorts.Principal else
    if code == 2 then Some sorts.File else
    if code == 3 then Some sorts.Perm else
    if code == 4 then Some sorts.Time else
    if code == 5 then Some sorts.Text else
    None

-- what a table has for a byte
abbrev pub look_up : {A : Type 0} → Option A → List ℕ → CodecFault → Reading A
look_up None rest fault = Err fault
look_up (Some x) rest fault = Ok (x, rest)

-- a single byte with a table
unfoldable pub coded_at : {A : Type 0} → (ℕ → Option A) → ℕ → List ℕ → Reading A
coded_at table input [] = Err Short
coded_at table input (code ∷ rest) = look_up (table code) rest (BadTag (place input (code ∷ rest)))

-- a permission
abbrev pub permission_at : ℕ → List ℕ → Reading Permission
permission_at input bytes = coded_at permission_of input bytes

-- a sort
abbrev pub sort_at : ℕ → List ℕ → Reading Sort
sort_at input bytes = coded_at sort_of input bytes

-- the field of a term with this tag, which stands at the place
unfoldable pub field_at : ℕ → ℕ → ℕ → List ℕ → Reading Term
field_at input start tag rest =
    if tag == 1 then map_reading Prin (name_at input rest) else
    if tag == 2 then map_reading (λ n. File (record { 0 = n })) (number_at w64 rest) else
    if tag == 3 then map_reading Perm (permission_at input rest) else
    if tag == 4 then map_reading Time (time_at input rest) else
    if tag == 5 then map_reading Text (text_at input rest) else
    if tag == 6 then Ok (Ctime, rest) else
    if tag == 7 then map_reading Param (number_at w32 rest) else
    if tag == 8 then map_reading Bound (number_at w32 rest) else
    Err (BadTag start)

-- a term: its tag and its field
unfoldable pub term_at : ℕ → List ℕ → Reading Term
term_at input [] = Err Short
term_at input (tag ∷ rest) = field_at input (place input (tag ∷ rest)) tag rest

-- what a function returned, seen by view, is what is read
abbrev pub GivesReading : {X Y : Type 0} → (X → Y) → Result X CodecFault → Result Y CodecFault →
    Type 0
GivesReading view (Ok x) read = read ≡ Ok (view x)
GivesReading view (Err e) read = read ≡ Err e

-- the value that begins an input and how many bytes it takes, or the first fault
abbrev pub reading : {A : Type 0} → (ℕ → List ℕ → Reading A) → List ℕ → Result (A × ℕ) CodecFault
reading at bytes = at (length bytes) bytes >>= λ x. Ok (x.0, length bytes - length x.1)
