-- The numbers of the statements that were withdrawn, with which an image ends. This project's own.
use Rattle.std.specs.Prelude.{◌≡◌, ◌<◌, ◌≤◌, ℕ, List, [], ◌∷◌, false, ◌&&◌, nat_lt, nat_le, if◌then◌else◌, Ok, Err}
use Rattle.std.specs.List.{AllByRecursion}
use Rattle.bl_syntax.specs.declared.codec_fault.CodecFault.TheVariants.{NotCanonical}
use Rattle.bl_syntax.specs.Reading.{◌>>=◌, Reading, place}
use Rattle.policy_statement.specs.Registered.{RegisteredView}
use Rattle.policy_statement.specs.Withdrawal.{marked, withdrawn_from}
use Rattle.record_parts.specs.Fields.{u32_at}
use Rattle.record_parts.specs.RecordSpelling.{cited_spelling, IsSpellableCited}
use Rattle.checkpoint_image.specs.Chain.{long_list_at, long_list_spelling, AreLongChained}

-- none of the entries was withdrawn
abbrev pub AreStanding : List RegisteredView → Type 0
AreStanding entries = AllByRecursion (λ (entry : RegisteredView). entry.withdrawn ≡ false) entries

-- the entries after those of the numbers were withdrawn
abbrev pub marked_all : List RegisteredView → List ℕ → List RegisteredView
marked_all entries [] = entries
marked_all entries (number ∷ numbers) = marked_all (marked entries number) numbers

-- the number of an entry, if it was withdrawn
abbrev pub number_if : ℕ → RegisteredView → List ℕ
number_if number entry = if entry.withdrawn then number ∷ [] else []

-- how many of the entries were withdrawn, and the number of each
abbrev pub withdrawn_numbers_spelling : List RegisteredView → List ℕ
withdrawn_numbers_spelling entries = long_list_spelling cited_spelling (withdrawn_from 1 entries)

-- a number that passes the previous one, and is at most this one
pub record IsNumberWithin (most previous number : ℕ) : Type 0 where
  pub above : previous < number
  pub within : number ≤ most
  pub spelled : IsSpellableCited number

-- such a number; another one has its fault at its first byte
unfoldable pub withdrawn_number_at : ℕ → ℕ → ℕ → List ℕ → Reading ℕ
withdrawn_number_at most previous input bytes = do
  number ← u32_at bytes
  if nat_lt previous number.0 && nat_le number.0 most then Ok number else Err (NotCanonical (place input bytes))

-- what a number leaves for the next one to pass
abbrev pub number_left : ℕ → ℕ
number_left number = number

-- how many numbers there are, and each: they rise, and none is above this one
abbrev pub withdrawn_numbers_at : ℕ → ℕ → List ℕ → Reading (List ℕ)
withdrawn_numbers_at most input bytes = long_list_at (λ previous. withdrawn_number_at most previous input) number_left 0 bytes

abbrev pub AreWithdrawnNumbers : ℕ → List ℕ → Type 0
AreWithdrawnNumbers most numbers = AreLongChained (IsNumberWithin most) number_left 0 numbers
