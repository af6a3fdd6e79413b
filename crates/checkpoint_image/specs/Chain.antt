-- Lists, each item of which is read with what the one before it leaves, such as the number that it
-- has to pass. This project's own.
use Rattle.std.specs.Prelude.{ℕ, zero, suc, List, [], ◌∷◌, ◌++◌, ◌<◌, ◌≤◌, ◌^◌, length, Ok, Err}
use Rattle.std.specs.List.{flat_map}
use Rattle.std.specs.Int.{w32, to_be_bytes}
use Rattle.bl_syntax.specs.declared.codec_fault.CodecFault.TheVariants.{Short}
use Rattle.bl_syntax.specs.Reading.{◌>>=◌, Reading}
use Rattle.record_parts.specs.Fields.{u32_at}

-- so many, one after the other
unfoldable pub chain_at : {S A : Type 0} → (S → List ℕ → Reading A) → (A → S) → ℕ → S → List ℕ →
    Reading (List A)
chain_at one_at left zero state bytes = Ok ([], bytes)
chain_at one_at left (suc count) state bytes = do
  first ← one_at state bytes
  others ← chain_at one_at left count (left first.0) first.1
  Ok (first.0 ∷ others.0, others.1)

-- how many there are, in one byte, and each
unfoldable pub short_list_at : {S A : Type 0} → (S → List ℕ → Reading A) → (A → S) → S → List ℕ →
    Reading (List A)
short_list_at one_at left start [] = Err Short
short_list_at one_at left start (count ∷ rest) = chain_at one_at left count start rest

-- how many there are, in four bytes, and each
unfoldable pub long_list_at : {S A : Type 0} → (S → List ℕ → Reading A) → (A → S) → S → List ℕ →
    Reading (List A)
long_list_at one_at left start bytes = do
  count ← u32_at bytes
  chain_at one_at left count.0 start count.1

abbrev pub long_list_spelling : {A : Type 0} → (A → List ℕ) → List A → List ℕ
long_list_spelling spelling items = to_be_bytes w32 (length items) ++ flat_map spelling items

-- each fits what the one before it leaves
abbrev pub AreChained : {S A : Type 0} → (S → A → Type 0) → (A → S) → S → List A → Type 0
AreChained Fits left state [] = Unit {0}
AreChained Fits left state (item ∷ items) = Fits state item × AreChained Fits left (left item) items

-- the same, and few enough for a count of one byte, or of four
pub record AreShortChained {S A : Type 0} (Fits : S → A → Type 0) (left : A → S) (start : S) (items : List A) : Type 0 where
  pub few : length items ≤ 255
  pub chained : AreChained Fits left start items

pub record AreLongChained {S A : Type 0} (Fits : S → A → Type 0) (left : A → S) (start : S) (items : List A) : Type 0 where
  pub few : length items < 2 ^ 32
  pub chained : AreChained Fits left start items

-- items that have nothing to do with one another
abbrev pub alone : {A : Type 0} → (List ℕ → Reading A) → Unit {0} → List ℕ → Reading A
alone one_at nothing bytes = one_at bytes

abbrev pub nothing_left : {A : Type 0} → A → Unit {0}
nothing_left item = tt
