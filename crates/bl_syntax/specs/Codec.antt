-- What joins the spelling of a kind of value with its reading.
use Rattle.std.specs.Prelude.{◌≡◌, ◌<◌, ◌↔◌, ℕ, List, ◌++◌, length, drop, slice_index, Result, Ok, Err, IfOk, IfErr, IsErr}
use Rattle.bl_syntax.specs.declared.codec_fault.CodecFault.{CodecFault}
use Rattle.bl_syntax.specs.declared.codec_fault.CodecFault.TheVariants as faults
use Rattle.bl_syntax.specs.Reading.{Reading}

-- each number is a byte
abbrev pub AreBytes : List ℕ → Type 0
AreBytes bytes = (index : ℕ) → slice_index bytes index < 256

-- no spelling of the kind begins the bytes
abbrev pub BeginsNone : {A : Type 0} → (A → Type 0) → (A → List ℕ) → List ℕ → Type 0
BeginsNone {A} IsSpelled spelling bytes = (x : A) (rest : List ℕ) → IsSpelled x →
    bytes ≡ spelling x ++ rest → ⊥

-- The values that have a spelling, their spelling, and their reading belong together:
-- what is read is spelled so; what is spelled so is read, whatever follows; no spelling begins
-- another, and two values have two spellings;
-- a fault comes exactly if no spelling begins the bytes, and never because memory runs out.
pub record IsCodec {A : Type 0} (IsSpelled : A → Type 0) (spelling : A → List ℕ) (at : ℕ → List ℕ → Reading A) : Type 0 where
  pub found : (input : ℕ) (bytes rest : List ℕ) (x : A) → AreBytes bytes →
      at input bytes ≡ Ok (x, rest) → IsSpelled x × (bytes ≡ spelling x ++ rest)
  pub again : (input : ℕ) (x : A) (rest : List ℕ) → IsSpelled x →
      at input (spelling x ++ rest) ≡ Ok (x, rest)
  pub apart : (x y : A) (rest others : List ℕ) → IsSpelled x → IsSpelled y →
      spelling x ++ rest ≡ spelling y ++ others → (x ≡ y) × (rest ≡ others)
  pub refused : (input : ℕ) (bytes : List ℕ) → AreBytes bytes → IsErr (at input bytes) ↔
      BeginsNone IsSpelled spelling bytes
  pub memoryless : (input : ℕ) (bytes : List ℕ) → at input bytes ≡ Err faults.NoMemory → ⊥

-- what a call read at the front of the bytes, seen by view: the value whose spelling begins them
-- and the length of that spelling, or a fault, which comes only if there is none, or because memory
-- runs out
pub record ReadsFront {X A : Type 0} (view : X → A) (IsSpelled : A → Type 0) (spelling : A → List ℕ)
    (bytes : List ℕ) (result : Result (X × ℕ) CodecFault) : Type 0 where
  pub found : IfOk result (λ x. IsSpelled (view x.0) × (bytes ≡ spelling (view x.0) ++ drop x.1 bytes) × (x.1 ≡ length (spelling (view x.0))))
  pub refused : IfErr result (λ fault. (fault ≡ faults.NoMemory → ⊥) → BeginsNone IsSpelled spelling bytes)

-- the call was not refused because memory runs out
abbrev pub TakesNoMemory : {X : Type 0} → Result X CodecFault → Type 0
TakesNoMemory result = IfErr result (λ fault. fault ≡ faults.NoMemory → ⊥)

-- a fault of a call is what is read, unless there was no memory
abbrev pub ReportsFault : {Y : Type 0} → CodecFault → Result Y CodecFault → Type 0
ReportsFault faults.NoMemory read = Unit {0}
ReportsFault faults.Short read = read ≡ Err faults.Short
ReportsFault (faults.BadTag place) read = read ≡ Err (faults.BadTag place)
ReportsFault (faults.NotCanonical place) read = read ≡ Err (faults.NotCanonical place)
ReportsFault (faults.TooLarge place) read = read ≡ Err (faults.TooLarge place)

-- what a call returned, seen by view, is what is read, unless there was no memory
abbrev pub GivesReadingOrReports : {X Y : Type 0} → (X → Y) → Result X CodecFault →
    Result Y CodecFault → Type 0
GivesReadingOrReports view (Ok x) read = read ≡ Ok (view x)
GivesReadingOrReports view (Err fault) read = ReportsFault fault read
