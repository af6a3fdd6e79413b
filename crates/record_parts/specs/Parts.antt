-- How a proof with its length stands in a record, and lists of parts.
use Rattle.std.specs.Prelude.{ℕ, zero, suc, List, [], ◌∷◌, ◌++◌, ◌-◌, ◌==◌, ◌≤◌, length, if◌then◌else◌, Result, Ok, Err}
use Rattle.std.specs.List.{AllByRecursion}
use Rattle.std.specs.Int.{w32, to_be_bytes}
use Rattle.bl_syntax.specs.declared.codec_fault.CodecFault.{CodecFault}
use Rattle.bl_syntax.specs.declared.codec_fault.CodecFault.TheVariants.{Short, BadTag, NotCanonical, TooLarge, NoMemory}
use Rattle.bl_syntax.specs.Reading.{◌>>=◌, Reading, place}
use Rattle.proof_term.specs.declared.fault.ProofFault.{ProofFault}
use Rattle.proof_term.specs.declared.fault.ProofFault.TheVariants as proof_faults
use Rattle.proof_term.specs.Proof.{ProofView}
use Rattle.proof_term.specs.ProofSpelling.{proof_spelling}
use Rattle.proof_term.specs.ProofReading.{kept_proof_at}
use Rattle.record_parts.specs.Fields.{u32_at}

-- so many, one after the other
unfoldable pub many_at : {A : Type 0} → (List ℕ → Reading A) → ℕ → List ℕ → Reading (List A)
many_at one_at zero bytes = Ok ([], bytes)
many_at one_at (suc count) bytes = do
  first ← one_at bytes
  others ← many_at one_at count first.1
  Ok (first.0 ∷ others.0, others.1)

-- how many there are, in one byte, and each
unfoldable pub list_at : {A : Type 0} → (List ℕ → Reading A) → List ℕ → Reading (List A)
list_at one_at [] = Err Short
list_at one_at (count ∷ rest) = many_at one_at count rest

-- few enough for a count of one byte, each with a spelling
pub record AreSpellable {A : Type 0} (IsSpelled : A → Type 0) (items : List A) : Type 0 where
  pub few : length items ≤ 255
  pub each : AllByRecursion IsSpelled items

-- a proof's fault as one of the record: too deep is too large, and a term's fault is its own
abbrev pub of_proof : ProofFault → CodecFault
of_proof proof_faults.Short = Short
of_proof (proof_faults.BadTag at) = BadTag at
of_proof (proof_faults.TooLarge at) = TooLarge at
of_proof (proof_faults.TooDeep at) = TooLarge at
of_proof (proof_faults.BadTerm fault) = fault
of_proof proof_faults.NoMemory = NoMemory

abbrev pub as_part : {A : Type 0} → Result A ProofFault → Result A CodecFault
as_part (Ok x) = Ok x
as_part (Err fault) = Err (of_proof fault)

-- four bytes of length, and a proof
unfoldable pub sized_proof_spelling : ProofView → List ℕ
sized_proof_spelling proof = to_be_bytes w32 (length (proof_spelling proof)) ++ proof_spelling proof

-- a proof, once read, may have no other length than the one before it
unfoldable pub sized_proof_at : ℕ → List ℕ → Reading ProofView
sized_proof_at input bytes = do
  len ← u32_at bytes
  proof ← as_part (kept_proof_at input len.1)
  if (length len.1 - length proof.1) == len.0 then Ok proof else Err (NotCanonical (place input bytes))
