-- What the calls read is what the definitions read: proofs with their length, and lists.
use Rattle.std.proofs.Common.{◌≡◌, ℕ, suc, ◌-◌, ◌+◌, ◌≤◌, ◌<◌, false, eqb, List, [], ◌∷◌, ◌++◌, length, Result, Ok, Err, refl, sym, ap, subst, ◌∙◌, append_assoc, arith}
use Rattle.std.proofs.lemmas.Bool.{eqb-true, eq-eqb, false_from_ne_true}
use Rattle.std.proofs.lemmas.List.{append-nil}
use Rattle.bl_syntax.specs.declared.codec_fault.CodecFault.{CodecFault}
use Rattle.bl_syntax.specs.declared.codec_fault.CodecFault.TheVariants as faults
use Rattle.bl_syntax.specs.Reading.{◌>>=◌, Reading, place}
use Rattle.bl_syntax.specs.Codec.{ReportsFault}
use Rattle.bl_syntax.proofs.ReportsFaultLemmas.{stops, hands_on}
use Rattle.proof_term.specs.declared.fault.ProofFault.{ProofFault}
use Rattle.proof_term.specs.declared.fault.ProofFault.TheVariants as proof_faults
use Rattle.proof_term.specs.Proof.{ProofView}
use Rattle.proof_term.specs.ProofReading.{kept_proof_at, ReportsProofFault}
use Rattle.record_parts.specs.Fields.{u32_at}
use Rattle.record_parts.specs.Parts.{many_at, of_proof, as_part, sized_proof_at}
use Rattle.record_parts.proofs.CodecLemmas.{done}
use Rattle.record_parts.proofs.PartsLemmas.{of_length}

-- ---- proofs with their length

as_part_fault : {A : Type 0} (fault : ProofFault) (r : Result A ProofFault) → ReportsProofFault fault r → ReportsFault (of_proof fault) (as_part r)
as_part_fault proof_faults.Short r e = ap as_part e
as_part_fault (proof_faults.BadTag at) r e = ap as_part e
as_part_fault (proof_faults.TooLarge at) r e = ap as_part e
as_part_fault (proof_faults.TooDeep at) r e = ap as_part e
as_part_fault (proof_faults.BadTerm fault) r e = stops fault (as_part r) (ap as_part e)
as_part_fault proof_faults.NoMemory r e = tt

behind_length : ℕ → ℕ → ℕ × List ℕ → Reading ProofView
behind_length input start len = as_part (kept_proof_at input len.1) >>= of_length start len.0 len.1

sized_is : (input : ℕ) (bytes rest : List ℕ) (len : ℕ) → u32_at bytes ≡ Ok (len, rest) → sized_proof_at input bytes ≡ behind_length input (place input bytes) (len, rest)
unfolding sized_proof_at behind_length
sized_is input bytes rest len e = ap (λ (r : Reading ℕ). r >>= λ x. as_part (kept_proof_at input x.1) >>= of_length (place input bytes) x.0 x.1) e

pub length_stops : (input : ℕ) (bytes : List ℕ) (fault : CodecFault) → u32_at bytes ≡ Err fault → ReportsFault fault (sized_proof_at input bytes)
unfolding sized_proof_at behind_length
length_stops input bytes fault e = hands_on fault (u32_at bytes) (λ x. as_part (kept_proof_at input x.1) >>= of_length (place input bytes) x.0 x.1) (stops fault (u32_at bytes) e)

pub proof_stops : (input : ℕ) (bytes rest : List ℕ) (len : ℕ) (fault : ProofFault) → u32_at bytes ≡ Ok (len, rest) → ReportsProofFault fault (kept_proof_at input rest) → ReportsFault (of_proof fault) (sized_proof_at input bytes)
unfolding behind_length
proof_stops input bytes rest len fault e h =
    rw (sized_is input bytes rest len e) (hands_on (of_proof fault) (as_part (kept_proof_at input rest)) (of_length (place input bytes) len rest) (as_part_fault fault (kept_proof_at input rest) h))

proof_is : (input : ℕ) (bytes rest behind : List ℕ) (len : ℕ) (d : ProofView) → u32_at bytes ≡ Ok (len, rest) → kept_proof_at input rest ≡ Ok (d, behind) → sized_proof_at input bytes ≡ of_length (place input bytes) len rest (d, behind)
unfolding behind_length
proof_is input bytes rest behind len d e h = sized_is input bytes rest len e ∙ ap (λ (r : Result (ProofView × List ℕ) ProofFault). as_part r >>= of_length (place input bytes) len rest) h

pub length_is_the_proofs : (input : ℕ) (bytes rest behind : List ℕ) (len : ℕ) (d : ProofView) → u32_at bytes ≡ Ok (len, rest) → kept_proof_at input rest ≡ Ok (d, behind) → length rest - length behind ≡ len
    → sized_proof_at input bytes ≡ Ok (d, behind)
length_is_the_proofs input bytes rest behind len d e h is = proof_is input bytes rest behind len d e h ∙ (rw (eq-eqb _ _ is) refl)

pub length_is_another : (input : ℕ) (bytes rest behind : List ℕ) (len : ℕ) (d : ProofView) → u32_at bytes ≡ Ok (len, rest) → kept_proof_at input rest ≡ Ok (d, behind) → (length rest - length behind ≡ len → ⊥)
    → sized_proof_at input bytes ≡ Err (faults.NotCanonical (place input bytes))
length_is_another input bytes rest behind len d e h differ =
    let is : eqb (length rest - length behind) len ≡ false = false_from_ne_true (eqb (length rest - length behind) len) (λ same. differ (eqb-true _ _ same)) in
    proof_is input bytes rest behind len d e h ∙ (rw is refl)

-- ---- lists, as a loop reads them

-- what was read before, and what is still read
abbrev pub with_front : {A : Type 0} → List A → Reading (List A) → Reading (List A)
with_front front read = read >>= λ x. Ok (front ++ x.0, x.1)

regroup : {A : Type 0} (front : List A) (x : A) (read : Reading (List A)) → with_front front (read >>= λ xs. Ok (x ∷ xs.0, xs.1)) ≡ with_front (front ++ x ∷ []) read
regroup {A} front x (Ok xs) = ap (λ (all : List A). done (all, xs.1)) (sym (append_assoc front (x ∷ []) xs.0))
regroup front x (Err fault) = refl

pub goes_on : {A : Type 0} (one_at : List ℕ → Reading A) (front : List A) (count i : ℕ) (bytes : List ℕ) (x : A) (behind : List ℕ) (total : Reading (List A)) → i < count → one_at bytes ≡ Ok (x, behind)
    → with_front front (many_at one_at (count - i) bytes) ≡ total → with_front (front ++ x ∷ []) (many_at one_at (count - (i + 1)) behind) ≡ total
unfolding many_at
goes_on one_at front count i bytes x behind total lt h so_far =
    let k : count - i ≡ suc (count - (i + 1)) = omega arith in
    let one : with_front front (many_at one_at (count - i) bytes) ≡ with_front (front ++ x ∷ []) (many_at one_at (count - (i + 1)) behind) = rw (k, h) (regroup front x (many_at one_at (count - (i + 1)) behind)) in
    sym one ∙ so_far

pub ends : {A : Type 0} (fault : CodecFault) (one_at : List ℕ → Reading A) (front : List A) (count i : ℕ) (bytes : List ℕ) (total : Reading (List A)) → i < count → ReportsFault fault (one_at bytes)
    → with_front front (many_at one_at (count - i) bytes) ≡ total → ReportsFault fault total
unfolding many_at
ends {A} fault one_at front count i bytes total lt h so_far =
    let k : count - i ≡ suc (count - (i + 1)) = omega arith in
    let many : Reading (List A) = many_at one_at (suc (count - (i + 1))) bytes in
    let one : ReportsFault fault many = hands_on fault (one_at bytes) (λ first. many_at one_at (count - (i + 1)) first.1 >>= λ others. done (first.0 ∷ others.0, others.1)) h in
    let all : ReportsFault fault (with_front front many) = hands_on fault many (λ x. done (front ++ x.0, x.1)) one in
    subst (ReportsFault fault) (ap (λ (n : ℕ). with_front front (many_at one_at n bytes)) (sym k) ∙ so_far) all

pub is_done : {A : Type 0} (one_at : List ℕ → Reading A) (front : List A) (count i : ℕ) (bytes : List ℕ) (total : Reading (List A)) → count ≤ i → with_front front (many_at one_at (count - i) bytes) ≡ total → total ≡ Ok (front, bytes)
unfolding many_at
is_done {A} one_at front count i bytes total le so_far =
    let k : count - i ≡ 0 = omega arith in
    let one : with_front front (many_at one_at (count - i) bytes) ≡ Ok (front, bytes) = rw k (ap (λ (all : List A). done (all, bytes)) (append-nil front)) in
    sym so_far ∙ one
