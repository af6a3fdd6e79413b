-- An issue that is kept as its bytes is the one that is read of them, and its parts are theirs.
use Rattle.std.proofs.Common.{◌≡◌, ℕ, ◌*◌, ◌≤◌, eqb, get_or, List, [], ◌∷◌, ◌++◌, length, Result, Ok, Err, refl, sym, ap, subst, ◌∙◌, append_assoc, arith}
use Rattle.std.specs.List.{flat_map, AllByRecursion}
use Rattle.std.specs.Int.{w32, to_be_bytes}
use Rattle.std.proofs.lemmas.List.{append-nil, length-append, take_at, drop_at}
use Rattle.std.proofs.Math.Dec.{eqb-suc-zero}
use Rattle.bl_syntax.specs.declared.codec_fault.CodecFault.{CodecFault}
use Rattle.bl_syntax.specs.declared.codec_fault.CodecFault.TheVariants as faults
use Rattle.bl_syntax.specs.Codec.{ReportsFault}
use Rattle.bl_syntax.specs.Grant.{GrantView}
use Rattle.bl_syntax.proofs.CodecLemmas.{ok_is}
use Rattle.bl_syntax.proofs.FieldLemmas.{wide32}
use Rattle.proof_term.specs.Proof.{ProofView}
use Rattle.proof_term.specs.ProofSpelling.{proof_spelling}
use Rattle.procap.specs.GrantSpelling.{grant_spelling, version_of, IsSpellableGrant}
use Rattle.procap.specs.GrantReading.{grant_at}
use Rattle.procap.proofs.GrantLemmas.{grant_codec}
use Rattle.record_parts.specs.Fields.{u32_at}
use Rattle.record_parts.specs.Parts.{list_at, sized_proof_spelling}
use Rattle.record_parts.specs.RecordReading.{issued_at}
use Rattle.record_parts.specs.RecordSpelling.{Issuing, IsIssuing, IsSpellableCited, cited_spelling, issued_spelling, issuing_spelling, IsSpellableIssued}
use Rattle.record_parts.specs.IssuingRecord.{after_length, cited_part, grant_part, issue_of, numbers_in, proved_part, read_issue, IsIssuingRecord}
use Rattle.record_parts.proofs.CodecLemmas.{done}
use Rattle.record_parts.proofs.FieldsLemmas.{u32_codec}
use Rattle.record_parts.proofs.ProofLengthLemmas.{proof_is_short}
use Rattle.record_parts.proofs.RecordLemmas.{cited_codec, issued_codec}

-- ---- the whole

-- the bytes of an issue are read whole, as that issue
read_whole : (input : ℕ) (i : Issuing) (bytes : List ℕ) → IsIssuingRecord i bytes → issued_at input bytes ≡ Ok (i, [])
read_whole input i bytes kept =
    ap (issued_at input) (kept.written ∙ sym (append-nil (issuing_spelling i))) ∙ issued_codec.again input i [] kept.spelled

pub issue_of_is : (i : Issuing) (bytes : List ℕ) → IsIssuingRecord i bytes → issue_of bytes ≡ i
unfolding issue_of
issue_of_is i bytes kept = ap read_issue (read_whole (length bytes) i bytes kept)

-- the bytes that were written of an issue are a record of it
pub recorded : (cited : List ℕ) (proof : ProofView) (g : GrantView) (bytes : List ℕ) → IsSpellableIssued cited proof g → bytes ≡ issued_spelling cited proof g
    → (issue_of bytes ≡ (cited, (proof, g))) × IsIssuingRecord (issue_of bytes) bytes
recorded cited proof g bytes spelled written =
    let kept : IsIssuingRecord (cited, (proof, g)) bytes = record { spelled = spelled; written = written } in
    let same = issue_of_is (cited, (proof, g)) bytes kept in
    (same, subst (λ (i : Issuing). IsIssuingRecord i bytes) (sym same) kept)

-- what is read of the bytes is their issue
pub read_is : (bytes rest : List ℕ) (i : Issuing) → issued_at (length bytes) bytes ≡ Ok (i, rest) → issue_of bytes ≡ i
unfolding issue_of
read_is bytes rest i read = ap read_issue read

ok_no_err : {A : Type 0} (x : A) (fault : CodecFault) → done x ≡ Err fault → ⊥
ok_no_err x fault e = cc

-- a reading that succeeds has no fault
pub no_fault : {A : Type 0} (x : A) (read : Result A CodecFault) (fault : CodecFault) → read ≡ Ok x → ReportsFault fault read → fault ≡ faults.NoMemory
no_fault x read faults.NoMemory is told = refl
no_fault x read faults.Short is told = absurd (ok_no_err x _ (sym is ∙ told))
no_fault x read (faults.BadTag at) is told = absurd (ok_no_err x _ (sym is ∙ told))
no_fault x read (faults.NotCanonical at) is told = absurd (ok_no_err x _ (sym is ∙ told))
no_fault x read (faults.TooLarge at) is told = absurd (ok_no_err x _ (sym is ∙ told))

pub no_fault_of_issue : (input : ℕ) (i : Issuing) (bytes : List ℕ) (fault : CodecFault) → IsIssuingRecord i bytes → ReportsFault fault (issued_at input bytes) → fault ≡ faults.NoMemory
no_fault_of_issue input i bytes fault kept told = no_fault (i, []) (issued_at input bytes) fault (read_whole input i bytes kept) told

-- ---- the numbers that are cited

flat_length : (numbers : List ℕ) → length (flat_map cited_spelling numbers) ≡ length numbers * 4
flat_length [] = refl
flat_length (n ∷ numbers) = omega (arith, flat_length numbers, length-append (cited_spelling n) (flat_map cited_spelling numbers), wide32.len n)

-- what is after the numbers
abbrev proved_spelling : ProofView → GrantView → List ℕ
proved_spelling proof g = sized_proof_spelling proof ++ grant_spelling g

cited_part_is : (i : Issuing) → cited_part (issuing_spelling i) ≡ flat_map cited_spelling i.0
unfolding issued_spelling
cited_part_is i = take_at (flat_map cited_spelling i.0) (proved_spelling i.1.0 i.1.1) (length i.0 * 4) (flat_length i.0)

proved_part_is : (i : Issuing) → proved_part (issuing_spelling i) ≡ proved_spelling i.1.0 i.1.1
unfolding issued_spelling
proved_part_is i = drop_at (flat_map cited_spelling i.0) (proved_spelling i.1.0 i.1.1) (length i.0 * 4) (flat_length i.0)

numbers_in_is : (numbers : List ℕ) → AllByRecursion IsSpellableCited numbers → numbers_in (flat_map cited_spelling numbers) ≡ numbers
unfolding numbers_in
numbers_in_is [] each = refl
numbers_in_is (n ∷ numbers) each = rw (wide32.again n each.0, numbers_in_is numbers each.1) refl

-- the bytes of the numbers are those that the issue cites
pub cited_are : (i : Issuing) (bytes : List ℕ) → IsIssuingRecord i bytes → numbers_in (cited_part bytes) ≡ i.0
cited_are i bytes kept = ap (λ (b : List ℕ). numbers_in (cited_part b)) kept.written ∙ ap numbers_in (cited_part_is i) ∙ numbers_in_is i.0 kept.spelled.numbers.each

-- the numbers are read first
pub cited_read : (i : Issuing) (bytes : List ℕ) → IsIssuingRecord i bytes → list_at u32_at bytes ≡ Ok (i.0, proved_spelling i.1.0 i.1.1)
unfolding issued_spelling
cited_read i bytes kept = ap (list_at u32_at) kept.written ∙ cited_codec.again 0 i.0 (proved_spelling i.1.0 i.1.1) kept.spelled.numbers

pub no_fault_of_cited : (i : Issuing) (bytes : List ℕ) (fault : CodecFault) → IsIssuingRecord i bytes → ReportsFault fault (list_at u32_at bytes) → fault ≡ faults.NoMemory
no_fault_of_cited i bytes fault kept told = no_fault (i.0, proved_spelling i.1.0 i.1.1) (list_at u32_at bytes) fault (cited_read i bytes kept) told

pub cited_are_read : (i : Issuing) (bytes rest numbers : List ℕ) → IsIssuingRecord i bytes → list_at u32_at bytes ≡ Ok (numbers, rest) → numbers ≡ i.0
cited_are_read i bytes rest numbers kept read = ap (λ (p : List ℕ × List ℕ). p.0) (ok_is (numbers, rest) (i.0, proved_spelling i.1.0 i.1.1) (sym read ∙ cited_read i bytes kept))

-- ---- the grant

grant_part_is : (i : Issuing) → IsIssuing i → grant_part (issuing_spelling i) ≡ grant_spelling i.1.1
unfolding sized_proof_spelling
grant_part_is i spelled =
    let p = proof_spelling i.1.0 in let g = grant_spelling i.1.1 in
    ap (λ (b : List ℕ). after_length (u32_at b)) (proved_part_is i ∙ append_assoc (to_be_bytes w32 (length p)) p g)
    ∙ (ap after_length (u32_codec.again 0 (length p) (p ++ g) (proof_is_short i.1.0 spelled.proved)) ∙ drop_at p g (length p) refl)

pub grant_is : (i : Issuing) (bytes : List ℕ) → IsIssuingRecord i bytes → grant_part bytes ≡ grant_spelling i.1.1
grant_is i bytes kept = ap grant_part kept.written ∙ grant_part_is i kept.spelled

grant_read : (input : ℕ) (i : Issuing) (bytes part : List ℕ) → IsIssuingRecord i bytes → part ≡ grant_part bytes → grant_at input part ≡ Ok (i.1.1, [])
grant_read input i bytes part kept is = ap (grant_at input) (is ∙ (grant_is i bytes kept ∙ sym (append-nil (grant_spelling i.1.1)))) ∙ grant_codec.again input i.1.1 [] kept.spelled.granted

pub grant_is_read : (input : ℕ) (i : Issuing) (bytes part rest : List ℕ) (g : GrantView) → IsIssuingRecord i bytes → part ≡ grant_part bytes → grant_at input part ≡ Ok (g, rest) → g ≡ i.1.1
grant_is_read input i bytes part rest g kept is read = ap (λ (p : GrantView × List ℕ). p.0) (ok_is (g, rest) (i.1.1, []) (sym read ∙ grant_read input i bytes part kept is))

pub no_fault_of_grant : (input : ℕ) (i : Issuing) (bytes part : List ℕ) (fault : CodecFault) → IsIssuingRecord i bytes → part ≡ grant_part bytes → ReportsFault fault (grant_at input part) → fault ≡ faults.NoMemory
no_fault_of_grant input i bytes part fault kept is told = no_fault (i.1.1, []) (grant_at input part) fault (grant_read input i bytes part kept is) told

-- the bytes of the grant are those of another exactly if it is the other
pub same_grant : (i : Issuing) (bytes part : List ℕ) (g : GrantView) → IsIssuingRecord i bytes → part ≡ grant_part bytes → IsSpellableGrant g → part ≡ grant_spelling g → i.1.1 ≡ g
same_grant i bytes part g kept is spelled same =
    (grant_codec.apart i.1.1 g [] [] kept.spelled.granted spelled (ap (λ (b : List ℕ). b ++ []) (sym (grant_is i bytes kept) ∙ (sym is ∙ same)))).0

pub grant_spelled : (i : Issuing) (bytes part : List ℕ) (g : GrantView) → IsIssuingRecord i bytes → part ≡ grant_part bytes → i.1.1 ≡ g → part ≡ grant_spelling g
grant_spelled i bytes part g kept is same = is ∙ (grant_is i bytes kept ∙ ap grant_spelling same)

-- the version of a grant says whether it names statements
pub plain_version : (numbers : List ℕ) → eqb (version_of numbers) 1 ≡ eqb (length numbers) 0
plain_version [] = refl
plain_version (n ∷ numbers) = sym (eqb-suc-zero (length numbers))

pub version_read : (i : Issuing) (bytes part : List ℕ) (default : ℕ) → IsIssuingRecord i bytes → part ≡ grant_part bytes → get_or part 1 default ≡ version_of i.1.1.cited
unfolding grant_spelling
version_read i bytes part default kept is = ap (λ (b : List ℕ). get_or b 1 default) (is ∙ grant_is i bytes kept)

pub has_version : (i : Issuing) (bytes part : List ℕ) → IsIssuingRecord i bytes → part ≡ grant_part bytes → 2 ≤ length part
unfolding grant_spelling
has_version i bytes part kept is = omega (arith, ap length (is ∙ grant_is i bytes kept))
