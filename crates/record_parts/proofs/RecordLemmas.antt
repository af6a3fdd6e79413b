-- What records hold after their tag: what is read is spelled so, and what is spelled so is read.
use Rattle.std.proofs.Common.{ℕ, ℤ, List, refl}
use Rattle.std.specs.Prelude.{IsTrue}
use Rattle.bl_syntax.specs.Names.{is_principal_name}
use Rattle.bl_syntax.specs.TimeOrder.{IsMoment}
use Rattle.bl_syntax.specs.Grant.{GrantView}
use Rattle.bl_syntax.specs.Spelling.{with_length}
use Rattle.bl_syntax.specs.FormulaSpelling.{statement_spelling, IsSpellableStatement}
use Rattle.bl_syntax.specs.FormulaReading.{statement_at}
use Rattle.bl_syntax.specs.Reading.{name_at}
use Rattle.bl_syntax.specs.Codec.{IsCodec}
use Rattle.bl_syntax.proofs.FieldCodecs.{name_codec}
use Rattle.bl_codec.proofs.StatementCodec.{statement_codec}
use Rattle.proof_term.specs.Proof.{ProofView}
use Rattle.proof_term.specs.ProofSpelling.{IsSpellableProof}
use Rattle.procap.specs.declared.procap.Procap.{Procap}
use Rattle.procap.specs.GrantSpelling.{grant_spelling, list_spelling, IsSpellableGrant}
use Rattle.procap.specs.GrantReading.{both_at, grant_at}
use Rattle.procap.specs.Procap.{procap_spelling, IsSpellableProcap, procap_at}
use Rattle.procap.proofs.PartLemmas.{both_spelling, AreBoth, both_codec}
use Rattle.procap.proofs.GrantLemmas.{grant_codec}
use Rattle.procap.proofs.ProcapLemmas.{procap_codec}
use Rattle.record_parts.specs.Fields.{u32_at, sized_bytes_spelling, sized_bytes_at, FitsFourBytes, moment_spelling, moment_field_at}
use Rattle.record_parts.specs.Parts.{list_at, AreSpellable, sized_proof_spelling, sized_proof_at}
use Rattle.record_parts.specs.OperationSpelling.{operation_spelling, IsSpellableOperation}
use Rattle.record_parts.specs.OperationReading.{operation_at}
use Rattle.record_parts.specs.RecordSpelling.{registered_spelling, IsRegistration, registration_spelling, withdrawn_spelling, IsWithdrawal, withdrawal_spelling, cited_spelling, IsSpellableCited, issued_spelling, IsIssuing, issuing_spelling, acted_spelling, IsAction, action_spelling}
use Rattle.record_parts.specs.RecordReading.{registered_at, withdrawn_at, proved_at, issued_at, admitted_at, done_at, acted_at}
use Rattle.record_parts.proofs.CodecLemmas.{same_codec}
use Rattle.record_parts.proofs.FieldsLemmas.{u32_codec, sized_bytes_codec, moment_codec}
use Rattle.record_parts.proofs.PartsLemmas.{list_codec, sized_codec}
use Rattle.record_parts.proofs.OperationLemmas.{operation_codec}

-- ---- what was registered

pub registered_codec : IsCodec IsRegistration registration_spelling registered_at
unfolding both_at registered_at registered_spelling
registered_codec =
    same_codec (AreBoth IsSpellableStatement FitsFourBytes) (both_spelling statement_spelling sized_bytes_spelling) (both_at statement_at (λ input. sized_bytes_at)) IsRegistration registration_spelling registered_at
    (both_codec IsSpellableStatement statement_spelling statement_at FitsFourBytes sized_bytes_spelling (λ input. sized_bytes_at) statement_codec sized_bytes_codec)
    (λ r h. record { said = h.0; signed = h.1 }) (λ r h. (h.said, h.signed)) (λ r. refl) (λ input bytes. refl)

-- ---- what was withdrawn

pub withdrawn_codec : IsCodec IsWithdrawal withdrawal_spelling (λ input. withdrawn_at)
unfolding both_at withdrawn_at withdrawn_spelling
withdrawn_codec =
    same_codec (AreBoth IsSpellableCited FitsFourBytes) (both_spelling cited_spelling sized_bytes_spelling) (both_at (λ input. u32_at) (λ input. sized_bytes_at)) IsWithdrawal withdrawal_spelling (λ input. withdrawn_at)
    (both_codec IsSpellableCited cited_spelling (λ input. u32_at) FitsFourBytes sized_bytes_spelling (λ input. sized_bytes_at) u32_codec sized_bytes_codec)
    (λ w h. record { numbered = h.0; signed = h.1 }) (λ w h. (h.numbered, h.signed)) (λ w. refl) (λ input bytes. refl)

-- ---- what was issued

abbrev IsProved : ProofView × GrantView → Type 0
IsProved = AreBoth IsSpellableProof IsSpellableGrant

abbrev proved_spelling : ProofView × GrantView → List ℕ
proved_spelling = both_spelling sized_proof_spelling grant_spelling

proved_codec : IsCodec IsProved proved_spelling proved_at
unfolding both_at proved_at
proved_codec = both_codec IsSpellableProof sized_proof_spelling sized_proof_at IsSpellableGrant grant_spelling grant_at sized_codec grant_codec

pub cited_codec : IsCodec (AreSpellable IsSpellableCited) (list_spelling cited_spelling) (λ input. list_at u32_at)
cited_codec = list_codec IsSpellableCited cited_spelling (λ input. u32_at) u32_codec

pub issued_codec : IsCodec IsIssuing issuing_spelling issued_at
unfolding both_at issued_at issued_spelling
issued_codec =
    same_codec (AreBoth (AreSpellable IsSpellableCited) IsProved) (both_spelling (list_spelling cited_spelling) proved_spelling) (both_at (λ input. list_at u32_at) proved_at) IsIssuing issuing_spelling issued_at
    (both_codec (AreSpellable IsSpellableCited) (list_spelling cited_spelling) (λ input. list_at u32_at) IsProved proved_spelling proved_at cited_codec proved_codec)
    (λ i h. record { numbers = h.0; proved = h.1.0; granted = h.1.1 }) (λ i h. (h.numbers, (h.proved, h.granted))) (λ i. refl) (λ input bytes. refl)

-- ---- what was done

abbrev IsName : List ℕ → Type 0
IsName name = IsTrue (is_principal_name name)

abbrev IsAdmission : List Procap × ℤ → Type 0
IsAdmission = AreBoth (AreSpellable IsSpellableProcap) IsMoment

abbrev admission_spelling : List Procap × ℤ → List ℕ
admission_spelling = both_spelling (list_spelling procap_spelling) moment_spelling

procaps_codec : IsCodec (AreSpellable IsSpellableProcap) (list_spelling procap_spelling) (λ input. list_at (procap_at input))
procaps_codec = list_codec IsSpellableProcap procap_spelling procap_at procap_codec

admitted_codec : IsCodec IsAdmission admission_spelling admitted_at
unfolding both_at admitted_at
admitted_codec = both_codec (AreSpellable IsSpellableProcap) (list_spelling procap_spelling) (λ input. list_at (procap_at input)) IsMoment moment_spelling moment_field_at procaps_codec moment_codec

done_codec : IsCodec (AreBoth IsSpellableOperation IsAdmission) (both_spelling operation_spelling admission_spelling) done_at
unfolding both_at done_at
done_codec = both_codec IsSpellableOperation operation_spelling operation_at IsAdmission admission_spelling admitted_at operation_codec admitted_codec

pub acted_codec : IsCodec IsAction action_spelling acted_at
unfolding both_at acted_at acted_spelling
acted_codec =
    same_codec (AreBoth IsName (AreBoth IsSpellableOperation IsAdmission)) (both_spelling with_length (both_spelling operation_spelling admission_spelling)) (both_at name_at done_at) IsAction action_spelling acted_at
    (both_codec IsName with_length name_at (AreBoth IsSpellableOperation IsAdmission) (both_spelling operation_spelling admission_spelling) done_at name_codec done_codec)
    (λ a h. record { named = h.0; words = h.1.0; sealed = h.1.1.0; timed = h.1.1.1 }) (λ a h. (h.named, (h.words, (h.sealed, h.timed)))) (λ a. refl) (λ input bytes. refl)
