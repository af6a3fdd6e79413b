-- How long the payloads of events are.
use Rattle.std.proofs.Common.{ℕ, ◌+◌, ◌≤◌, ◌≡◌, List, [], ◌∷◌, ◌++◌, length, refl, ap, arith}
use Rattle.std.specs.Prelude.{ℤ}
use Rattle.std.proofs.lemmas.List.{length-append}
use Rattle.bl_syntax.specs.Spelling.{with_length}
use Rattle.bl_syntax.specs.Grant.{GrantView}
use Rattle.bl_syntax.specs.FormulaSpelling.{statement_spelling}
use Rattle.bl_syntax.proofs.WordLemmas.{short_name, short_text}
use Rattle.policy_statement.specs.Ring.{KeyView}
use Rattle.policy_statement.specs.Messages.{statement_message, withdraw_message}
use Rattle.policy_statement.proofs.RingLemmas.{accepted_length}
use Rattle.proof_term.specs.Proof.{ProofView}
use Rattle.proof_term.specs.ProofSpelling.{proof_spelling}
use Rattle.procap.specs.declared.procap.Procap.{Procap}
use Rattle.procap.specs.GrantSpelling.{list_spelling, grant_spelling}
use Rattle.procap.specs.Procap.{procap_spelling}
use Rattle.file_world.specs.declared.operation.Op.{Op}
use Rattle.file_world.specs.declared.operation.Op.TheVariants.{Read, Write, Truncate, List as ListOf, Lookup, Create, Mkdir, Unlink, Rename, Getattr, Setattr, Delattr, Chown}
use Rattle.file_world.specs.Needs.{slots, bytes_to_write}
use Rattle.journal_records.specs.declared.event.Event.{Event}
use Rattle.journal_records.specs.declared.event.Event.TheVariants.{Registered, Withdrawn, Issued, Acted}
use Rattle.access_history.specs.Base.{BaseView}
use Rattle.access_history.specs.History.{authority_with}
use Rattle.access_history.specs.Lawful.{MayFollow}
use Rattle.access_history.proofs.CitingLemmas.{numbers_length as cites_length}
use Rattle.record_parts.specs.Fields.{number_spelling, node_spelling, sized_bytes_spelling, moment_spelling}
use Rattle.record_parts.specs.Parts.{sized_proof_spelling}
use Rattle.record_parts.specs.OperationSpelling.{operation_spelling, IsSpellableOperation}
use Rattle.record_parts.specs.RecordSpelling.{registered_spelling, withdrawn_spelling, issued_spelling, acted_spelling, cited_spelling, IsSpellableIssued, IsSpellableActed}
use Rattle.journal_records.specs.EventSpelling.{event_spelling, IsSpellableEvent}
use Rattle.payload_limits.proofs.TermLengths.{statement_length, grant_length, procaps_length, numbers_length}
use Rattle.payload_limits.proofs.ProofLengths.{proof_length}

-- ---- operations

sized_length : (bytes : List ℕ) → length (sized_bytes_spelling bytes) ≡ 4 + length bytes
unfolding sized_bytes_spelling
sized_length bytes = omega arith

number_length : (n : ℕ) → length (number_spelling n) ≡ 8
unfolding number_spelling
number_length n = refl

-- a node and a name
named_length : (node : List ℕ) (name : List ℕ) → length node ≡ 8 → length name ≤ 255 → length (node ++ with_length name) ≤ 264
named_length node name eight few = omega (arith, eight, few, length-append node (with_length name))

operation_length : (op : Op) → IsSpellableOperation op → bytes_to_write op ≤ 65536 → length (operation_spelling op) ≤ 66000
unfolding operation_spelling
operation_length (Read file offset len) is few =
    omega (arith, number_length file.0, number_length offset, number_length len, length-append (node_spelling file) (number_spelling offset ++ number_spelling len), length-append (number_spelling offset) (number_spelling len))
operation_length (Write file offset bytes) is few =
    omega (
      arith,
      few,
      number_length file.0,
      number_length offset,
      sized_length bytes,
      length-append (node_spelling file) (number_spelling offset ++ sized_bytes_spelling bytes),
      length-append (number_spelling offset) (sized_bytes_spelling bytes),
    )
operation_length (Truncate file len) is few = omega (arith, number_length file.0, number_length len, length-append (node_spelling file) (number_spelling len))
operation_length (ListOf directory) is few = omega (arith, number_length directory.0)
operation_length (Lookup directory name) is few = omega (arith, named_length (node_spelling directory) name (number_length directory.0) is.1)
operation_length (Create directory name) is few = omega (arith, named_length (node_spelling directory) name (number_length directory.0) is.1)
operation_length (Mkdir directory name) is few = omega (arith, named_length (node_spelling directory) name (number_length directory.0) is.1)
operation_length (Unlink directory name) is few = omega (arith, named_length (node_spelling directory) name (number_length directory.0) is.1)
operation_length (Rename directory name target renamed) is few =
    omega (
      arith,
      number_length directory.0,
      is.1.0,
      named_length (node_spelling target) renamed (number_length target.0) is.1.1.1,
      length-append (node_spelling directory) (with_length name ++ (node_spelling target ++ with_length renamed)),
      length-append (with_length name) (node_spelling target ++ with_length renamed),
    )
operation_length (Getattr node name) is few = omega (arith, named_length (node_spelling node) name (number_length node.0) is.1)
operation_length (Setattr node name value) is few =
    omega (
      arith,
      number_length node.0,
      is.1.0,
      (short_text value is.1.1).not_above,
      length-append (node_spelling node) (with_length name ++ with_length value),
      length-append (with_length name) (with_length value),
    )
operation_length (Delattr node name) is few = omega (arith, named_length (node_spelling node) name (number_length node.0) is.1)
operation_length (Chown node owner) is few = omega (arith, number_length node.0, (short_name owner is.1).not_above, length-append (node_spelling node) (with_length owner))

few_slots : (op : Op) → slots op ≤ 3
few_slots (Read file offset len) = omega arith
few_slots (Write file offset bytes) = omega arith
few_slots (Truncate file len) = omega arith
few_slots (ListOf directory) = omega arith
few_slots (Lookup directory name) = omega arith
few_slots (Create directory name) = omega arith
few_slots (Mkdir directory name) = omega arith
few_slots (Unlink directory name) = omega arith
few_slots (Rename directory name target renamed) = omega arith
few_slots (Getattr node name) = omega arith
few_slots (Setattr node name value) = omega arith
few_slots (Delattr node name) = omega arith
few_slots (Chown node owner) = omega arith

-- ---- records

registered_length : (statement signature : List ℕ) → length statement ≤ 135000 → length signature ≤ 16644 → length (statement ++ sized_bytes_spelling signature) ≤ 1048575
registered_length statement signature short few = omega (arith, short, few, sized_length signature, length-append statement (sized_bytes_spelling signature))

withdrawn_length : (number : ℕ) (signature : List ℕ) → length signature ≤ 16644 → length (withdrawn_spelling number signature) ≤ 1048575
unfolding withdrawn_spelling
withdrawn_length number signature few = omega (arith, few, sized_length signature, length-append (cited_spelling number) (sized_bytes_spelling signature))

sized_proof_length : (proof : ProofView) → length (sized_proof_spelling proof) ≡ 4 + length (proof_spelling proof)
unfolding sized_proof_spelling
sized_proof_length proof = omega arith

issued_length : (cited : List ℕ) (proof : ProofView) (grant : GrantView) → length cited ≤ 64 → IsSpellableIssued cited proof grant → length (issued_spelling cited proof grant) ≤ 1048575
unfolding issued_spelling
issued_length cited proof grant few is =
    let numbers : List ℕ = list_spelling cited_spelling cited in
    omega (
      arith,
      few,
      numbers_length cited_spelling (λ n. omega arith) cited,
      sized_proof_length proof,
      proof_length proof is.proved,
      grant_length grant is.granted,
      length-append numbers (sized_proof_spelling proof ++ grant_spelling grant),
      length-append (sized_proof_spelling proof) (grant_spelling grant),
    )

moment_length : (moment : ℤ) → length (moment_spelling moment) ≡ 8
unfolding moment_spelling
moment_length moment = refl

acted_length : (caller : List ℕ) (op : Op) (procaps : List Procap) (moment : ℤ) → length procaps ≤ 3 → bytes_to_write op ≤ 65536 → IsSpellableActed caller op procaps moment → length (acted_spelling caller op procaps moment) ≤ 1048575
unfolding acted_spelling
acted_length caller op procaps moment few few_bytes is =
    let sealed : List ℕ = list_spelling procap_spelling procaps in
    omega (
      arith,
      few,
      (short_name caller is.named).not_above,
      operation_length op is.words few_bytes,
      procaps_length procaps is.sealed.each,
      moment_length moment,
      length-append (with_length caller) (operation_spelling op ++ (sealed ++ moment_spelling moment)),
      length-append (operation_spelling op) (sealed ++ moment_spelling moment),
      length-append sealed (moment_spelling moment),
    )

-- ---- events

one_more : (tag : ℕ) (bytes : List ℕ) → length bytes ≤ 1048575 → length (tag ∷ bytes) ≤ 1048576
one_more tag bytes short = omega (arith, short)

pub payload_length : (key : List ℕ) (ring : List KeyView) (state : BaseView) (event : Event) → MayFollow (authority_with key ring) state event → IsSpellableEvent event → length (event_spelling event) ≤ 1048576
unfolding event_spelling registered_spelling
payload_length key ring state (Registered pass statement signature) may is =
    one_more 1 (registered_spelling statement signature)
    (registered_length (statement_spelling statement) signature (statement_length statement is.said) (accepted_length ring statement.who (statement_message statement) signature may.signed))
payload_length key ring state (Issued pass cited proof grant) may is =
    one_more 2 (issued_spelling cited proof grant) (issued_length cited proof grant (omega (arith, ap length may.good.cited, cites_length may.good.cites, may.good.rising.few)) is)
payload_length key ring state (Acted pass caller op procaps moment) may is =
    one_more 3 (acted_spelling caller op procaps moment)
    (acted_length caller op procaps moment (omega (arith, may.formed.brought.slots, few_slots op)) may.formed.brought.few_bytes is)
payload_length key ring state (Withdrawn pass number signature) may is =
    one_more 4 (withdrawn_spelling number signature) (withdrawn_length number signature (accepted_length ring may.statement.who (withdraw_message may.statement) signature may.signed))
