-- What is read of the bytes is their issue, and no fault but out of memory.
use Rattle.std.proofs.Common.{◌∙◌, ap, length, subst, sym}
use Rattle.record_parts.specs.IssuingRecord.{issue_of, IsIssuingRecord}
use Rattle.record_parts.proofs.IssuingRecordLemmas.{read_is, no_fault_of_issue}
use Rattle.record_parts.proofs.issuing_record.IssuingRecord.parts.Goals as goal

pub unreachable-requires : goal.unreachable-requires
unreachable-requires c =
    let bytes = c.as_slice-bytes.result.now in
    let issue = issue_of c.self.inside.bytes in
    c.in_default.not-NoMemory (no_fault_of_issue (length bytes) issue bytes c.in-Err.fault (subst (IsIssuingRecord issue) (sym c.as_slice-bytes.ensures) c.self.invariant) c.in-Err.ensures)

pub returns-in-Ok : goal.returns-in-Ok
returns-in-Ok c =
    sym (read_is c.as_slice-bytes.result.now c.in-Ok.field-0-3.now (c.in-Ok.cited, (c.in-Ok.proof, c.in-Ok.grant)) c.in-Ok.ensures) ∙ (ap issue_of c.as_slice-bytes.ensures ∙ c.self.view_is)
