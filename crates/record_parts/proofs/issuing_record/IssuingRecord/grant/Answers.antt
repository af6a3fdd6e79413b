-- What is read of the grant's bytes is the grant, and no fault but out of memory.
use Rattle.std.proofs.Common.{◌∙◌, ap, length, subst, sym}
use Rattle.record_parts.specs.RecordSpelling.{Issuing}
use Rattle.record_parts.specs.IssuingRecord.{issue_of, IsIssuingRecord}
use Rattle.record_parts.proofs.IssuingRecordLemmas.{grant_is_read, no_fault_of_grant}
use Rattle.record_parts.proofs.issuing_record.IssuingRecord.grant.Goals as goal

pub unreachable-requires : goal.unreachable-requires
unreachable-requires c =
    let part = c.grant_part-bytes.result.now in
    let issue = issue_of c.self.inside.bytes in
    c.in_default.not-NoMemory (no_fault_of_grant (length part) issue c.as_slice.result.now part c.in-Err.fault (subst (IsIssuingRecord issue) (sym c.as_slice.ensures) c.self.invariant) c.grant_part-bytes.ensures c.in-Err.ensures)

pub returns-in-Ok : goal.returns-in-Ok
returns-in-Ok c =
    let part = c.grant_part-bytes.result.now in
    let issue = issue_of c.self.inside.bytes in
    grant_is_read (length part) issue c.as_slice.result.now part c.in-Ok.field-0-1.now c.in-Ok.grant (subst (IsIssuingRecord issue) (sym c.as_slice.ensures) c.self.invariant) c.grant_part-bytes.ensures c.in-Ok.ensures ∙ ap (λ (i : Issuing). i.1.1) c.self.view_is
