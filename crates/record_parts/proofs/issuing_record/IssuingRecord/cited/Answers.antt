-- What is read of the bytes are their numbers, and no fault but out of memory.
use Rattle.std.proofs.Common.{◌∙◌, ap, subst, sym}
use Rattle.record_parts.specs.RecordSpelling.{Issuing}
use Rattle.record_parts.specs.IssuingRecord.{issue_of, IsIssuingRecord}
use Rattle.record_parts.proofs.IssuingRecordLemmas.{cited_are_read, no_fault_of_cited}
use Rattle.record_parts.proofs.issuing_record.IssuingRecord.cited.Goals as goal

pub unreachable-requires : goal.unreachable-requires
unreachable-requires c =
    let bytes = c.as_slice.result.now in
    let issue = issue_of c.self.inside.bytes in
    c.in_default.not-NoMemory (no_fault_of_cited issue bytes c.in-Err.fault (subst (IsIssuingRecord issue) (sym c.as_slice.ensures) c.self.invariant) c.in-Err.ensures)

pub returns-in-Ok : goal.returns-in-Ok
returns-in-Ok c =
    let issue = issue_of c.self.inside.bytes in
    cited_are_read issue c.as_slice.result.now c.in-Ok.field-0-1.now c.in-Ok.numbers (subst (IsIssuingRecord issue) (sym c.as_slice.ensures) c.self.invariant) c.in-Ok.ensures ∙ ap (λ (i : Issuing). i.0) c.self.view_is
