-- The numbers of the bytes are those that it cites.
use Rattle.std.proofs.Common.{◌∙◌, ap, subst, sym}
use Rattle.record_parts.specs.RecordSpelling.{Issuing}
use Rattle.record_parts.specs.IssuingRecord.{issue_of, numbers_in, IsIssuingRecord}
use Rattle.record_parts.proofs.IssuingRecordLemmas.{cited_are}
use Rattle.record_parts.proofs.issuing_record.IssuingRecord.cited_bytes.Goals as goal

pub returns : goal.returns
returns c =
    let issue = issue_of c.self.inside.bytes in
    let kept = subst (IsIssuingRecord issue) (sym c.as_slice.ensures) c.self.invariant in
    ap numbers_in c.cited_part.ensures ∙ (cited_are issue c.as_slice.result.now kept ∙ ap (λ (i : Issuing). i.0) c.self.view_is)
