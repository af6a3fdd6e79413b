-- The bytes of the grant are those of the other exactly if it is the other.
use Rattle.std.proofs.Common.{◌∙◌, ap, subst, sym}
use Rattle.record_parts.specs.RecordSpelling.{Issuing}
use Rattle.record_parts.specs.IssuingRecord.{issue_of, IsIssuingRecord}
use Rattle.record_parts.proofs.IssuingRecordLemmas.{same_grant, grant_spelled}
use Rattle.record_parts.proofs.issuing_record.IssuingRecord.is_grant.Goals as goal

pub returns : goal.returns
returns c =
    let part = c.grant_part.result.now in
    let issue = issue_of c.self.inside.bytes in
    let kept = subst (IsIssuingRecord issue) (sym c.as_slice.ensures) c.self.invariant in
    let seen = ap (λ (i : Issuing). i.1.1) c.self.view_is in (
      λ is. sym seen ∙ same_grant issue c.as_slice.result.now part c.args.grant.now kept c.grant_part.ensures (c.is_grant_spelling.ensures.spelled is) (c.is_grant_spelling.ensures.same.0 is),
      λ same. c.is_grant_spelling.ensures.same.1 (grant_spelled issue c.as_slice.result.now part c.args.grant.now kept c.grant_part.ensures (seen ∙ same)),
    )
