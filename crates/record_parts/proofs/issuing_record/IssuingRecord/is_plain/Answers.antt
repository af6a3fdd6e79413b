-- The second byte of a grant is its version.
use Rattle.std.proofs.Common.{◌∙◌, ◌==◌, ℕ, ap, arith, subst, sym}
use Rattle.record_parts.specs.IssuingRecord.{is_plain, issue_of, IsIssuingRecord}
use Rattle.record_parts.proofs.IssuingRecordLemmas.{has_version, plain_version, version_read}
use Rattle.record_parts.proofs.issuing_record.IssuingRecord.is_plain.Goals as goal

pub returns-in_default : goal.returns-in_default
returns-in_default c =
    let issue = issue_of c.self.inside.bytes in
    absurd (omega (arith, c.in_default.len_below, has_version issue c.as_slice.result.now c.grant_part.result.now (subst (IsIssuingRecord issue) (sym c.as_slice.ensures) c.self.invariant) c.grant_part.ensures))

pub returns-in-len2-up : goal.returns-in-len2-up
returns-in-len2-up c =
    let issue = issue_of c.self.inside.bytes in
    let kept = subst (IsIssuingRecord issue) (sym c.as_slice.ensures) c.self.invariant in
    ap (λ (v : ℕ). v == 1) (version_read issue c.as_slice.result.now c.grant_part.result.now 0 kept c.grant_part.ensures) ∙ (plain_version issue.1.1.cited ∙ ap is_plain c.self.view_is)
