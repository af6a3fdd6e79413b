use Rattle.std.proofs.Common.{◌≡◌, ℕ, List, get_or, subst}
use Rattle.journal_core.specs.ScanView.{all_bytes_at}
use Rattle.journal_core.specs.Reports.{BaseEndsAt, RecordsEndAt, NoRecordAt}
use Rattle.journal_core.proofs.RecordLemmas.{front_found}
use Rattle.journal_core.proofs.records.find_front.Goals as goal

pub returns-in-Ok-clause-ok : goal.returns-in-Ok-clause-ok
returns-in-Ok-clause-ok c =
    let bytes = c.args.bytes in
    let same = c.as_slice-area.ensures in
    let from = c.in-Some.from in
    let end = c.in-Ok.field-0-1 in
    let payloads = c.in-Ok.payloads in
    front_found bytes c.in-Some.generation from end
    (subst (λ (b : List ℕ). BaseEndsAt b c.in-Some.generation from) same c.in-Some.ensures)
    (all_bytes_at bytes payloads)
    (subst (λ (b : List ℕ). RecordsEndAt b from (all_bytes_at b payloads) end) same c.in-Ok.ensures.ok)
    (subst (λ (b : List ℕ). get_or b end 0 ≡ 1 → NoRecordAt b end) same c.in-Ok.ensures.last)
