use Rattle.std.proofs.Common.{ℕ, List, get_or, ap, sym, subst, ◌∙◌}
use Rattle.journal_core.specs.ScanView.{all_bytes_at}
use Rattle.journal_core.specs.Reports.{BaseEndsAt, RecordsEndAt}
use Rattle.journal_core.specs.Faults.{BrokeAt}
use Rattle.journal_core.proofs.RecordLemmas.{area_found, area_long, reported}
use Rattle.journal_core.proofs.records.find_contents.Goals as goal

pub returns-in-Ok-clause-ok : goal.returns-in-Ok-clause-ok
returns-in-Ok-clause-ok c =
    let bytes = c.args.bytes in
    let same = c.as_slice-area.ensures in
    let from = c.in-Some.from in
    let end = c.in-Ok.end in
    let payloads = c.in-Ok.payloads in
    area_found bytes c.in-Some.generation from end
    (subst (λ (b : List ℕ). BaseEndsAt b c.in-Some.generation from) same c.in-Some.ensures)
    (all_bytes_at bytes payloads)
    (subst (λ (b : List ℕ). RecordsEndAt b from (all_bytes_at b payloads) end) same c.in-Ok.ensures.ok)
    (λ is_open. c.in-Ok.ensures.shut (ap (λ (b : List ℕ). get_or b end 0) same ∙ is_open))

pub returns-in-Ok-clause-end : goal.returns-in-Ok-clause-end
returns-in-Ok-clause-end c =
    let bytes = c.args.bytes in
    let same = c.as_slice-area.ensures in
    let from = c.in-Some.from in
    let end = c.in-Ok.end in
    let payloads = c.in-Ok.payloads in
    sym (area_long bytes c.in-Some.generation from end
    (subst (λ (b : List ℕ). BaseEndsAt b c.in-Some.generation from) same c.in-Some.ensures)
    (all_bytes_at bytes payloads)
    (subst (λ (b : List ℕ). RecordsEndAt b from (all_bytes_at b payloads) end) same c.in-Ok.ensures.ok))

pub returns-in-Err-clause-err : goal.returns-in-Err-clause-err
returns-in-Err-clause-err c =
    let bytes = c.args.bytes in
    let same = c.as_slice-area.ensures in
    reported bytes c.in-Some.generation c.in-Some.from
    (subst (λ (b : List ℕ). BaseEndsAt b c.in-Some.generation c.in-Some.from) same c.in-Some.ensures)
    c.in-Err.fault
    (subst (λ (b : List ℕ). BrokeAt c.in-Err.fault b c.in-Some.from) same c.in-Err.ensures.broken)
