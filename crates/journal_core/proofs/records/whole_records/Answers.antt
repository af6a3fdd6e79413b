use Rattle.std.proofs.Common.{ℕ, List, ap, sym, subst, refl, ◌∙◌}
use Rattle.std.proofs.lemmas.List.{map_push}
use Rattle.journal_core.specs.ScanView.{bytes_at, all_bytes_at}
use Rattle.journal_core.specs.Reports.{RecordsEndAt}
use Rattle.journal_core.proofs.RecordLemmas.{one_more}
use Rattle.journal_core.proofs.records.whole_records.Goals as goal

pub loop-to-preserved : goal.loop-to-preserved
loop-to-preserved c =
    let bytes = c.args.bytes.now in
    subst (λ (payloads : List (List ℕ)). RecordsEndAt bytes c.args.from payloads c.in-Some.to)
    (sym (ap (all_bytes_at bytes) c.in_ok-push-in-Some.ensures.ok ∙ map_push (bytes_at bytes) c.loop-to.places _))
    (one_more bytes c.args.from c.loop-to.end c.in-Some.to (all_bytes_at bytes c.loop-to.places) _ c.loop-to.invariant c.in-Some.ensures refl)
