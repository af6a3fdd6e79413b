-- The numbers are those of the papers.
use Rattle.std.proofs.Common.{List, ap, length, sym, ◌+◌, ◌∙◌, ℕ}
use Rattle.std.specs.Prelude.{count_by}
use Rattle.access_history.proofs.ReplayLemmas.{count-replay}
use Rattle.pcfs_audit.specs.declared.papers.Before.{Before}
use Rattle.pcfs_audit.specs.declared.report.ReportRow.{ReportRow}
use Rattle.pcfs_audit.specs.Finding.{is_unissued}
use Rattle.pcfs_audit.proofs.PapersLemmas.{counts_are}
use Rattle.pcfs_audit.proofs.auditing.report_on.Goals as goal

pub returns : goal.returns
returns c accepts all =
    let base = c.args.dossier.now.base.now in
    let events = c.args.dossier.now.events.now in
    let counts = counts_are base events c.args.dossier.now.papers c.requires.dossier.papers_are in
    record {
      events_are = ap (λ (n : ℕ). n + length events) c.count.ensures ∙ sym (count-replay base events);
      statements_are = ap length c.as_slice.ensures.value ∙ ap (λ (b : Before). b.statements) counts;
      issues_are = ap length c.as_slice-2.ensures.value ∙ ap (λ (b : Before). b.issues) counts;
      unissued_are = c.unissued_among.ensures ∙ ap (λ (rs : List ReportRow). count_by (λ (row : ReportRow). is_unissued row.finding) rs) c.as_slice-3.ensures;
      rows_are = c.in_ok-rows.ensures accepts all;
    }
