-- What an audit of a history writes, and its status (this project's own).
use Rattle.std.specs.Prelude.{ℕ, List, [], ◌∷◌, Bool, Option}
use Rattle.access_history.specs.Authority.{Authority}
use Rattle.access_history.specs.Base.{BaseView}
use Rattle.journal_records.specs.declared.event.Event.{Event}
use Rattle.pcfs_audit.specs.declared.report.Report.{Report}
use Rattle.pcfs_audit.specs.declared.report.ReportRow.{ReportRow}
use Rattle.pcfs_audit.specs.Report.{IsReport}
use Rattle.pcfs_audit.specs.ReportText.{report_text}
use Rattle.pcfs_tools.specs.LastLine.{Wrote, WroteNothing}

-- the status of an audit whose report has these rows
abbrev pub audit_status : List ReportRow → ℕ
audit_status [] = 0
audit_status (row ∷ rows) = 11

-- The report on the history was written, and the status is by its rows; or the output failed; or
-- memory ran out, and nothing was written. `held` and `faults` are what the output held and the
-- count of its faults, and `broken` says whether its last call failed.
pub data TellsAudit (authority : Authority) (base : BaseView) (events : List Event)
    (held : Option (List ℕ)) (faults result : ℕ) (held_after : Option (List ℕ)) (faults_after : ℕ)
    (broken : Bool) : Type 0 where
  reported : (report : Report) → IsReport authority base events report →
      Wrote (audit_status report.rows) (report_text report) held faults result held_after faults_after broken →
      TellsAudit authority base events held faults result held_after faults_after broken
  unreported : WroteNothing held faults result held_after faults_after →
      TellsAudit authority base events held faults result held_after faults_after broken
