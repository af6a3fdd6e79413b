-- Laws of reports: a history has at most one; on a lawful history it has no wrong row; and a
-- history whose report has none is lawful.
use Rattle.std.specs.Prelude.{◌≡◌, ◌↔◌, ◌≤◌, ◌+◌, List, length, Contains, Ok}
use Rattle.std.specs.List.{AllByRecursion}
use Rattle.bl_syntax.specs.declared.limits.TheConstants.{MOST_EVENTS}
use Rattle.bl_syntax.specs.Grant.{GrantView}
use Rattle.bl_syntax.specs.Statement.{StatementView, IsStatement}
use Rattle.proof_term.specs.Limits.{IsKeptProof}
use Rattle.proof_verifier.specs.declared.cites.Cite.{Cite}
use Rattle.proof_verifier.specs.Cited.{AreCited, statements_of}
use Rattle.proof_verifier.specs.Verdict.{verdict}
use Rattle.journal_records.specs.declared.event.Event.{Event}
use Rattle.access_history.specs.declared.event.Issue.{Issue}
use Rattle.access_history.specs.Authority.{Authority}
use Rattle.access_history.specs.Base.{BaseView}
use Rattle.access_history.specs.Books.{whole_book}
use Rattle.access_history.specs.Citing.{IsGoodIssue, IsGrantOf, StandsUnderNumber, numbers_of}
use Rattle.access_history.specs.Lawful.{IsLawful, IsLawfulBase}
use Rattle.op_gate.specs.DamageLaws.{IsTypedEvent}
use Rattle.pcfs_audit.specs.declared.report.Finding.TheVariants.{Unissued}
use Rattle.pcfs_audit.specs.declared.report.Report.{Report}
use Rattle.pcfs_audit.specs.declared.report.ReportRow.{ReportRow}
use Rattle.pcfs_audit.specs.Report.{IsReport}

-- a history has at most one report
abbrev pub ReportsAreDetermined : Type 0
ReportsAreDetermined = (authority : Authority) (base : BaseView) (events : List Event) (first second : Report)
    → IsReport authority base events first → IsReport authority base events second → first ≡ second

-- no row is of a wrong event
abbrev pub HasUnissuedRowsOnly : Report → Type 0
HasUnissuedRowsOnly report = (row : ReportRow) → Contains report.rows row → row.finding ≡ Unissued

-- the report on a lawful history has no wrong row
abbrev pub LawfulHaveUnissuedRowsOnly : Type 0
LawfulHaveUnissuedRowsOnly = (authority : Authority) (base : BaseView) (events : List Event) (report : Report)
    → IsLawful authority base events → IsReport authority base events report
    → HasUnissuedRowsOnly report

-- over a lawful base, a history whose report has no wrong row is lawful
abbrev pub RightHistoriesAreLawful : Type 0
RightHistoriesAreLawful = (authority : Authority) (base : BaseView) (events : List Event) (report : Report)
    → IsLawfulBase authority base → base.count + length events ≤ MOST_EVENTS
    → AllByRecursion IsTypedEvent events
    → IsReport authority base events report → HasUnissuedRowsOnly report
    → IsLawful authority base events

-- its numbers may be cited and have statements, and its grant is the verdict on its proof from
-- these, in a form in which it is issued
pub record HasVerdict (statements : List StatementView) (issue : Issue) : Type 0 where
  pub cites : List Cite
  pub cited : issue.cited ≡ numbers_of cites
  pub rising : AreCited cites
  pub stand : AllByRecursion (StandsUnderNumber (whole_book statements)) cites
  pub proved : GrantView
  pub verdict_is : verdict (statements_of cites) issue.grant.goal issue.proof ≡ Ok proved
  pub form : IsGrantOf proved (numbers_of cites) issue.grant

-- an issue by a proof that is kept, from statements that may be said, is good exactly if its
-- numbers and its verdict are right
abbrev pub IssuesAreGoodByVerdict : Type 0
IssuesAreGoodByVerdict = (statements : List StatementView) (issue : Issue)
    → AllByRecursion IsStatement statements → IsKeptProof issue.proof → IsGoodIssue statements issue
    ↔ HasVerdict statements issue
