-- The text of a report: a line with its numbers, and then a line for each row, all but the end of
-- the last line (this project's own).
use Rattle.std.specs.Prelude.{ℕ, List, ◌∷◌, ◌++◌, codes}
use Rattle.std.specs.Fmt.{decimal}
use Rattle.std.specs.List.{flat_map}
use Rattle.pcfs_audit.specs.declared.report.Finding.{Finding}
use Rattle.pcfs_audit.specs.declared.report.Finding.TheVariants.{Unsigned, Unproved, NotAdmitted, MomentFalls, Unissued}
use Rattle.pcfs_audit.specs.declared.report.Report.{Report}
use Rattle.pcfs_audit.specs.declared.report.ReportRow.{ReportRow}

-- the number of the last event, of statements, of issues, and of rows of grants that were not
-- issued before
abbrev pub summary_text : Report → List ℕ
summary_text report =
    codes "events " ++ (decimal report.events
    ++ (codes " statements "
    ++ (decimal report.statements
    ++ (codes " issues " ++ (decimal report.issues
    ++ (codes " unissued " ++ decimal report.unissued))))))

-- the word for a finding, and a space
abbrev pub finding_text : Finding → List ℕ
finding_text Unsigned = codes "unsigned "
finding_text Unproved = codes "unproved "
finding_text NotAdmitted = codes "notadmitted "
finding_text MomentFalls = codes "momentfalls "
finding_text Unissued = codes "unissued "

-- the end of the line before, then what was found, and the number of the event
abbrev pub row_text : ReportRow → List ℕ
row_text row = 10 ∷ (finding_text row.finding ++ decimal row.event)

abbrev pub rows_text : List ReportRow → List ℕ
rows_text rows = flat_map row_text rows

abbrev pub report_text : Report → List ℕ
report_text report = summary_text report ++ rows_text report.rows
