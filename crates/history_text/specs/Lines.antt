-- The table for people (this project's own).
use Rattle.std.specs.Prelude.{ℕ, List, [], ◌++◌, codes, Option, Some, None}
use Rattle.std.specs.Fmt.{decimal}
use Rattle.std.specs.List.{flat_map}
use Rattle.bl_syntax.specs.Grant.{GrantView}
use Rattle.bl_text.specs.Printed.{permission_text}
use Rattle.policy_statement.specs.Registered.{RegisteredView}
use Rattle.policy_statement.specs.Registry.{statement_of_number}
use Rattle.proof_text.specs.Printed.{proof_text}
use Rattle.journal_records.specs.declared.event.Event.{Event}
use Rattle.journal_records.specs.declared.event.Event.TheVariants.{Acted}
use Rattle.access_history.specs.declared.event.Issue.{Issue}
use Rattle.access_history.specs.Base.{BaseView}
use Rattle.history_table.specs.declared.rows.Row.{Row}
use Rattle.history_table.specs.declared.rows.Use.{Use}
use Rattle.history_text.specs.Dates.{date_text}
use Rattle.history_text.specs.IssueBasis.{BasisView, issue_made, issue_numbered}
use Rattle.history_text.specs.Words.{spaced_statement, words_text}

-- a statement that is cited, on a line of its own
abbrev pub cited_line : List RegisteredView → ℕ → List ℕ
cited_line entries number = codes "    " ++ (decimal number ++ (spaced_statement (statement_of_number entries number) ++ codes "\n"))

abbrev pub cited_lines : List RegisteredView → List ℕ → List ℕ
cited_lines entries numbers = flat_map (cited_line entries) numbers

-- an issue with its proof, to the end of a line
abbrev pub proof_line : BasisView → List ℕ
proof_line basis = codes "issue " ++ (decimal basis.number ++ (codes " " ++ (proof_text basis.proof ++ codes "\n")))

-- and each statement that it cites on a line of its own
abbrev pub basis_text : List RegisteredView → BasisView → List ℕ
basis_text entries basis = proof_line basis ++ cited_lines entries basis.cited

-- the issue, or that there is none
abbrev pub found_line : Option BasisView → List ℕ
found_line None = codes "unissued\n"
found_line (Some basis) = proof_line basis

abbrev pub issue_line : List Issue → Option ℕ → List ℕ
issue_line issues None = codes "unissued\n"
issue_line issues (Some number) = found_line (issue_numbered issues number)

-- what is known, or that it is not
abbrev pub known_text : Option (List ℕ) → List ℕ
known_text None = codes "-"
known_text (Some text) = text

-- what a procap was brought for
abbrev pub need_text : Use → List ℕ
need_text one = codes "  " ++ (permission_text one.permission ++ (codes " #" ++ (decimal one.file.0 ++ (codes " " ++ known_text one.path))))

-- and what it rests on: the issue, and each statement on a line of its own
abbrev pub use_text : BaseView → Use → List ℕ
use_text state one = need_text one ++ (codes " " ++ (issue_line state.issues one.issue ++ cited_lines state.statements one.cited))

-- before the second of an operation, and before that of the last one
abbrev pub moment_word : Event → List ℕ
moment_word (Acted pass caller op procaps moment) = codes " at "
moment_word _ = codes " since "

-- the number of an event, its second, and whose it is
abbrev pub front_text : Event → Row → List ℕ
front_text event row = decimal row.number ++ (moment_word event ++ (date_text row.second ++ (codes " " ++ known_text row.who)))

-- the issue that an event makes
abbrev pub made_text : List RegisteredView → Option BasisView → List ℕ
made_text entries None = []
made_text entries (Some basis) = codes "  " ++ basis_text entries basis

-- the lines of an event with its row, over the state before it
abbrev pub event_lines : BaseView → Event → Row → List ℕ
event_lines state event row =
    front_text event row ++ (codes " " ++ (words_text state event row.about
    ++ (codes "\n" ++ (made_text state.statements (issue_made state event)
    ++ flat_map (use_text state) row.uses))))

-- the lines of an issue that would admit its principal
abbrev pub admitting_lines : BaseView → BasisView → List ℕ
admitting_lines state basis = basis.grant.goal.who ++ (codes " " ++ basis_text state.statements basis)

-- how a procap stands: the withdrawn statement by which it is denied, if it is
abbrev pub standing_text : Option ℕ → List ℕ
standing_text None = codes "stands"
standing_text (Some number) = codes "withdrawn " ++ decimal number

-- what a procap allows to whom
abbrev pub goal_text : GrantView → List ℕ
goal_text g = g.goal.who ++ (codes " " ++ (permission_text g.goal.perm ++ (codes " #" ++ decimal g.goal.file.0)))

-- the lines of an issue that rests on a statement: whose procap it is, and how it stands
abbrev pub resting_lines : BaseView → Option ℕ → BasisView → List ℕ
resting_lines state gone basis = goal_text basis.grant ++ (codes " " ++ (standing_text gone ++ (codes " " ++ basis_text state.statements basis)))
