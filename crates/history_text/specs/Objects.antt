-- The table for programs: objects of JSON (RFC 8259).
use Rattle.std.specs.Prelude.{ℕ, ◌+◌, List, [], ◌∷◌, ◌++◌, length, codes, Option, Some, None}
use Rattle.std.specs.Fmt.{decimal, signed_decimal}
use Rattle.bl_syntax.specs.declared.terms.NodeId.{NodeId}
use Rattle.bl_syntax.specs.Grant.{GrantView}
use Rattle.bl_syntax.specs.Statement.{StatementView}
use Rattle.bl_text.specs.Printed.{permission_text, statement_text}
use Rattle.policy_statement.specs.Registered.{RegisteredView}
use Rattle.policy_statement.specs.Registry.{statement_of_number}
use Rattle.proof_text.specs.Printed.{proof_text}
use Rattle.journal_records.specs.declared.event.Event.{Event}
use Rattle.journal_records.specs.declared.event.Event.TheVariants.{Registered, Withdrawn, Issued, Acted}
use Rattle.access_history.specs.declared.event.Issue.{Issue}
use Rattle.access_history.specs.Base.{BaseView}
use Rattle.history_table.specs.declared.rows.Row.{Row}
use Rattle.history_table.specs.declared.rows.Use.{Use}
use Rattle.history_text.specs.Dates.{date_text}
use Rattle.history_text.specs.IssueBasis.{BasisView, issue_made, issue_numbered}
use Rattle.history_text.specs.Strings.{string_text}
use Rattle.history_text.specs.Words.{words_text}

-- a statement with its number and who says it
abbrev pub statement_object : ℕ → StatementView → List ℕ
statement_object number s =
    codes "{\"number\":" ++ (decimal number
    ++ (codes ",\"signer\":"
    ++ (string_text s.who ++ (codes ",\"statement\":" ++ (string_text (statement_text s)
    ++ codes "}")))))

-- the statement of a number; the number alone if there is none
abbrev pub statement_or_number : ℕ → Option StatementView → List ℕ
statement_or_number number None = codes "{\"number\":" ++ (decimal number ++ codes "}")
statement_or_number number (Some s) = statement_object number s

abbrev pub numbered_object : List RegisteredView → ℕ → List ℕ
numbered_object entries number = statement_or_number number (statement_of_number entries number)

-- objects after a first one, each after a comma
abbrev pub more_objects : List RegisteredView → List ℕ → List ℕ
more_objects entries [] = []
more_objects entries (number ∷ numbers) = codes "," ++ (numbered_object entries number ++ more_objects entries numbers)

abbrev pub objects_of : List RegisteredView → List ℕ → List ℕ
objects_of entries [] = []
objects_of entries (number ∷ numbers) = numbered_object entries number ++ more_objects entries numbers

-- the statements of these numbers
abbrev pub statements_text : List RegisteredView → List ℕ → List ℕ
statements_text entries numbers = codes ",\"statements\":[" ++ (objects_of entries numbers ++ codes "]")

-- the number of an issue, and its proof
abbrev pub proof_members : BasisView → List ℕ
proof_members basis = codes ",\"issue\":" ++ (decimal basis.number ++ (codes ",\"proof\":" ++ string_text (proof_text basis.proof)))

-- and the statements that it cites
abbrev pub basis_members : List RegisteredView → BasisView → List ℕ
basis_members entries basis = proof_members basis ++ statements_text entries basis.cited

abbrev pub made_members : List RegisteredView → Option BasisView → List ℕ
made_members entries None = []
made_members entries (Some basis) = basis_members entries basis

abbrev pub found_members : Option BasisView → List ℕ
found_members None = []
found_members (Some basis) = proof_members basis

abbrev pub issue_members : List Issue → Option ℕ → List ℕ
issue_members issues None = []
issue_members issues (Some number) = found_members (issue_numbered issues number)

-- a member with a text, if there is one
abbrev pub text_member : List ℕ → Option (List ℕ) → List ℕ
text_member name None = []
text_member name (Some text) = name ++ string_text text

-- what a procap was brought for
abbrev pub need_members : Use → List ℕ
need_members one = codes "{\"permission\":" ++ (string_text (permission_text one.permission)
    ++ (codes ",\"file\":" ++ (decimal one.file.0 ++ text_member (codes ",\"path\":") one.path)))

-- and what it rests on: the issue if there is one, and the statements
abbrev pub use_object : BaseView → Use → List ℕ
use_object state one = need_members one ++ (issue_members state.issues one.issue ++ (statements_text state.statements one.cited ++ codes "}"))

abbrev pub more_uses : BaseView → List Use → List ℕ
more_uses state [] = []
more_uses state (one ∷ others) = codes "," ++ (use_object state one ++ more_uses state others)

abbrev pub use_objects : BaseView → List Use → List ℕ
use_objects state [] = []
use_objects state (one ∷ others) = use_object state one ++ more_uses state others

abbrev pub kind_text : Event → List ℕ
kind_text (Registered pass s signature) = codes "registered"
kind_text (Withdrawn pass number signature) = codes "withdrawn"
kind_text (Issued pass cited proof g) = codes "issued"
kind_text (Acted pass caller op procaps moment) = codes "acted"

-- the number of an event, its kind, its second, and whose it is
abbrev pub front_members : Event → Row → List ℕ
front_members event row =
    codes "{\"event\":" ++ (decimal row.number ++ (codes ",\"kind\":" ++ (string_text (kind_text event) ++ (codes ",\"second\":" ++ (signed_decimal row.second
    ++ (codes ",\"date\":" ++ (string_text (date_text row.second) ++ text_member (codes ",\"who\":") row.who)))))))

abbrev pub node_member : Option NodeId → List ℕ
node_member None = []
node_member (Some node) = codes ",\"node\":" ++ decimal node.0

-- what an event is, in words
abbrev pub what_members : BaseView → Event → Row → List ℕ
what_members state event row = codes ",\"what\":" ++ (string_text (words_text state event row.about) ++ node_member row.about)

-- on which statements an event is
abbrev pub about_members : BaseView → Event → Row → List ℕ
about_members state (Registered pass s signature) row = codes ",\"statements\":[" ++ (statement_object (length state.statements + 1) s ++ codes "]")
about_members state (Withdrawn pass number signature) row = statements_text state.statements (number ∷ [])
about_members state (Issued pass cited proof g) row = made_members state.statements (issue_made state (Issued pass cited proof g))
about_members state (Acted pass caller op procaps moment) row = codes ",\"uses\":[" ++ (use_objects state row.uses ++ codes "]")

-- the object of an event with its row, over the state before it, on a line
abbrev pub event_object : BaseView → Event → Row → List ℕ
event_object state event row = front_members event row ++ (what_members state event row ++ (about_members state event row ++ codes "}\n"))

-- the object of an issue that would admit its principal, on a line
abbrev pub admitting_object : BaseView → BasisView → List ℕ
admitting_object state basis = codes "{\"who\":" ++ (string_text basis.grant.goal.who ++ (basis_members state.statements basis ++ codes "}\n"))

-- how a procap stands: the withdrawn statement by which it is denied, if it is
abbrev pub standing_members : Option ℕ → List ℕ
standing_members None = codes ",\"stands\":true"
standing_members (Some number) = codes ",\"stands\":false,\"withdrawn\":" ++ decimal number

-- what a procap allows to whom
abbrev pub goal_members : GrantView → List ℕ
goal_members g =
    codes "{\"who\":" ++ (string_text g.goal.who
    ++ (codes ",\"permission\":" ++ (string_text (permission_text g.goal.perm)
    ++ (codes ",\"file\":" ++ decimal g.goal.file.0))))

-- the object of an issue that rests on a statement, on a line: whose procap it is, and how it
-- stands
abbrev pub resting_object : BaseView → Option ℕ → BasisView → List ℕ
resting_object state gone basis = goal_members basis.grant ++ (standing_members gone ++ (basis_members state.statements basis ++ codes "}\n"))
