-- The statements under their numbers, as citing and issuing look them up (this project's own).
use Rattle.std.specs.Prelude.{List, Option, Some, map, filter_map}
use Rattle.bl_syntax.specs.Statement.{StatementView}
use Rattle.policy_statement.specs.Registered.{RegisteredView}
use Rattle.policy_statement.specs.Withdrawal.{live_statement}
use Rattle.access_history.specs.Base.{BaseView}

-- the statement of each number from 1; none if the number holds none
abbrev pub Book : Type 0
Book = List (Option StatementView)

-- each of the statements is held by its number
abbrev pub whole_book : List StatementView → Book
whole_book statements = map (λ (s : StatementView). Some s) statements

-- the statements that are held, in order
abbrev pub statements_in : Book → List StatementView
statements_in book = filter_map (λ (o : Option StatementView). o) book

-- each of the statements that was not withdrawn is held by its number
abbrev pub live_book : List RegisteredView → Book
live_book entries = map live_statement entries

-- the statements that stand in a state: from these a proof may be issued
abbrev pub book_of : BaseView → Book
book_of state = live_book state.statements
