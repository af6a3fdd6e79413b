-- Lists of statements can be told apart.
use Rattle.std.specs.Prelude.{List}
use Rattle.std.specs.Coded.{Coded, coded_list}
use Rattle.bl_syntax.specs.Statement.{StatementView}
use Rattle.bl_syntax.specs.StatementCode.{statement_code}

abbrev pub statements_code : Coded (List StatementView)
statements_code = coded_list statement_code
