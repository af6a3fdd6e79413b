-- Statements that are added to others, as long as there are not too many (this project's own).
use Rattle.std.specs.Prelude.{◌≡◌, ◌<◌, ◌+◌, ◌++◌, List, map, length, Result, Ok, Err}
use Rattle.bl_syntax.specs.declared.limits.TheConstants.{MOST_STATEMENTS}
use Rattle.bl_syntax.specs.declared.terms.TimePoint.{TimePoint}
use Rattle.bl_syntax.specs.Formula.{FormulaView}
use Rattle.bl_syntax.specs.Statement.{StatementView}
use Rattle.mode_policy.specs.declared.fault.ModeFault.{ModeFault}
use Rattle.mode_policy.specs.declared.fault.ModeFault.TheVariants.{BadLine, Twice, TooMany, NoMemory}
use Rattle.mode_policy.specs.Statements.{stated, statements_of}
use Rattle.mode_policy.specs.Table.{TableView}

-- these formulas are stated after the others; together they would be more than 4,096; or there was
-- no memory
abbrev pub Appends : TimePoint → TimePoint → List FormulaView → List StatementView →
    Result (Unit {0}) ModeFault → List StatementView → Type 0
Appends from to said old (Ok u) new = new ≡ old ++ map (stated from to) said
Appends from to said old (Err TooMany) new = MOST_STATEMENTS < length old + length said
Appends from to said old (Err NoMemory) new = Unit {0}
Appends from to said old (Err (BadLine number)) new = ⊥
Appends from to said old (Err (Twice number)) new = ⊥

-- the statements of the table are given; they would be more than 4,096; or there was no memory
abbrev pub GivesStatements : TableView → TimePoint → TimePoint →
    Result (List StatementView) ModeFault → Type 0
GivesStatements t from to (Ok statements) = statements ≡ statements_of t from to
GivesStatements t from to (Err TooMany) = MOST_STATEMENTS < length (statements_of t from to)
GivesStatements t from to (Err NoMemory) = Unit {0}
GivesStatements t from to (Err (BadLine number)) = ⊥
GivesStatements t from to (Err (Twice number)) = ⊥
