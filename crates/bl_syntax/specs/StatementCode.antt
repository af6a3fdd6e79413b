-- Statements can be told apart.
use Rattle.std.specs.Prelude.{ℕ, List, refl}
use Rattle.std.specs.Coded.{Coded, code_by, coded×, coded_ℕ, coded_list}
use Rattle.bl_syntax.specs.declared.terms.TimePoint.{TimePoint}
use Rattle.bl_syntax.specs.contracts.terms.TimePoint as time_point
use Rattle.bl_syntax.specs.Formula.{FormulaView}
use Rattle.bl_syntax.specs.FormulaCode.{formula_code}
use Rattle.bl_syntax.specs.Statement.{StatementView}

-- a statement is told apart by its parts
abbrev pub statement_code : Coded StatementView
statement_code =
    code_by (List ℕ × (FormulaView × (TimePoint × TimePoint)))
    (coded× (coded_list coded_ℕ) (coded× formula_code (coded× time_point.the_row.coded time_point.the_row.coded)))
    (λ s. (s.who, (s.body, (s.from, s.to))))
    (λ p. record { who = p.0; body = p.1.0; from = p.1.1.0; to = p.1.1.1 })
    (λ _. refl)
