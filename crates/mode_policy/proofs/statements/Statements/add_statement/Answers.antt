-- A formula that may be said, on an interval within the range of moments, makes a statement.
use Rattle.bl_syntax.proofs.StatementLemmas.{IsStatement-from_parts}
use Rattle.bl_syntax.specs.Formula.{formula_view}
use Rattle.mode_policy.proofs.statements.Statements.add_statement.Goals as goal

pub unwrap-statement-requires : goal.unwrap-statement-requires
unwrap-statement-requires c =
    c.new-2.ensures.some.1 (IsStatement-from_parts c.unwrap-admin.result (formula_view c.args.body) c.args.from c.args.to c.requires.sayable c.requires.from c.requires.to)
