-- A statement is what the three tests ask.
use Rattle.std.proofs.Common.{sym, ◌∙◌}
use Rattle.bl_syntax.proofs.StatementLemmas.{IsStatement-from_parts, IsSayableFormula-from_statement}
use Rattle.bl_syntax.proofs.statement.may_be_said.Goals as goal
use Rattle.bl_syntax.proofs.statement.may_be_said.Goals.{then-is_sayable_formula, else-is_sayable_formula}

pub returns-then-is_in_range : goal.returns-then-is_in_range
returns-then-is_in_range c = λ who.
    let last = c.is_in_range-then-is_in_range.ensures in
    elim c.if-is_sayable_formula.branch [
      | then-is_sayable_formula w ↦ (
        λ e. IsStatement-from_parts who _ _ _ (c.is_sayable_formula.ensures.0 w.if-is_sayable_formula.true) (w.is_in_range.ensures.0 (sym w.value-is ∙ c.if-is_in_range.true)) (last.0 e),
        λ h. last.1 h.to_in_range,
      )
      | else-is_sayable_formula w ↦ cc
    ]

pub returns-else-is_in_range : goal.returns-else-is_in_range
returns-else-is_in_range c = λ who.
    elim c.if-is_sayable_formula.branch [
      | then-is_sayable_formula w ↦ (λ e. cc, λ h. w.value-is ∙ w.is_in_range.ensures.1 h.from_in_range)
      | else-is_sayable_formula w ↦ (λ e. cc, λ h. let passed = c.is_sayable_formula.ensures.1 (IsSayableFormula-from_statement who _ _ _ h) in cc)
    ]
