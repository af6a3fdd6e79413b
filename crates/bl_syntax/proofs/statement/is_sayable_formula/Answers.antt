-- The check passes exactly the formulas, and the terms are looked at only after it.
use Rattle.std.proofs.Common.{[], sym, ◌∙◌}
use Rattle.std.proofs.lemmas.Bool.Decides.{not_from_Decides}
use Rattle.bl_syntax.specs.Formula.{formula_view}
use Rattle.bl_syntax.proofs.FirstFaultLemmas.{Decides-Finds}
use Rattle.bl_syntax.proofs.statement.is_sayable_formula.Goals as goal

pub returns-then-is_ok : goal.returns-then-is_ok
returns-then-is_ok c =
    let decides = Decides-Finds [] (formula_view c.args.body.now) c.check_formula.result c.check_formula.ensures in
    let passed = decides.0 (sym c.is_ok.ensures.value ∙ c.if-is_ok.true) in
    let terms = c.has_sayable_terms.ensures in
    (λ e. (passed, terms.0 e), λ h. terms.1 h.1)

pub returns-else-is_ok : goal.returns-else-is_ok
returns-else-is_ok c =
    let decides = Decides-Finds [] (formula_view c.args.body.now) c.check_formula.result c.check_formula.ensures in
    let refused = not_from_Decides _ decides (sym c.is_ok.ensures.value ∙ c.if-is_ok.false) in
    (λ e. cc, λ h. absurd (refused h.0))
