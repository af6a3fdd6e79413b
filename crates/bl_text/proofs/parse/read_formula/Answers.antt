-- The descent reads the formula, and nothing may stand after it.
use Rattle.std.proofs.Common.{◌≡◌, true, false, sym, subst, rules}
use Rattle.bl_syntax.specs.declared.formula.Formula.{Formula}
use Rattle.bl_syntax.specs.Formula.{formula_view}
use Rattle.bl_text.specs.Texts.{IsFormulaText, whole, in_formula, behind_formula, is_end}
use Rattle.bl_text.proofs.ReadLemmas.{passed, stops_at, is_at}
use Rattle.bl_text.proofs.parse.read_formula.Goals as goal

pub returns-in_err-f-clause-fault : goal.returns-in_err-f-clause-fault
returns-in_err-f-clause-fault c = passed c.from_residual.result c.in_err-f.field-0.0 _ (search rules) (in_formula _ (stops_at c.beginning-here.ensures.same c.in_err-f.ensures.fault))

pub returns-then-is_end-clause-read : goal.returns-then-is_end-clause-read
returns-then-is_end-clause-read c =
    let end : is_end c.formula_at.new.here.token ≡ true = search rules in
    let unboxed : c.into_inner.result ≡ c.in_ok-f.f.value = search rules in
    subst (λ (f : Formula). IsFormulaText c.args.text.now (formula_view f)) (sym unboxed) (whole _ (is_at c.beginning-here.ensures.same c.in_ok-f.ensures.read.is_text) end)

pub returns-else-is_end-clause-fault : goal.returns-else-is_end-clause-fault
returns-else-is_end-clause-fault c =
    let more : is_end c.formula_at.new.here.token ≡ false = search rules in
    let read = c.in_ok-f.ensures.read in
    behind_formula _ _ (is_at c.beginning-here.ensures.same read.is_text) read.ended more
