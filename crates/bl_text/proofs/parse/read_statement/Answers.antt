-- The parts of a statement are read one after the other.
use Rattle.std.proofs.Common.{sym, ap, ◌∙◌, subst, refl, rules}
use Rattle.bl_syntax.specs.Formula.{formula_view}
use Rattle.bl_syntax.specs.Statement.{StatementView}
use Rattle.bl_text.specs.Texts.{opening, whole_saying, IsStatementText, in_opening, in_body, in_span}
use Rattle.std.proofs.lemmas.Bool.{false≢true}
use Rattle.bl_text.proofs.ReadLemmas.{passed, is_form}
use Rattle.bl_text.proofs.IsStatementLemmas.{statement_said}
use Rattle.bl_text.proofs.parse.read_statement.Goals as goal

pub returns-in_err-who-clause-fault : goal.returns-in_err-who-clause-fault
returns-in_err-who-clause-fault c =
    passed c.from_residual.result c.in_err-who.field-0.0 _ (search rules) (in_opening _ (sym (ap (opening c.args.text.now) c.beginning-here.ensures.same) ∙ c.in_err-who.ensures.value))

pub returns-in_err-body-clause-fault : goal.returns-in_err-body-clause-fault
returns-in_err-body-clause-fault c =
    passed c.from_residual-in_err-body.result c.in_err-body.field-0.0 _ (search rules)
    (in_body c.in_ok-who.who _ _ (sym (ap (opening c.args.text.now) c.beginning-here.ensures.same) ∙ c.in_ok-who.ensures.value) c.in_err-body.ensures.fault)

pub returns-in_err-from-clause-fault : goal.returns-in_err-from-clause-fault
returns-in_err-from-clause-fault c =
    let read = c.in_ok-body.ensures.read in
    passed c.from_residual-in_err-from.result c.in_err-from.field-0.0 _ (search rules)
    (in_span c.in_ok-who.who _ _ _ _ (sym (ap (opening c.args.text.now) c.beginning-here.ensures.same) ∙ c.in_ok-who.ensures.value) read.is_text read.ended (sym c.in_err-from.ensures))

pub returns-in-Some-clause-read : goal.returns-in-Some-clause-read
returns-in-Some-clause-read c =
    let h = c.in-Some.ensures in
    let said = whole_saying c.in_ok-who.who _ _ (formula_view c.into_inner.result) c.in_ok-from.from c.in_ok-from.to (sym (ap (opening c.args.text.now) c.beginning-here.ensures.same) ∙ c.in_ok-who.ensures.value)
    (is_form (ap formula_view c.into_inner.ensures) c.in_ok-body.ensures.read.is_text) (sym c.in_ok-from.ensures) in
    subst (λ (s : StatementView). IsStatementText c.args.text.now s) (sym h.same) (record { is_text = said; is_statement = h.some.0 refl })

pub returns-in-None-clause-fault : goal.returns-in-None-clause-fault
returns-in-None-clause-fault c =
    let h = c.in-None.ensures in
    let said = whole_saying c.in_ok-who.who _ _ (formula_view c.into_inner.result) c.in_ok-from.from c.in_ok-from.to (sym (ap (opening c.args.text.now) c.beginning-here.ensures.same) ∙ c.in_ok-who.ensures.value)
    (is_form (ap formula_view c.into_inner.ensures) c.in_ok-body.ensures.read.is_text) (sym c.in_ok-from.ensures) in
    absurd (false≢true (h.some.1 (statement_said said)))
