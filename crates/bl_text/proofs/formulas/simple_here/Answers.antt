-- What `simple_formula` reads.
use Rattle.std.proofs.Common.{refl, rules}
use Rattle.bl_syntax.specs.Formula.{formula_view}
use Rattle.bl_text.specs.Grammar.{one_simple}
use Rattle.bl_text.specs.FirstFaults.{in_simple}
use Rattle.bl_text.proofs.ReadLemmas.{passed, none_left}
use Rattle.bl_text.proofs.ReportsFaultLemmas.{refused_or_read}
use Rattle.bl_text.proofs.formulas.simple_here.Goals as goal

pub returns-in_err-f-clause-fault : goal.returns-in_err-f-clause-fault
returns-in_err-f-clause-fault c = passed c.from_residual.result c.in_err-f.field-0.0 _ (search rules)
    (λ depth. refused_or_read _ _ c.in_err-f.ensures.value (λ refused. none_left refused) (λ is. in_simple _ depth _ _ c.requires.not_open c.requires.no_call is))

pub returns-clause-read : goal.returns-clause-read
returns-clause-read c = λ depth. record {
  is_text = one_simple _ depth _ c.in_ok-f.there (formula_view c.in_ok-f.f.value) c.requires.not_open c.requires.no_call c.in_ok-f.ensures.value;
  ended = refl;
  left = c.in_ok-f.ensures.left;
  within = c.in_ok-f.ensures.within;
}
