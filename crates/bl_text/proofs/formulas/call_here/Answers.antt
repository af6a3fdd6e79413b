-- What `call` reads.
use Rattle.std.proofs.Common.{refl, rules}
use Rattle.bl_syntax.specs.Formula.{formula_view}
use Rattle.bl_text.specs.Grammar.{called}
use Rattle.bl_text.specs.FirstFaults.{in_call}
use Rattle.bl_text.proofs.ReadLemmas.{passed}
use Rattle.bl_text.proofs.formulas.call_here.Goals as goal

pub returns-in_err-f-clause-fault : goal.returns-in_err-f-clause-fault
returns-in_err-f-clause-fault c = passed c.from_residual.result c.in_err-f.field-0.0 _ (search rules) (λ depth. in_call _ depth _ _ c.requires.not_open c.requires.call c.in_err-f.ensures.fault)

pub returns-clause-read : goal.returns-clause-read
returns-clause-read c = λ depth.
    let read = c.in_ok-f.ensures.read in
    record {
      is_text = called _ depth _ c.in_ok-f.there (formula_view c.in_ok-f.f.value) c.requires.not_open c.requires.call read.is_call;
      ended = refl;
      left = read.left;
      within = read.within;
    }
