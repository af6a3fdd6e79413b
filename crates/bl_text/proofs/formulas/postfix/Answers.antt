-- A formula without signs, and then an interval at a time.
use Rattle.std.proofs.Common.{◌≡◌, true, false, refl, arith, rules}
use Rattle.bl_syntax.specs.Formula.{formula_view}
use Rattle.bl_tokens.specs.declared.tokens.Sign.TheVariants as signs
use Rattle.bl_tokens.specs.Tokens.{is_sign}
use Rattle.bl_text.specs.Grammar as g
use Rattle.bl_text.specs.FirstFaults as s
use Rattle.bl_text.proofs.ReadLemmas.{passed, is_form, stops_at_interval}
use Rattle.bl_text.proofs.formulas.postfix.Goals as goal

pub returns-in_err-first-clause-fault : goal.returns-in_err-first-clause-fault
returns-in_err-first-clause-fault c = passed c.from_residual.result c.in_err-first.field-0.0 _ (search rules) (λ depth. s.in_primary _ depth _ _ (c.in_err-first.ensures.fault depth))

pub at-init : goal.at-init
at-init c =
    let read = c.in_ok-first.ensures.read in
    record { is_text = λ depth. g.one_primary _ depth _ _ _ (read depth).is_text; ended = refl; left = (read 0).left; within = (read 0).within }

pub returns-in_err-a-clause-fault : goal.returns-in_err-a-clause-fault
returns-in_err-a-clause-fault c = passed c.from_residual-in_err-a.result c.in_err-a.field-0.0 _ (search rules) (λ depth. stops_at_interval (c.at.invariant.is_text depth) (let sign : is_sign signs.At c.at.here.token ≡ true = search rules in sign) c.in_err-a.ensures.fault)

pub at-preserved : goal.at-preserved
at-preserved c =
    let l = c.at in
    let read = c.in_ok-a.ensures.read in
    let sign : is_sign signs.At l.here.token ≡ true = search rules in
    record {
      is_text = λ depth. is_form read.value (g.on_interval _ depth _ l.here c.on_interval.new.here (formula_view l.a.value) read.from read.to (l.invariant.is_text depth) sign read.interval_is);
      ended = refl;
      left = omega (arith, l.invariant.left, read.left);
      within = read.within;
    }

pub returns-clause-read : goal.returns-clause-read
returns-clause-read c = λ depth.
    let ended : is_sign signs.At c.at.here.token ≡ false = search rules in
    record { is_text = c.at.invariant.is_text depth; ended = ended; left = c.at.invariant.left; within = c.at.invariant.within }
