-- The first name that differs.
use Rattle.std.proofs.Common.{ap}
use Rattle.bl_syntax.specs.declared.terms.Term.TheVariants as terms
use Rattle.op_gate.proofs.CheckLemmas.{is_so, is_not_so, file_same, perm_same, names_principal, names_file, names_permission, names_all}
use Rattle.op_gate.proofs.cause.other_name.Goals as goal

pub returns-then-not-is_same : goal.returns-then-not-is_same
returns-then-not-is_same c = λ key state moment.
    names_principal key state moment c.args.wanted.now c.goal-goal.result c.args.procap.now c.goal-goal.ensures (is_not_so _ _ c.is_same.ensures c.if-not-is_same.true)

pub returns-then-not-is_same-2 : goal.returns-then-not-is_same-2
returns-then-not-is_same-2 c = λ key state moment.
    names_file key state moment c.args.wanted.now c.goal-goal.result c.args.procap.now c.goal-goal.ensures (is_so _ _ c.is_same.ensures c.if-not-is_same.false)
    (λ e. is_not_so _ _ c.is_same-else-not-is_same.ensures c.if-not-is_same-2.true (ap terms.File e))

pub returns-then-not-is_same-3 : goal.returns-then-not-is_same-3
returns-then-not-is_same-3 c = λ key state moment.
    names_permission key state moment c.args.wanted.now c.goal-goal.result c.args.procap.now c.goal-goal.ensures (is_so _ _ c.is_same.ensures c.if-not-is_same.false)
    (file_same _ _ (is_so _ _ c.is_same-else-not-is_same.ensures c.if-not-is_same-2.false)) (λ e. is_not_so _ _ c.is_same-else-not-is_same-2.ensures c.if-not-is_same-3.true (ap terms.Perm e))

pub returns-else-not-is_same-3 : goal.returns-else-not-is_same-3
returns-else-not-is_same-3 c = λ key state moment.
    names_all key state moment c.args.wanted.now c.goal-goal.result c.args.procap.now c.goal-goal.ensures (is_so _ _ c.is_same.ensures c.if-not-is_same.false)
    (file_same _ _ (is_so _ _ c.is_same-else-not-is_same.ensures c.if-not-is_same-2.false)) (perm_same _ _ (is_so _ _ c.is_same-else-not-is_same-2.ensures c.if-not-is_same-3.false))
