-- The first thing that is wrong before the operation is decided.
use Rattle.std.proofs.Common.{subst, sym, arith}
use Rattle.std.specs.Int.{w64}
use Rattle.std.proofs.lemmas.Int.{ints, to_z-of_z}
use Rattle.bl_syntax.specs.TimeOrder.{IsMoment}
use Rattle.journal_records.specs.declared.event.Event.TheVariants.{Acted}
use Rattle.access_history.specs.History.{authority_of, state_of}
use Rattle.op_gate.proofs.AdmitLemmas.{damaged_shape, damaged_falls, damaged_not_admitted}
use Rattle.op_gate.proofs.CheckLemmas.{is_so, is_not_so}
use Rattle.op_gate.proofs.admit.early_damage.Goals as goal

pub returns-then-not-is_moment : goal.returns-then-not-is_moment
returns-then-not-is_moment c = λ pass caller.
    damaged_shape (authority_of c.args.history.now) (state_of c.args.history.now) (Acted pass caller c.args.op.now c.args.procaps.now c.args.moment)
    (λ has. is_not_so _ _ c.is_moment.ensures c.if-not-is_moment.true (subst IsMoment (sym (to_z-of_z w64 c.args.moment c.ranges.moment)) has.in_range))

pub returns-then-moment : goal.returns-then-moment
returns-then-moment c = λ pass caller.
    damaged_falls (authority_of c.args.history.now) (state_of c.args.history.now) c.requires pass caller c.args.op.now c.args.procaps.now c.args.moment
    (subst IsMoment (to_z-of_z w64 c.args.moment c.ranges.moment) (is_so _ _ c.is_moment.ensures c.if-not-is_moment.false))
    (λ not_before. omega (arith, ints, not_before, c.if-moment.true, c.moment.ensures))

pub returns-then-not-brings_enough : goal.returns-then-not-brings_enough
returns-then-not-brings_enough c = λ pass caller.
    damaged_not_admitted (authority_of c.args.history.now) (state_of c.args.history.now) c.requires pass caller c.args.op.now c.args.procaps.now c.args.moment
    (subst IsMoment (to_z-of_z w64 c.args.moment c.ranges.moment) (is_so _ _ c.is_moment.ensures c.if-not-is_moment.false))
    (omega (arith, ints, c.if-moment.false, c.moment.ensures))
    (λ takes. is_not_so _ _ c.brings_enough.ensures c.if-not-brings_enough.true takes.brought)
