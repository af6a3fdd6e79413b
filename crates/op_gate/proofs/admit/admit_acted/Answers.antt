-- What is wrong before the operation is decided, or what is decided.
use Rattle.std.proofs.Common.{subst, List}
use Rattle.std.specs.Prelude.{ℤ}
use Rattle.std.specs.Int.{w64}
use mir.Val.{to_z, of_z}
use Rattle.std.proofs.lemmas.Int.{to_z-of_z}
use Rattle.procap.specs.declared.procap.Procap.{Procap}
use Rattle.journal_records.specs.declared.event.Event.TheVariants.{Acted}
use Rattle.access_history.specs.History.{authority_of, state_of}
use Rattle.op_gate.specs.Admits.{IsTimely}
use Rattle.op_gate.specs.Damage.{IsDamagedBy}
use Rattle.op_gate.proofs.admit.admit_acted.Goals as goal

pub admit_timely-requires-clause-timely : goal.admit_timely-requires-clause-timely
admit_timely-requires-clause-timely c =
    subst (λ (ps : List Procap). IsTimely (state_of c.args.history.now) c.args.op ps (to_z w64 (of_z w64 c.args.moment))) c.as_slice.ensures (c.in-None.ensures c.args.pass c.args.caller)

pub returns-in-Some-clause-pending : goal.returns-in-Some-clause-pending
returns-in-Some-clause-pending c =
    let h = c.args.history.now in
    subst (λ (ps : List Procap). IsDamagedBy (authority_of h) (state_of h) (Acted c.args.pass c.args.caller c.args.op ps c.args.moment) c.in-Some.damage) c.as_slice.ensures
    (subst (λ (m : ℤ). IsDamagedBy (authority_of h) (state_of h) (Acted c.args.pass c.args.caller c.args.op c.as_slice.result.now m) c.in-Some.damage) (to_z-of_z w64 c.args.moment c.ranges.moment) (c.in-Some.ensures c.args.pass c.args.caller))
