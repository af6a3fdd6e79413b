-- What the registry tells of the statement.
use Rattle.std.proofs.Common.{sym, subst}
use Rattle.std.specs.Prelude.{Err}
use Rattle.op_gate.specs.declared.damage.AdmitFault.{AdmitFault}
use Rattle.op_gate.specs.declared.damage.Damage.TheVariants.{Duplicate}
use Rattle.op_gate.specs.BaseTests.{TellsTest}
use Rattle.policy_statement.specs.Registry.{CanRegister, sayings}
use Rattle.op_gate.proofs.BaseDamageLemmas.{kept_new, not_new}
use Rattle.op_gate.proofs.base.keep_new.Goals as goal

pub returns-in-Ok-keep_copy-clause-new : goal.returns-in-Ok-keep_copy-clause-new
returns-in-Ok-keep_copy-clause-new c = kept_new _ c.args.registry.now.entries c.args.entry.now.statement c.statement.result.now c.in-Ok.field-0 c.statement.ensures c.in-Ok.ensures

pub returns-in-Err-clause-new : goal.returns-in-Err-clause-new
returns-in-Err-clause-new c =
    subst (λ (f : AdmitFault). TellsTest (CanRegister (sayings c.args.registry.now.entries) c.args.entry.now.statement) Duplicate (Err f)) (sym c.register_damage.ensures)
    (not_new c.args.ring.now c.args.registry.now.entries c.args.entry.now c.statement.result.now c.signature.result.now c.in-Err.fault c.statement.ensures c.signature.ensures c.requires c.in-Err.ensures)
