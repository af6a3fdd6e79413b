-- The rejection of a statement that the registry does not take (this project's own).
use Rattle.std.specs.Prelude.{Option, Some, None}
use Rattle.policy_statement.specs.declared.registry.RegisterFault.{RegisterFault as Fault}
use Rattle.policy_statement.specs.declared.registry.RegisterFault.TheVariants as faults
use Rattle.access_history.specs.declared.reply.Rejection.{Rejection}
use Rattle.access_history.specs.declared.reply.Rejection.TheVariants.{BadSignature, RegistryFull, Duplicate}

-- nothing if there was no memory, which is no fault of the statement
abbrev pub rejection_of : Fault → Option Rejection
rejection_of faults.BadSignature = Some BadSignature
rejection_of faults.RegistryFull = Some RegistryFull
rejection_of (faults.Duplicate number) = Some (Duplicate number)
rejection_of faults.NoMemory = None
