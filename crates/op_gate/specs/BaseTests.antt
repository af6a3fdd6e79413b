-- What the gate finds of a state that was read, test by test (this project's own).
use Rattle.std.specs.Prelude.{◌≡◌, List, IsTrue, Result, Ok, Err}
use Rattle.bl_syntax.specs.Statement.{IsStatement}
use Rattle.policy_statement.specs.Messages.{statement_message}
use Rattle.policy_statement.specs.Registered.{RegisteredView}
use Rattle.policy_statement.specs.Ring.{KeyView, is_accepted}
use Rattle.op_gate.specs.declared.damage.Damage.{Damage}
use Rattle.op_gate.specs.declared.damage.AdmitFault.{AdmitFault}
use Rattle.op_gate.specs.declared.damage.AdmitFault.TheVariants.{Damaged, NoMemory}

-- the ring accepts the signature with which the statement was registered
abbrev pub IsSignedIn : List KeyView → RegisteredView → Type 0
IsSignedIn ring entry = IsTrue (is_accepted ring entry.statement.who (statement_message entry.statement) entry.signature)

-- the statement may be said
abbrev pub IsFormed : RegisteredView → Type 0
IsFormed entry = IsStatement entry.statement

-- the test of that name is passed, or it is not, or there was no memory
abbrev pub TellsTest : Type 0 → Damage → Result (Unit {0}) AdmitFault → Type 0
TellsTest Passes name (Ok done) = Passes
TellsTest Passes name (Err (Damaged damage)) = (damage ≡ name) × (Passes → ⊥)
TellsTest Passes name (Err NoMemory) = Unit {0}
