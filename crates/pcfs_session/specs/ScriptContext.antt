-- Who asks what a line asks (this project's own).
use Rattle.std.specs.Prelude.{ℕ, ℤ, pos, List, IsTrue, Option, None}
use Rattle.bl_syntax.specs.Names.{is_principal_name}
use Rattle.bl_syntax.specs.TimeOrder.{IsMoment}
use Rattle.line_forms.specs.declared.command.Command.{Command}
use Rattle.line_forms.specs.declared.command.Command.TheVariants.{At, As, Register, Withdraw, Procap, Checkpoint, Verify, Check, Do}
use Rattle.pcfs_session.specs.Admin.{admin}

-- the number that the events of whoever asks carry, what their clock shows, their name, and whose
-- procaps they may see: each if nobody is named
pub record ScriptContext : Type 0 where
  pub pass : ℕ
  pub clock : ℤ
  pub caller : List ℕ
  pub sees : Option (List ℕ)

-- a moment on the clock, and the name of a principal
pub record IsAsker (asker : ScriptContext) : Type 0 where
  pub moment : IsMoment asker.clock
  pub named : IsTrue (is_principal_name asker.caller)

-- who asks the first line of an operator's script: `admin`, at second 0
abbrev pub first_asker : ℕ → ScriptContext
first_asker pass = record { pass = pass; clock = pos 0; caller = admin; sees = None }

-- who asks after a command
abbrev pub asker_after : ScriptContext → Command → ScriptContext
asker_after asker (At second) = record asker { clock = second }
asker_after asker (As who) = record asker { caller = who }
asker_after asker (Register signature statement) = asker
asker_after asker (Withdraw number signature) = asker
asker_after asker (Procap number) = asker
asker_after asker Checkpoint = asker
asker_after asker (Verify goal numbers proof) = asker
asker_after asker (Check goal numbers proof) = asker
asker_after asker (Do op words) = asker
