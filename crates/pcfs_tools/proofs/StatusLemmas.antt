-- The status of a script.
use Rattle.std.proofs.Common.{◌≡◌, ◌∙◌, ◌≤◌, ℕ, Bool, Option, List, refl, arith}
use Rattle.pcfs_server.specs.Ends.{FailedLast}
use Rattle.pcfs_secrets.specs.declared.secrets.Secrets.{Secrets}
use Rattle.pcfs_session.specs.Ends.{NothingFailedBefore}
use Rattle.pcfs_session.specs.InterpreterView.{InterpreterView}
use Rattle.pcfs_session.specs.ScriptRun.{fresh_start}
use Rattle.pcfs_session.specs.Stored.{AnswersScript}
use Rattle.pcfs_session.specs.Streams.{Streams}
use Rattle.pcfs_session.specs.declared.script_end.ScriptEnd.{ScriptEnd}
use Rattle.pcfs_session.specs.declared.script_end.ScriptEnd.TheVariants.{NoMemory, ReadFault, WriteFault}
use Rattle.pcfs_session.proofs.LawfulRunLemmas.{IsLawfulStanding-fresh}
use Rattle.pcfs_session.proofs.ScriptEndsLemmas.{ScriptEnds-unbegun}
use Rattle.pcfs_tools.specs.Broken.{Broken}
use Rattle.pcfs_tools.specs.ScriptStatus.{TellsEnd, ScriptStatus, AnswersInput}

-- memory ran out before anything was taken
pub ScriptStatus-unbegun : (buffered : ℕ) (secrets : Secrets) (before after : Streams) (broken : Broken) → after.left ≡ before.left → after.read_faults ≡ before.read_faults → after.held ≡ before.held → after.write_faults ≡ before.write_faults →
    ScriptStatus buffered (fresh_start secrets) (fresh_start secrets) before after broken 9
ScriptStatus-unbegun buffered secrets before after broken left reads held faults = record {
  how = NoMemory;
  held = after.held;
  write_faults = after.write_faults;
  ends = ScriptEnds-unbegun buffered (fresh_start secrets) before after (IsLawfulStanding-fresh secrets) refl left held;
  never_falls = omega (arith, faults);
  nothing_failed = record { input = reads; output = faults };
  read_failed = λ is. absurd cc;
  write_failed = λ is. absurd cc;
  tells = (refl, refl, refl);
}

module _ {D : Type 0} (clock : D → ℕ) (left_since : D → ℕ → List ℕ → Type 0) (image : D → Option (List ℕ)) (faults : D → ℕ) where
  -- a script ended, and its last line was written
  pub AnswersInput-told : (buffered : ℕ) (old new : InterpreterView D) (before : Streams) (left held held_after : Option (List ℕ)) (read_faults write_faults faults_after : ℕ) (how : ScriptEnd) (status : ℕ) (mid input output : Bool) →
      AnswersScript clock left_since image faults buffered old before how new (record { left = left; read_faults = read_faults; held = held; write_faults = write_faults }) → before.write_faults ≤ write_faults →
      NothingFailedBefore before how (record { left = left; read_faults = read_faults; held = held; write_faults = write_faults }) → (how ≡ ReadFault → FailedLast before.read_faults read_faults input) →
      (how ≡ WriteFault → FailedLast before.write_faults write_faults mid) → (how ≡ WriteFault → output ≡ mid) → TellsEnd how held write_faults status held_after faults_after output →
      AnswersInput clock left_since image faults buffered old before status new (record { left = left; read_faults = read_faults; held = held_after; write_faults = faults_after }) (record { input = input; output = output })
  AnswersInput-told buffered old new before left held held_after read_faults write_faults faults_after how status mid input output answers never_falls nothing_failed read_failed write_failed untouched tells = record {
    met = answers.met;
    ends = record {
      how = how;
      held = held;
      write_faults = write_faults;
      ends = answers.ends;
      never_falls = never_falls;
      nothing_failed = nothing_failed;
      read_failed = read_failed;
      write_failed = λ is. let failed = write_failed is in (failed.0, untouched is ∙ failed.1);
      tells = tells;
    };
    goes_on = answers.goes_on;
  }
