-- The status that a script ends with, and its last line (this project's own).
use Rattle.std.specs.Prelude.{◌≡◌, ℕ, ◌≤◌, List, codes, Bool, Option, None}
use Rattle.pcfs_server.specs.Ends.{FailedLast}
use Rattle.pcfs_store.specs.Entries.{StoreEntry}
use Rattle.pcfs_session.specs.Ends.{NothingFailedBefore}
use Rattle.pcfs_session.specs.InterpreterView.{InterpreterView, standing_of}
use Rattle.pcfs_session.specs.ScriptEnds.{ScriptEnds}
use Rattle.pcfs_session.specs.ScriptRun.{ScriptState}
use Rattle.pcfs_session.specs.Stored.{StoreGoesOn}
use Rattle.pcfs_session.specs.Streams.{Streams}
use Rattle.pcfs_session.specs.declared.script_end.ScriptEnd.{ScriptEnd}
use Rattle.pcfs_session.specs.declared.script_end.ScriptEnd.TheVariants.{Done, LineTooLong, ReadFault, WriteFault, NoMemory, InputTooLong, Stopped}
use Rattle.pcfs_tools.specs.Broken.{Broken}
use Rattle.pcfs_tools.specs.LastLine.{Wrote}

-- the run ends with this status, and nothing more is written
abbrev pub IsSilent : ℕ → Option (List ℕ) → ℕ → ℕ → Option (List ℕ) → ℕ → Type 0
IsSilent status held faults result held_after faults_after = (result ≡ status) ×
    (held_after ≡ held) × (faults_after ≡ faults)

-- what is written after a script that ended so, and the status. After the last reply, and after
-- `bad 3` and `stopped`, which are replies, nothing is. `broken` says whether the output's last
-- call failed.
abbrev pub TellsEnd : ScriptEnd → Option (List ℕ) → ℕ → ℕ → Option (List ℕ) → ℕ → Bool → Type 0
TellsEnd Done held faults result held_after faults_after broken = IsSilent 0 held faults result held_after faults_after
TellsEnd LineTooLong held faults result held_after faults_after broken = IsSilent 2 held faults result held_after faults_after
TellsEnd ReadFault held faults result held_after faults_after broken = Wrote 6 (codes "readfault") held faults result held_after faults_after broken
TellsEnd WriteFault held faults result held_after faults_after broken = IsSilent 7 held faults result held_after faults_after
TellsEnd NoMemory held faults result held_after faults_after broken = IsSilent 9 held faults result held_after faults_after
TellsEnd InputTooLong held faults result held_after faults_after broken = Wrote 13 (codes "toolong") held faults result held_after faults_after broken
TellsEnd Stopped held faults result held_after faults_after broken = IsSilent 5 held faults result held_after faults_after

-- A script ended, with at most so many bytes of replies buffered, when the output held these bytes
-- and had had so many faults, and after that its last line was written. Unless it ended by a fault
-- of the input, no call of that failed, and unless by one of the output, none of that before the
-- last line; and the call that failed was the last one of that stream.
pub record ScriptStatus (buffered : ℕ) (start end : ScriptState) (before after : Streams)
    (broken : Broken) (status : ℕ) : Type 0 where
  pub how : ScriptEnd
  pub held : Option (List ℕ)
  pub write_faults : ℕ
  pub ends : ScriptEnds buffered start end before
      (record after { held = held; write_faults = write_faults }) how
  pub never_falls : before.write_faults ≤ write_faults
  pub nothing_failed : NothingFailedBefore before how (record after { held = held; write_faults = write_faults })
  pub read_failed : how ≡ ReadFault → FailedLast before.read_faults after.read_faults broken.input
  pub write_failed : how ≡ WriteFault → FailedLast before.write_faults write_faults broken.output
  pub tells : TellsEnd how held write_faults status after.held after.write_faults broken.output

-- Below `clock`, `left_since`, `image` and `faults` tell of a disk what they do in `Stored`.
module _ {D : Type 0} (clock : D → ℕ) (left_since : D → ℕ → List ℕ → Type 0) (image : D → Option (List ℕ)) (faults : D → ℕ) where
  -- the script in the input is answered by an interpreter and ends with this status, and its store
  -- goes on
  pub record AnswersInput (buffered : ℕ) (old : InterpreterView D) (before : Streams) (status : ℕ)
      (new : InterpreterView D) (after : Streams) (broken : Broken) : Type 0 where
    pub met : Option StoreEntry
    pub ends : ScriptStatus buffered (standing_of old None) (standing_of new met) before after
        broken status
    pub goes_on : StoreGoesOn clock left_since image faults old.store new.store met
