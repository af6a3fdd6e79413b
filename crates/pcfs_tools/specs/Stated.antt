-- What a run over a table of modes writes, and its status (this project's own).
use Rattle.std.specs.Prelude.{◌≡◌, ℕ, List}
use Rattle.pcfs_modes.specs.Answers.{ModesEnds}
use Rattle.pcfs_session.specs.Streams.{Streams}
use Rattle.pcfs_tools.specs.Broken.{Broken}
use Rattle.pcfs_tools.specs.LastLine.{WroteNothing, IsWritten}

-- the table in the input came to this status, and its lines were written; or the output failed; or
-- memory ran out, no call of the input failed, and nothing was written. `broken` says whether the
-- last calls failed
pub data TellsModes (from to : ℕ) (before after : Streams) (broken : Broken) (result : ℕ) : Type 0 where
  stated : (status : ℕ) (written : List ℕ) →
      ModesEnds from to before.left after.left before.read_faults after.read_faults broken.input status written →
      IsWritten status written before.held before.write_faults result after.held after.write_faults broken.output →
      TellsModes from to before after broken result
  unstated : WroteNothing before.held before.write_faults result after.held after.write_faults →
      after.read_faults ≡ before.read_faults → TellsModes from to before after broken result
