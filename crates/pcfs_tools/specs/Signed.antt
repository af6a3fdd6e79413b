-- What a run over statements to be signed writes, and its status (this project's own).
use Rattle.std.specs.Prelude.{◌≡◌, ℕ, List}
use Rattle.pcfs_session.specs.Streams.{Streams}
use Rattle.pcfs_tools.specs.Broken.{Broken}
use Rattle.pcfs_tools.specs.LastLine.{WroteNothing, IsWritten}
use Rattle.root_signing.specs.Signed.{SigningEnds}

-- the statements in the input came to this status, and their lines were written; or the output
-- failed; or memory ran out, no call of the input failed, and nothing was written. `broken` says
-- whether the last calls failed
pub data TellsSigning (height from : ℕ) (before after : Streams) (broken : Broken) (result : ℕ) : Type 0 where
  signed : (status : ℕ) (written : List ℕ) →
      SigningEnds height from before.left after.left before.read_faults after.read_faults broken.input status written →
      IsWritten status written before.held before.write_faults result after.held after.write_faults broken.output →
      TellsSigning height from before after broken result
  unsigned : WroteNothing before.held before.write_faults result after.held after.write_faults →
      after.read_faults ≡ before.read_faults → TellsSigning height from before after broken result
