-- What an inquiry writes, and its status (this project's own).
use Rattle.std.specs.Prelude.{◌≡◌, ℕ, List}
use Rattle.pcfs_inquiry.specs.Answers.{InquiryEnds}
use Rattle.pcfs_session.specs.Streams.{Streams}
use Rattle.pcfs_tools.specs.Broken.{Broken}
use Rattle.pcfs_tools.specs.LastLine.{Wrote, WroteNothing}

-- the inquiry in the input ended with this status, and its line was written; or the output failed;
-- or memory ran out, no call of the input failed, and nothing was written. `broken` says whether
-- the last calls failed
pub data TellsInquiry (before after : Streams) (broken : Broken) (result : ℕ) : Type 0 where
  answered : (status : ℕ) (line : List ℕ) →
      InquiryEnds before.left after.left before.read_faults after.read_faults broken.input status line →
      Wrote status line before.held before.write_faults result after.held after.write_faults broken.output →
      TellsInquiry before after broken result
  unanswered : WroteNothing before.held before.write_faults result after.held after.write_faults →
      after.read_faults ≡ before.read_faults → TellsInquiry before after broken result
