-- The inquiry ends, and its line is told.
use Rattle.std.proofs.Common.{refl}
use Rattle.pcfs_tools.specs.Inquired.{unanswered}
use Rattle.pcfs_tools.proofs.TellingLemmas.{TellsInquiry-told}
use Rattle.pcfs_tools.proofs.inquiring.inquire.Goals as goal

pub returns-in-Ok : goal.returns-in-Ok
returns-in-Ok g c = TellsInquiry-told _ _ _ c.in-Ok.ensures.ends.0 _ _ _ _ c.as_slice.ensures c.in-Ok.ensures.ends.1 c.in-Ok.ensures.ends.2 c.write_last_line.ensures

pub returns-in-Err : goal.returns-in-Err
returns-in-Err g c = unanswered (refl, refl, refl) c.in-Err.ensures.steady
