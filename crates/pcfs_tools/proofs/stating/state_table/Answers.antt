-- The table comes to its end, and its lines are told.
use Rattle.std.proofs.Common.{refl}
use Rattle.pcfs_tools.specs.Stated.{unstated}
use Rattle.pcfs_tools.proofs.TellingLemmas.{TellsModes-told}
use Rattle.pcfs_tools.proofs.stating.state_table.Goals as goal

pub returns-in-Ok : goal.returns-in-Ok
returns-in-Ok g c = TellsModes-told c.args.from c.args.to _ _ _ _ _ _ _ c.as_slice.ensures c.in-Ok.ensures.ends c.write_last_line.ensures

pub returns-in-Err : goal.returns-in-Err
returns-in-Err g c = unstated (refl, refl, refl) c.in-Err.ensures.steady
