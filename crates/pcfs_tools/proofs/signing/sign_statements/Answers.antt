-- The statements come to their end, and its lines are told.
use Rattle.std.proofs.Common.{refl}
use Rattle.pcfs_tools.specs.Signed.{unsigned}
use Rattle.pcfs_tools.proofs.TellingLemmas.{TellsSigning-told}
use Rattle.pcfs_tools.proofs.signing.sign_statements.Goals as goal

pub returns-in-Ok : goal.returns-in-Ok
returns-in-Ok g c = TellsSigning-told c.args.height c.args.from _ _ _ _ _ _ _ c.as_slice.ensures c.in-Ok.ensures.ends c.write_last_line.ensures

pub returns-in-Err : goal.returns-in-Err
returns-in-Err g c = unsigned (refl, refl, refl) c.in-Err.ensures.steady
