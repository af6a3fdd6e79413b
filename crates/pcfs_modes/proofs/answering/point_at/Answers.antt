-- So small a number is the same with a sign, and a moment.
use Rattle.std.proofs.Common.{ap, arith, w64}
use Rattle.std.proofs.lemmas.Int.{to_z_pos}
use Rattle.bl_syntax.specs.declared.terms.TimePoint.TheVariants.{At}
use Rattle.pcfs_modes.proofs.EndLemmas.{in_range_at}
use Rattle.pcfs_modes.proofs.answering.point_at.Goals as goal

pub returns-clause-same : goal.returns-clause-same
returns-clause-same c = ap At (to_z_pos w64 c.args.second (omega (arith, c.requires)))

pub returns-clause-in_range : goal.returns-clause-in_range
returns-clause-in_range c = in_range_at _ c.args.second (to_z_pos w64 c.args.second (omega (arith, c.requires))) c.requires
