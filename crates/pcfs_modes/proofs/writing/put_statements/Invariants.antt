-- The lines of the statements so far were written.
use Rattle.std.proofs.Common.{◌≡◌, ◌++◌, take}
use Rattle.pcfs_modes.specs.ModesText.{register_lines}
use Rattle.pcfs_modes.proofs.writing.put_statements.Given as goal

abbrev pub invariant-loop-statement : goal.invariant-loop-statement
invariant-loop-statement l = l.out ≡ l.fn.out ++ register_lines (take l.statement-index l.statements)
