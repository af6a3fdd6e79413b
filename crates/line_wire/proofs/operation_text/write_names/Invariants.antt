-- The names so far were written.
use Rattle.std.proofs.Common.{◌≡◌, ◌++◌, take}
use Rattle.line_wire.specs.OperationText.{names_text}
use Rattle.line_wire.proofs.operation_text.write_names.Given as goal

abbrev pub invariant-loop-named : goal.invariant-loop-named
invariant-loop-named l = l.out ≡ l.fn.out ++ names_text (take l.named-index l.names)
