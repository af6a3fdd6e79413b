use Rattle.std.proofs.Common.{All}
use Rattle.client_tree.specs.Lines.{IsAskedText}
use Rattle.client_tree.proofs.replacing.exchange.Given as goal

abbrev pub invariant-loop-work : goal.invariant-loop-work
invariant-loop-work g l = All IsAskedText l.lines.items
