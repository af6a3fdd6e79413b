-- The statements so far were written.
use Rattle.std.proofs.Common.{◌≡◌, ◌++◌, take}
use Rattle.access_history.specs.History.{state_of}
use Rattle.history_text.specs.Lines.{cited_lines}
use Rattle.history_text.proofs.lines.put_all_cited.Given as goal

abbrev pub invariant-loop-number : goal.invariant-loop-number
invariant-loop-number l = l.out ≡ l.fn.out ++ cited_lines (state_of l.history).statements (take l.number-index l.numbers)
