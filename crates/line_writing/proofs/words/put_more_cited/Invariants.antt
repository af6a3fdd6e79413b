-- The numbers so far were written.
use Rattle.std.proofs.Common.{◌≡◌, ◌++◌, take}
use Rattle.line_writing.specs.WordTexts.{more_cited}
use Rattle.line_writing.proofs.words.put_more_cited.Given as goal

abbrev pub invariant-loop-number : goal.invariant-loop-number
invariant-loop-number l = l.out ≡ l.fn.out ++ more_cited (take l.number-index l.numbers)
