-- The procaps so far were written.
use Rattle.std.proofs.Common.{◌≡◌, ◌++◌, take}
use Rattle.line_writing.specs.WordTexts.{procaps_text}
use Rattle.line_writing.proofs.words.put_procaps.Given as goal

abbrev pub invariant-loop-word : goal.invariant-loop-word
invariant-loop-word l = l.out ≡ l.fn.out ++ procaps_text (take l.word-index l.words)
