-- The procaps of the words so far.
use Rattle.std.proofs.Common.{◌≡◌, map, take}
use Rattle.line_words.specs.declared.procap_word.ProcapWord.TheVariants as words
use Rattle.session_lines.proofs.tasks.held_procaps.Given as goal

abbrev pub invariant-loop-word : goal.invariant-loop-word
invariant-loop-word l = take l.word-index l.given ≡ map words.Procap l.procaps
