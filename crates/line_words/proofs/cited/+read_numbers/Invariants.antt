use Rattle.std.proofs.Common.{length}
use Rattle.line_words.proofs.cited.+read_numbers.Given as goal

-- the word that is left is shorter
abbrev pub decreases-read_numbers : goal.decreases-read_numbers
decreases-read_numbers l = length l.word.now
