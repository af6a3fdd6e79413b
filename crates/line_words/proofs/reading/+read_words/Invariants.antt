use Rattle.std.proofs.Common.{length}
use Rattle.line_words.proofs.reading.+read_words.Given as goal

-- one kind fewer is left
abbrev pub decreases-read_words : goal.decreases-read_words
decreases-read_words l = length l.kinds.now
