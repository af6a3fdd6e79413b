use Rattle.std.proofs.Common.{length}
use Rattle.line_words.proofs.reading.+after_words.Given as goal

-- one kind fewer is left
abbrev pub decreases-after_words : goal.decreases-after_words
decreases-after_words l = length l.kinds.now
