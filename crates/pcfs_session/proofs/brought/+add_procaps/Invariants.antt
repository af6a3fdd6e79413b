use Rattle.std.proofs.Common.{length}
use Rattle.pcfs_session.proofs.brought.+add_procaps.Given as goal

-- one word fewer is left
abbrev pub decreases-add_procaps : goal.decreases-add_procaps
decreases-add_procaps l = length l.words.now
