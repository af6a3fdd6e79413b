-- The list gets shorter.
use Rattle.std.proofs.Common.{length}
use Rattle.history_text.proofs.objects.+put_more_uses.Given as goal

abbrev pub decreases-put_more_uses : goal.decreases-put_more_uses
decreases-put_more_uses l = length l.uses.now
