-- The numbers that the event cites fit their count.
use Rattle.std.proofs.Common.{subst}
use Rattle.journal_records.specs.EventSpelling.{HasFittingFields}
use Rattle.history_table.proofs.following.addition_for.Goals as goal

pub of-requires : goal.of-requires
of-requires c = rw c.as_slice.ensures (subst HasFittingFields c.in-Issued.is c.requires)
