use Rattle.procap.proofs.reading.+add_times_at.Given as goal

abbrev pub decreases-add_times_at : goal.decreases-add_times_at
decreases-add_times_at l = l.count
