use Rattle.procap.proofs.reading.+add_rising_at.Given as goal

abbrev pub decreases-add_rising_at : goal.decreases-add_rising_at
decreases-add_rising_at l = l.count
