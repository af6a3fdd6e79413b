use Rattle.procap.proofs.reading.+add_states_at.Given as goal

abbrev pub decreases-add_states_at : goal.decreases-add_states_at
decreases-add_states_at l = l.count
