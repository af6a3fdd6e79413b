use Rattle.bl_constraints.proofs.PlaceLemmas.{IsAdding}
use Rattle.bl_constraints.proofs.places.Places.add_all.Given as goal

abbrev pub invariant-loop-word : goal.invariant-loop-word
invariant-loop-word l = IsAdding l.fn.self.words l.other.words l.word l.self.words
