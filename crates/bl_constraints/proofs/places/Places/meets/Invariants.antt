use Rattle.std.proofs.Common.{ℕ, ◌<◌, get_or}
use Rattle.bl_constraints.specs.Places.{ShareBit}
use Rattle.bl_constraints.proofs.places.Places.meets.Given as goal

abbrev pub invariant-loop-word : goal.invariant-loop-word
invariant-loop-word l = (w : ℕ) → w < l.word → ShareBit (get_or l.self.words w 0) (get_or l.other.words w 0) → ⊥
