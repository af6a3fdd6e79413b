use Rattle.std.proofs.Common.{◌≡◌, length, vec_len}
use Rattle.client_tree.proofs.asking.prepare.Given as goal

abbrev pub invariant-loop-need : goal.invariant-loop-need
invariant-loop-need g l = (length l.procaps ≡ l.need-index) × (vec_len l.words ≡ l.need-index)
