-- A rule's measure lies between that of its premises and that of its proof.
use Rattle.std.proofs.Common.{◌+◌, ◌*◌}
use Rattle.proof_term.specs.Proof.{proof_view}
use Rattle.proof_term.specs.Limits.{size}
use Rattle.proof_verifier.proofs.checker.Checker.+follow.Given as goal

abbrev pub decreases-follow : goal.decreases-follow
decreases-follow l = 2 * size (proof_view l.proof.now)

abbrev pub decreases-or_r1 : goal.decreases-or_r1
decreases-or_r1 l = 2 * size (proof_view l.p.now) + 1

abbrev pub decreases-or_r2 : goal.decreases-or_r2
decreases-or_r2 l = 2 * size (proof_view l.p.now) + 1

abbrev pub decreases-imp_r : goal.decreases-imp_r
decreases-imp_r l = 2 * size (proof_view l.p.now) + 1

abbrev pub decreases-forall_r : goal.decreases-forall_r
decreases-forall_r l = 2 * size (proof_view l.p.now) + 1

abbrev pub decreases-exists_r : goal.decreases-exists_r
decreases-exists_r l = 2 * size (proof_view l.p.now) + 1

abbrev pub decreases-says_r : goal.decreases-says_r
decreases-says_r l = 2 * size (proof_view l.p.now) + 1

abbrev pub decreases-at_r : goal.decreases-at_r
decreases-at_r l = 2 * size (proof_view l.p.now) + 1

abbrev pub decreases-cons_l : goal.decreases-cons_l
decreases-cons_l l = 2 * size (proof_view l.p.now) + 1

abbrev pub decreases-inter_l : goal.decreases-inter_l
decreases-inter_l l = 2 * size (proof_view l.p.now) + 1

abbrev pub decreases-and_l : goal.decreases-and_l
decreases-and_l l = 2 * size (proof_view l.p.now) + 1

abbrev pub decreases-forall_l : goal.decreases-forall_l
decreases-forall_l l = 2 * size (proof_view l.p.now) + 1

abbrev pub decreases-exists_l : goal.decreases-exists_l
decreases-exists_l l = 2 * size (proof_view l.p.now) + 1

abbrev pub decreases-says_l : goal.decreases-says_l
decreases-says_l l = 2 * size (proof_view l.p.now) + 1

abbrev pub decreases-claim : goal.decreases-claim
decreases-claim l = 2 * size (proof_view l.p.now) + 1

abbrev pub decreases-at_l : goal.decreases-at_l
decreases-at_l l = 2 * size (proof_view l.p.now) + 1

abbrev pub decreases-and_r : goal.decreases-and_r
decreases-and_r l = 2 * (size (proof_view l.p.now) + size (proof_view l.q.now)) + 1

abbrev pub decreases-or_l : goal.decreases-or_l
decreases-or_l l = 2 * (size (proof_view l.p.now) + size (proof_view l.q.now)) + 1

abbrev pub decreases-imp_l : goal.decreases-imp_l
decreases-imp_l l = 2 * (size (proof_view l.p.now) + size (proof_view l.q.now)) + 1
