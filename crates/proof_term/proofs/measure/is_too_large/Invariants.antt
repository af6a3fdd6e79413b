-- The nodes that were passed, those of the proof at hand, and those that wait make up the whole.
use Rattle.std.proofs.Common.{◌≡◌, ◌≤◌, ◌+◌, length, take}
use Rattle.std.specs.List.{sum_by}
use Rattle.proof_term.specs.Proof.{proof_view}
use Rattle.proof_term.specs.Limits.{size}
use Rattle.proof_term.proofs.MeasureLemmas.{nodes_of}
use Rattle.proof_term.proofs.measure.is_too_large.Given as goal

abbrev pub invariant-loop-passed : goal.invariant-loop-passed
invariant-loop-passed l = record {
  few : l.waiting_len ≤ l._passed;
  room : length l.waiting ≡ 4096;
  whole : l._passed + size (proof_view l.node) + sum_by nodes_of (take l.waiting_len l.waiting) ≡ size (proof_view l.p);
}
