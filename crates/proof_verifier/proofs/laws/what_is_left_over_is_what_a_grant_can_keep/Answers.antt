use Rattle.proof_verifier.proofs.AgreementLemmas.{Decides-time_left_over, Decides-state_left_over, answer-same, verdict-computed}
use Rattle.proof_verifier.proofs.WellFormedLemmas.{IsWellFormed-root}
use Rattle.proof_verifier.proofs.laws.what_is_left_over_is_what_a_grant_can_keep.Goals as goal

pub returns : goal.returns
returns c = record {
  time = Decides-time_left_over;
  state = Decides-state_left_over;
  node = answer-same;
  root = IsWellFormed-root;
  verdict = verdict-computed;
}
