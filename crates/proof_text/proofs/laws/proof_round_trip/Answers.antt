-- Each rule is read where it was written, and then its premises.
use Rattle.proof_text.proofs.RoundTripLemmas.{text_is_read}
use Rattle.proof_text.proofs.laws.proof_round_trip.Goals as goal

pub returns : goal.returns
returns c = λ d says. text_is_read d says
