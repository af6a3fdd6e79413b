use Rattle.line_writing.proofs.RoundTripLemmas.{round_trip}
use Rattle.line_writing.proofs.laws.line_round_trip.Goals as goal

pub returns : goal.returns
returns c mode line asked h = round_trip h
