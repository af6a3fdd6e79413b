-- Each form that is written is read.
use Rattle.bl_text.proofs.RoundTripLemmas.{printed_statement}
use Rattle.bl_text.proofs.laws.statement_round_trip.Goals as goal

pub returns : goal.returns
returns c = λ s h. printed_statement s h
