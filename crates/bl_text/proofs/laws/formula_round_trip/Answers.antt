-- Each form that is written is read.
use Rattle.bl_text.proofs.RoundTripLemmas.{printed_formula}
use Rattle.bl_text.proofs.laws.formula_round_trip.Goals as goal

pub returns : goal.returns
returns c = λ parameters f h. printed_formula parameters f h
