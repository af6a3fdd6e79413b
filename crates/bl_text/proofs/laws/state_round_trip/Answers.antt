-- A predicate on the server's state is a form that is written.
use Rattle.bl_syntax.specs.Formula.{state}
use Rattle.bl_text.proofs.RoundTripLemmas.{printed_formula}
use Rattle.bl_text.proofs.laws.state_round_trip.Goals as goal

pub returns : goal.returns
returns c = λ parameters condition h. printed_formula parameters (state condition) h
