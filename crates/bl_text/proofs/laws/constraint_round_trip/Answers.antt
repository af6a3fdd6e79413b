-- A constraint is a form that is written.
use Rattle.bl_syntax.specs.Formula.{compare}
use Rattle.bl_text.proofs.RoundTripLemmas.{printed_formula}
use Rattle.bl_text.proofs.laws.constraint_round_trip.Goals as goal

pub returns : goal.returns
returns c = λ parameters condition h. printed_formula parameters (compare condition) h
