-- Rules by whether they name terms.
use Rattle.std.specs.Prelude.{ℕ, Bool, ◌==◌, ◌||◌}
use Rattle.proof_term.specs.declared.rule.Rule.{Rule}
use Rattle.proof_term.specs.declared.rule.Rule.TheVariants.{Axiom, One, Two}
use Rattle.proof_term.specs.declared.rule.OnePremise.{OnePremise}
use Rattle.proof_term.specs.declared.rule.OnePremise.TheVariants as ones
use Rattle.proof_term.specs.declared.rule.TwoPremises.{TwoPremises}
use Rattle.proof_term.specs.declared.rule.TwoPremises.TheVariants as twos
use Rattle.proof_term.specs.declared.kinds.Plain.{Plain}
use Rattle.proof_term.specs.declared.kinds.Plain.TheVariants as plain
use Rattle.proof_term.specs.declared.kinds.PlainOne.{PlainOne}
use Rattle.proof_term.specs.declared.kinds.PlainOne.TheVariants as plain_ones
use Rattle.proof_term.specs.declared.kinds.PlainTwo.{PlainTwo}
use Rattle.proof_term.specs.declared.kinds.PlainTwo.TheVariants as plain_twos
use Rattle.proof_term.specs.declared.kinds.Termed.{Termed}
use Rattle.proof_term.specs.declared.kinds.Termed.TheVariants as termed

-- the tag of a rule that names terms
abbrev pub has_terms : ℕ → Bool
has_terms tag = tag == 0x0a || tag == 0x16 || tag == 0x17

abbrev pub one_rule : PlainOne → OnePremise
one_rule plain_ones.OrR1 = ones.OrR1
one_rule plain_ones.OrR2 = ones.OrR2
one_rule plain_ones.ImpR = ones.ImpR
one_rule plain_ones.ForallR = ones.ForallR
one_rule plain_ones.SaysR = ones.SaysR
one_rule plain_ones.AtR = ones.AtR
one_rule (plain_ones.ConsL h) = ones.ConsL h
one_rule (plain_ones.InterL h) = ones.InterL h
one_rule (plain_ones.AndL h) = ones.AndL h
one_rule (plain_ones.ExistsL h) = ones.ExistsL h
one_rule (plain_ones.SaysL h) = ones.SaysL h
one_rule (plain_ones.Claim h) = ones.Claim h
one_rule (plain_ones.AtL h) = ones.AtL h

abbrev pub two_rule : PlainTwo → TwoPremises
two_rule plain_twos.AndR = twos.AndR
two_rule (plain_twos.OrL h) = twos.OrL h

abbrev pub plain_rule : Plain → Rule
plain_rule (plain.Axiom r) = Axiom r
plain_rule (plain.One r) = One (one_rule r)
plain_rule (plain.Two r) = Two (two_rule r)

abbrev pub termed_rule : Termed → Rule
termed_rule (termed.ExistsR t) = One (ones.ExistsR t)
termed_rule (termed.ForallL h t) = One (ones.ForallL h t)
termed_rule (termed.ImpL h t1 t2) = Two (twos.ImpL h t1 t2)
