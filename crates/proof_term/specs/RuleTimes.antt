-- The terms that a rule names.
use Rattle.bl_syntax.specs.Terms.{HasTimeInRange}
use Rattle.proof_term.specs.declared.rule.OnePremise.{OnePremise}
use Rattle.proof_term.specs.declared.rule.OnePremise.TheVariants.{OrR1, OrR2, ImpR, ForallR, ExistsR, SaysR, AtR, ConsL, InterL, AndL, ForallL, ExistsL, SaysL, Claim, AtL}
use Rattle.proof_term.specs.declared.rule.TwoPremises.{TwoPremises}
use Rattle.proof_term.specs.declared.rule.TwoPremises.TheVariants.{AndR, OrL, ImpL}

-- the time in the term of a rule lies in the range of moments
abbrev pub IsOneInRange : OnePremise → Type 0
IsOneInRange OrR1 = Unit {0}
IsOneInRange OrR2 = Unit {0}
IsOneInRange ImpR = Unit {0}
IsOneInRange ForallR = Unit {0}
IsOneInRange (ExistsR t) = HasTimeInRange t
IsOneInRange SaysR = Unit {0}
IsOneInRange AtR = Unit {0}
IsOneInRange (ConsL h) = Unit {0}
IsOneInRange (InterL h) = Unit {0}
IsOneInRange (AndL h) = Unit {0}
IsOneInRange (ForallL h t) = HasTimeInRange t
IsOneInRange (ExistsL h) = Unit {0}
IsOneInRange (SaysL h) = Unit {0}
IsOneInRange (Claim h) = Unit {0}
IsOneInRange (AtL h) = Unit {0}

-- the times in the terms of a rule lie in the range of moments
abbrev pub IsTwoInRange : TwoPremises → Type 0
IsTwoInRange AndR = Unit {0}
IsTwoInRange (OrL h) = Unit {0}
IsTwoInRange (ImpL h t1 t2) = HasTimeInRange t1 × HasTimeInRange t2
