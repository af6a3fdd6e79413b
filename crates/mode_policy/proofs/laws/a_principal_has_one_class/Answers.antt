use Rattle.std.proofs.Common.{sym, subst}
use Rattle.mode_policy.specs.declared.modes.Class.{Class}
use Rattle.mode_policy.specs.Allowed.{IsOfClass}
use Rattle.mode_policy.proofs.ClassLemmas.{class_of-is, class_of-same}
use Rattle.mode_policy.proofs.laws.a_principal_has_one_class.Goals as goal

pub returns : goal.returns
returns c = λ t f who class. (class_of-same t f who class, λ same. subst (λ (d : Class). IsOfClass t f who d) (sym same) (class_of-is t f who))
