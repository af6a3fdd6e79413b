-- Any second lies between the two infinities.
use Rattle.std.proofs.Common.{refl}
use Rattle.condition_set.proofs.WindowLemmas.{second_anywhere}
use Rattle.condition_set.proofs.time_window.has_second.Goals as goal

pub returns-in-NegInf-PosInf : goal.returns-in-NegInf-PosInf
returns-in-NegInf-PosInf c = (λ _. second_anywhere _ _ c.in-NegInf-PosInf.is-0 c.in-NegInf-PosInf.is-1, λ _. refl)
