-- Conditions that hold at no second hold at none that is asked for.
use Rattle.std.proofs.lemmas.Bool.{false≢true}
use Rattle.client_home.proofs.passes.Pass.holds_at.Goals as goal

pub returns-in-None : goal.returns-in-None
returns-in-None c = ((λ h. absurd (false≢true h)), (λ h. absurd (c.in-None.ensures c.args.second h)))
