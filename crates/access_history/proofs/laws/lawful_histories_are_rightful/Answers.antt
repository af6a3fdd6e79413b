use Rattle.access_history.proofs.HeadlineLemmas.{Headline-lawful}
use Rattle.access_history.proofs.laws.lawful_histories_are_rightful.Goals as goal

pub returns : goal.returns
returns c = Headline-lawful
