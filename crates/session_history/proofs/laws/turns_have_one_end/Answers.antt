use Rattle.session_history.proofs.TurnLemmas.{turn_ends_once}
use Rattle.session_history.proofs.laws.turns_have_one_end.Goals as goal

pub returns : goal.returns
returns c = λ p before request clock first second given other lawful one calm two calm'. turn_ends_once p before request clock first second given other lawful one calm two calm'
