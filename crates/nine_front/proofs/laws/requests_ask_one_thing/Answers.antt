use Rattle.nine_front.proofs.OneLemmas.{asked_by_once, turn_once, reply_once}
use Rattle.nine_front.proofs.laws.requests_ask_one_thing.Goals as goal

pub returns-clause-asked : goal.returns-clause-asked
returns-clause-asked c = λ s m asked other one two. asked_by_once s m asked other one two

pub returns-clause-turn : goal.returns-clause-turn
returns-clause-turn c = λ s m step request other one two. turn_once s m step request other one two

pub returns-clause-told : goal.returns-clause-told
returns-clause-told c = λ count replied reply other one two. reply_once count replied reply other one two
