use Rattle.follower.proofs.AnswerLemmas.{one_answer}
use Rattle.follower.proofs.laws.answers_are_determined.Goals as goal

pub returns : goal.returns
returns g c = λ follower next other number payload taken told one another. one_answer g.E.Disk.faults follower number payload taken told next other one another
