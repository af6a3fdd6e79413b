use Rattle.nine_messages.proofs.ReplyLemmas.{replies_apart}
use Rattle.nine_messages.proofs.laws.replies_are_apart.Goals as goal

pub returns : goal.returns
returns c = λ tag other_tag r s rest others first second e. replies_apart tag other_tag r s rest others first second e
