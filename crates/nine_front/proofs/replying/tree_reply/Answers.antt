use Rattle.file_world.specs.declared.reply.TreeReply.TheVariants as trees
use Rattle.file_world.specs.declared.reply.OpReply.TheVariants as replies_of_operations
use Rattle.access_history.specs.declared.reply.StepReply.TheVariants as step_replies
use Rattle.nine_front.proofs.ShortLemmas.{step_text_fits}
use Rattle.nine_front.proofs.replying.tree_reply.Goals as goal

pub returns-in-Node-clause-writable : goal.returns-in-Node-clause-writable
returns-in-Node-clause-writable c = λ nonce. step_text_fits (step_replies.Operation (replies_of_operations.Tree (trees.Node c.in-Node.node))) tt tt
