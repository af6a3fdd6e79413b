use Rattle.script_replies.proofs.ImageLemmas.{area_unbroken}
use Rattle.script_replies.proofs.ScriptLemmas.{begins_unbroken}
use Rattle.script_replies.proofs.laws.scripts_begin_unbroken.Goals as goal

pub returns : goal.returns
returns c = record { fresh = begins_unbroken; areas = area_unbroken }
