use Rattle.script_replies.proofs.ScriptLemmas.{script_unbroken, script_written}
use Rattle.script_replies.proofs.laws.scripts_reply_unbroken.Goals as goal

pub returns : goal.returns
returns c = record { unbroken = script_unbroken; written = script_written }
