-- Each user adds its lines.
use Rattle.std.proofs.Common.{arith}
use Rattle.generated_script.proofs.ScriptLemmas.{all_users, no_users, user_more}
use Rattle.generated_script.proofs.script.put_users.Goals as goal

pub loop-user-init : goal.loop-user-init
loop-user-init c = no_users c.args.out.now

pub loop-user-preserved : goal.loop-user-preserved
loop-user-preserved c = user_more c.args.out.now c.loop-user.out c.put_root_lines.new.out c.loop-user.user c.loop-user.invariant c.in_ok-put_root_lines.ensures

pub returns : goal.returns
returns c = all_users c.args.out.now c.loop-user.out c.loop-user.user (omega arith) (omega arith) c.loop-user.invariant
