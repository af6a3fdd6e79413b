-- The users so far were written.
use Rattle.std.proofs.Common.{◌≡◌, ◌++◌}
use Rattle.generated_script.specs.Script.{users_lines}
use Rattle.generated_script.proofs.script.put_users.Given as goal

abbrev pub invariant-loop-user : goal.invariant-loop-user
invariant-loop-user l = l.out ≡ l.fn.out ++ users_lines l.user
