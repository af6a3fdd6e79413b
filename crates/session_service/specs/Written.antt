-- What an output holds of replies of which the last may be cut off. If the output does not tell
-- what it holds, nothing is said of that (this project's own).
use Rattle.std.specs.Prelude.{ℕ, ◌≤◌, List, length, Option}
use Rattle.pcfs_ports.specs.Observable.{HoldsSome}
use Rattle.line_wire.specs.declared.reply.LineReply.{LineReply}
use Rattle.line_wire.specs.ReplyText.{output_of}
use Rattle.session_history.specs.Output.{session_output}
use Rattle.session_loop.specs.Written.{but_last}

-- beside what it held, the output holds all replies but the last, and of the last some first part
pub record HoldsButLast (held held_after : Option (List ℕ)) (answers : List LineReply) : Type 0 where
  pub some : HoldsSome held held_after (output_of answers)
  pub earlier : length (output_of (but_last answers)) ≤ some.count

-- The same of a session's output: the greeting and all replies but the last, and of the last some
-- first part. If there is no reply, the greeting.
pub record HoldsUpToLast (nonce : List ℕ) (held held_after : Option (List ℕ)) (answers : List LineReply) : Type 0 where
  pub some : HoldsSome held held_after (session_output nonce answers)
  pub earlier : length (session_output nonce (but_last answers)) ≤ some.count
