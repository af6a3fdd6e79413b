-- How many turns a line takes (this project's own).
use Rattle.std.specs.Prelude.{ℕ, ◌+◌, ◌-◌, ◌^◌, ◌<◌, ◌≤◌}
use Rattle.line_wire.specs.declared.reply.LineReply.{LineReply}
use Rattle.line_wire.specs.declared.reply.LineReply.TheVariants as replies
use Rattle.session_history.specs.declared.task.LineTask.{LineTask}
use Rattle.session_history.specs.declared.task.LineTask.TheVariants as tasks

-- From one count of turns of a pass to a later one there were at least and at most so many. Counts
-- stand still at their end.
pub record CountsTurns (least most before after : ℕ) : Type 0 where
  pub at_least : after < 2 ^ 64 - 1 → before + least ≤ after
  pub at_most : after ≤ before + most

-- a reply comes of at least so many turns: of none if it may be given at once, or as memory ran out
abbrev pub least_turns : LineReply → ℕ
least_turns replies.Done = 1
least_turns (replies.Step reply) = 1
least_turns (replies.Checked g) = 0
least_turns (replies.Unproved fault) = 1
least_turns (replies.Faulty fault) = 0
least_turns replies.TooLong = 0
least_turns replies.NotLoggedIn = 0
least_turns replies.Checkpointed = 1
least_turns replies.Full = 1
least_turns replies.Stopped = 1
least_turns replies.NoMemory = 0

-- the least turns of a task that is replied so
abbrev pub task_turns : LineTask → LineReply → ℕ
task_turns (tasks.Reply answer) reply = 0
task_turns (tasks.Turn request) reply = least_turns reply
task_turns (tasks.Proof goal numbers proof) reply = least_turns reply
