-- Turns are counted.
use Rattle.std.proofs.Common.{◌≡◌, ℕ, ◌+◌, ◌≤◌, inl, inr, sym, subst, arith}
use Rattle.tree_lock.specs.Seen.{one_more}
use Rattle.line_wire.specs.declared.reply.LineReply.{LineReply}
use Rattle.line_wire.specs.declared.reply.LineReply.TheVariants as replies
use Rattle.session_history.specs.declared.task.LineTask.{LineTask}
use Rattle.session_history.specs.declared.task.LineTask.TheVariants as tasks
use Rattle.session_history.proofs.StopLemmas.{IsSaidAtOnce}
use Rattle.session_lines.specs.Turns.{CountsTurns, least_turns, task_turns}

-- no turn
pub no_turn : (most turns : ℕ) → CountsTurns 0 most turns turns
no_turn most turns = record { at_least = λ few. omega arith; at_most = omega arith }

-- no turn, as memory ran out
pub no_turns : (task : LineTask) (turns : ℕ) → CountsTurns (task_turns task replies.NoMemory) 2 turns turns
no_turns (tasks.Reply answer) turns = no_turn 2 turns
no_turns (tasks.Turn request) turns = no_turn 2 turns
no_turns (tasks.Proof goal numbers proof) turns = no_turn 2 turns

-- one turn
pub one_turn : (before after : ℕ) → after ≡ one_more before → CountsTurns 1 1 before after
one_turn before after is = record { at_least = λ few. omega (arith, is, few); at_most = omega (arith, is) }

-- at least as many as fewer, and at most as many as more
pub looser : (least fewer most more before after : ℕ) → fewer ≤ least → most ≤ more → CountsTurns least most before after → CountsTurns fewer more before after
looser least fewer most more before after low high c = record {
  at_least = λ few. omega (arith, low, c.at_least few);
  at_most = omega (arith, high, c.at_most);
}

-- some turns, and then some more
pub turns_then : (least more_least most more_most before mid after : ℕ) → CountsTurns least most before mid → CountsTurns more_least more_most mid after → CountsTurns (least + more_least) (most + more_most) before after
turns_then least more_least most more_most before mid after first next = record {
  at_least = λ few. let later = next.at_least few in let early = first.at_least (omega (arith, later, few)) in omega (arith, later, early);
  at_most = omega (arith, first.at_most, next.at_most);
}

-- no reply comes of more than one at least
pub few_turns : (reply : LineReply) → least_turns reply ≤ 1
few_turns replies.Done = omega arith
few_turns (replies.Step reply) = omega arith
few_turns (replies.Checked g) = omega arith
few_turns (replies.Unproved fault) = omega arith
few_turns (replies.Faulty fault) = omega arith
few_turns replies.TooLong = omega arith
few_turns replies.NotLoggedIn = omega arith
few_turns replies.Checkpointed = omega arith
few_turns replies.Full = omega arith
few_turns replies.Stopped = omega arith
few_turns replies.NoMemory = omega arith

-- what is said at once comes of none
pub none_at_once : (reply : LineReply) (turns : ℕ) → IsSaidAtOnce reply → CountsTurns (least_turns reply) 2 turns turns
none_at_once reply turns (inl is) = subst (λ (r : LineReply). CountsTurns (least_turns r) 2 turns turns) (sym is) (no_turn 2 turns)
none_at_once reply turns (inr bad) = subst (λ (r : LineReply). CountsTurns (least_turns r) 2 turns turns) (sym bad.1) (no_turn 2 turns)

-- a turn gives each reply
pub by_turn : (reply : LineReply) (before after : ℕ) → after ≡ one_more before → CountsTurns (least_turns reply) 2 before after
by_turn reply before after is = looser 1 (least_turns reply) 1 2 before after (few_turns reply) (omega arith) (one_turn before after is)

-- so do two
pub by_two_turns : (reply : LineReply) (before mid after : ℕ) → mid ≡ one_more before → after ≡ one_more mid → CountsTurns (least_turns reply) 2 before after
by_two_turns reply before mid after is also =
    let few = few_turns reply in looser 2 (least_turns reply) 2 2 before after (omega (arith, few)) (omega arith) (turns_then 1 1 1 1 before mid after (one_turn before mid is) (one_turn mid after also))
