-- The line's task is done.
use Rattle.std.proofs.Common.{refl, ap, ◌∙◌, subst, Option}
use Rattle.std.specs.Prelude.{ℕ, List}
use Rattle.session_history.specs.declared.task.LineTask.TheVariants as tasks
use Rattle.session_history.specs.SessionState.{SessionState}
use Rattle.session_history.specs.Tasks.{IsTaskOf}
use Rattle.session_history.proofs.StopLemmas.{said_at_once, not_stopped_at_once}
use Rattle.session_lines.proofs.DoneLemmas.{done_at_once, done_turn, replied_without_memory}
use Rattle.session_lines.proofs.ReplyLemmas.{state_turn}
use Rattle.session_lines.proofs.TurnCountLemmas.{none_at_once, by_turn}
use Rattle.session_lines.proofs.answering.answer_line.Goals as goal

abbrev state : List ℕ → Option (List ℕ) → SessionState
state nonce caller = record { nonce = nonce; caller = caller }

pub returns-in-Ok-Reply-clause-replied : goal.returns-in-Ok-Reply-clause-replied
returns-in-Ok-Reply-clause-replied g c = record {
  task = tasks.Reply c.in-Ok-Reply.reply;
  is_task = subst (IsTaskOf (state c.args.nonce.now c.args.caller.now) c.args.line.now) c.in-Ok-Reply.field-0-is c.in-Ok-Reply.ensures.ok;
  after_is = refl;
  done = done_at_once (g.C.TurnClock.gives c.args.clock.now) c.args.pass.now c.in-Ok-Reply.reply;
  turns =
      let task = subst (IsTaskOf (state c.args.nonce.now c.args.caller.now) c.args.line.now) c.in-Ok-Reply.field-0-is c.in-Ok-Reply.ensures.ok in
      none_at_once c.in-Ok-Reply.reply c.args.pass.now.turns (said_at_once (state c.args.nonce.now c.args.caller.now) c.args.line.now (tasks.Reply c.in-Ok-Reply.reply) c.in-Ok-Reply.reply task refl);
}

-- a reply at once is none of a store
pub returns-in-Ok-Reply-clause-stopped : goal.returns-in-Ok-Reply-clause-stopped
returns-in-Ok-Reply-clause-stopped g c = λ is.
    let task = subst (IsTaskOf (state c.args.nonce.now c.args.caller.now) c.args.line.now) c.in-Ok-Reply.field-0-is c.in-Ok-Reply.ensures.ok in
    absurd (not_stopped_at_once c.in-Ok-Reply.reply (said_at_once (state c.args.nonce.now c.args.caller.now) c.args.line.now (tasks.Reply c.in-Ok-Reply.reply) c.in-Ok-Reply.reply task refl) is)

pub returns-in-Ok-Turn-clause-replied : goal.returns-in-Ok-Turn-clause-replied
returns-in-Ok-Turn-clause-replied g c = record {
  task = tasks.Turn c.in-Ok-Turn.request;
  is_task = subst (IsTaskOf (state c.args.nonce.now c.args.caller.now) c.args.line.now) c.in-Ok-Turn.field-0-is c.in-Ok-Turn.ensures.ok;
  after_is = ap (state c.args.nonce.now) c.answer_in_turn.ensures.caller ∙ state_turn (state c.args.nonce.now c.args.caller.now) c.in-Ok-Turn.request c.answer_in_turn.result;
  done = done_turn (g.C.TurnClock.gives c.args.clock.now) c.args.pass.now c.answer_in_turn.new.pass c.in-Ok-Turn.request c.answer_in_turn.result c.answer_in_turn.ensures.told;
  turns = by_turn c.answer_in_turn.result c.args.pass.now.turns c.answer_in_turn.new.pass.turns c.answer_in_turn.ensures.told.asked.turns;
}

pub returns-in-Ok-Proof-clause-replied : goal.returns-in-Ok-Proof-clause-replied
returns-in-Ok-Proof-clause-replied g c = record {
  task = tasks.Proof c.in-Ok-Proof.goal c.in-Ok-Proof.numbers c.in-Ok-Proof.proof;
  is_task = subst (IsTaskOf (state c.args.nonce.now c.args.caller.now) c.args.line.now) c.in-Ok-Proof.field-0-is c.in-Ok-Proof.ensures.ok;
  after_is = refl;
  done = c.prove.ensures.done;
  turns = c.prove.ensures.done.turns;
}

pub returns-in-Err-clause-replied : goal.returns-in-Err-clause-replied
returns-in-Err-clause-replied g c = replied_without_memory (g.C.TurnClock.gives c.args.clock.now) (state c.args.nonce.now c.args.caller.now) c.args.line.now c.args.pass.now
