-- What a checkpoint of the store says is told.
use Rattle.std.proofs.lemmas.Result.{IfOk-weaker}
use Rattle.pcfs_session.proofs.OutboxLemmas.{OnErr-weaker}
use Rattle.pcfs_session.proofs.StoredLemmas.{LeadsTo-checkpoint, same-checkpoint}
use Rattle.pcfs_session.proofs.interpreter.Interpreter.checkpoint.Goals as goal

pub returns-clause-ok : goal.returns-clause-ok
returns-clause-ok g c =
    IfOk-weaker c.reply_of_checkpoint.result _ _ (λ told is.
    LeadsTo-checkpoint g.D.Disk.clock g.D.Disk.left_since g.D.Disk.image g.D.Disk.faults _ c.args.self.now c.checkpoint-reply.new.self c.checkpoint-reply.result told c.self.view_is c.requires.running is
    (record {
      answer = c.checkpoint-reply.ensures.answer;
      stays_ready = c.checkpoint-reply.ensures.ready;
      stays_kept = c.checkpoint-reply.ensures.keeps;
      stays_current = c.checkpoint-reply.ensures.current;
      makes_ready = c.checkpoint-reply.ensures.makes_ready;
      any_moment = c.checkpoint-reply.ensures.any_moment;
      halts = c.checkpoint-reply.ensures.halts;
      halts_at_rest = c.checkpoint-reply.ensures.halts_at_rest;
      newest = c.checkpoint-reply.ensures.newest;
      first_told = c.checkpoint-reply.ensures.first_told;
      second_told = c.checkpoint-reply.ensures.second_told;
      first_never_falls = c.checkpoint-reply.ensures.first_never_falls;
      second_never_falls = c.checkpoint-reply.ensures.second_never_falls;
    })) c.reply_of_checkpoint.ensures.ok

pub returns-clause-err : goal.returns-clause-err
returns-clause-err g c =
    OnErr-weaker c.reply_of_checkpoint.result _ _ (λ is.
    same-checkpoint g.D.Disk.clock g.D.Disk.left_since g.D.Disk.image g.D.Disk.faults _ c.args.self.now c.checkpoint-reply.new.self c.checkpoint-reply.result c.self.view_is is c.checkpoint-reply.ensures.answer) c.reply_of_checkpoint.ensures.err
