-- The store makes a checkpoint, which is a turn over its entries.
use Rattle.std.proofs.Common.{◌≡◌, subst}
use Rattle.session_history.specs.declared.request.TurnRequest.TheVariants.{Checkpoint}
use Rattle.shared_store.specs.OpenedView.{OpenedView}
use Rattle.shared_store.specs.Turning.{HasTurned}
use Rattle.shared_store.proofs.GoesOnLemmas.{goes_on_checkpoint}
use Rattle.shared_store.proofs.TurningLemmas.{turned_by_checkpoint}
use Rattle.shared_store.proofs.opened.OpenedStore.checkpoint.Goals as goal

pub invariant_of-self : goal.invariant_of-self
invariant_of-self g c =
    goes_on_checkpoint g.D.Disk.clock g.D.Disk.left_since g.D.Disk.image g.D.Disk.faults c.self.inside.opening.value c.self.inside.store c.checkpoint-reply.new.self c.args.pass c.checkpoint-reply.result c.self.invariant
    (record {
      answer = c.checkpoint-reply.ensures.answer;
      stays_ready = c.checkpoint-reply.ensures.ready;
      stays_kept = c.checkpoint-reply.ensures.keeps;
      stays_current = c.checkpoint-reply.ensures.current;
      makes_ready = c.checkpoint-reply.ensures.makes_ready;
      any_moment = c.checkpoint-reply.ensures.any_moment;
      halts = c.checkpoint-reply.ensures.halts;
      halts_at_rest = c.checkpoint-reply.ensures.halts_at_rest;
      newest = c.checkpoint-reply.ensures.newest;
      first_told = c.checkpoint-reply.ensures.first_told;
      second_told = c.checkpoint-reply.ensures.second_told;
      first_never_falls = c.checkpoint-reply.ensures.first_never_falls;
      second_never_falls = c.checkpoint-reply.ensures.second_never_falls;
    })

pub returns : goal.returns
returns g c = λ clock.
    subst (λ (s : OpenedView _). HasTurned g.D.Disk.faults (λ _ moment. moment ≡ clock) Checkpoint s c.args.pass (record { store = c.checkpoint-reply.new.self; opening = c.self.inside.opening.value }) c.reply_of_checkpoint.result) c.self.view_is
    (turned_by_checkpoint g.D.Disk.clock g.D.Disk.left_since g.D.Disk.image g.D.Disk.faults c.self.inside.opening.value c.self.inside.store c.checkpoint-reply.new.self c.args.pass clock c.checkpoint-reply.result c.reply_of_checkpoint.result c.self.invariant c.lemma_is_store.ensures
    c.checkpoint-reply.ensures.answer c.reply_of_checkpoint.ensures)
