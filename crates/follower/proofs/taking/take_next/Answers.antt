-- The event is admitted or not; other bytes are no event.
use Rattle.std.proofs.Common.{sym, subst}
use Rattle.follower.specs.declared.taking.Taken.{Taken}
use Rattle.follower.specs.Taking.{Taking}
use Rattle.follower.proofs.TakingLemmas.{taken_by, unread_taken}
use Rattle.follower.proofs.taking.take_next.Goals as goal

pub returns-in-Ok : goal.returns-in-Ok
returns-in-Ok g c =
    subst (λ (t : Taken). Taking g.D.Disk.clock g.D.Disk.left_since g.D.Disk.image g.D.Disk.faults c.args.store.now c.args.number c.args.payload.now t c.admit.new.self) (sym c.taken_of.ensures)
    (taken_by g.D.Disk.clock g.D.Disk.left_since g.D.Disk.image g.D.Disk.faults c.args.store.now c.args.number c.args.payload.now c.in-Ok.event
    (record { read = c.in-Ok.ensures.whole.found.0; spelled = c.in-Ok.ensures.whole.found.1 }) c.requires.next c.requires.running c.admit.result c.admit.new.self
    (record {
      answer = c.admit.ensures.answer;
      stays_ready = c.admit.ensures.ready;
      stays_kept = c.admit.ensures.keeps;
      stays_current = c.admit.ensures.current;
      makes_ready = c.admit.ensures.makes_ready;
      any_moment = c.admit.ensures.any_moment;
      met = c.admit.ensures.met;
      met_at_rest = c.admit.ensures.met_at_rest;
      first_told = c.admit.ensures.first_told;
      second_told = c.admit.ensures.second_told;
      first_never_falls = c.admit.ensures.first_never_falls;
      second_never_falls = c.admit.ensures.second_never_falls;
    }))

pub returns-in-Err : goal.returns-in-Err
returns-in-Err g c =
    unread_taken g.D.Disk.clock g.D.Disk.left_since g.D.Disk.image g.D.Disk.faults c.args.store.now c.args.number c.args.payload.now c.in-Err.fault c.unread.result
    c.lemma_is_store.ensures c.requires.running c.requires.next c.unread.ensures.memory c.unread.ensures.damaged c.in-Err.ensures.whole
