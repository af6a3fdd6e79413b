-- The message is taken, and its line is written; or a call halts at it.
use Rattle.std.proofs.Common.{refl}
use Rattle.event_messages.proofs.MoreLemmas.{on_ok}
use Rattle.follow_run.proofs.StoreLemmas.{Took, AreAnswered-one, HaltsBy-unwritten, HaltsBy-stopped, HaltsBy-memory, by_both}
use Rattle.follow_run.proofs.taking.take_message.Goals as goal

pub returns-in-Stopped-clause-halts : goal.returns-in-Stopped-clause-halts
returns-in-Stopped-clause-halts g c = HaltsBy-stopped g.D.Disk.clock g.D.Disk.left_since g.D.Disk.image g.D.Disk.faults _ _ _ _ _ _ c.in-Stopped.is c.requires refl (record { answer = c.take-taken.ensures.answer; ready = c.take-taken.ensures.ready; current = c.take-taken.ensures.current; met = c.take-taken.ensures.met; met_at_rest = c.take-taken.ensures.met_at_rest; makes_ready = c.take-taken.ensures.makes_ready; first_never_falls = c.take-taken.ensures.first_never_falls; second_never_falls = c.take-taken.ensures.second_never_falls })

pub returns-in-NoMemory-clause-halts : goal.returns-in-NoMemory-clause-halts
returns-in-NoMemory-clause-halts g c = HaltsBy-memory g.D.Disk.clock g.D.Disk.left_since g.D.Disk.image g.D.Disk.faults _ _ _ _ _ _ c.in-NoMemory.is c.requires refl (record { answer = c.take-taken.ensures.answer; ready = c.take-taken.ensures.ready; current = c.take-taken.ensures.current; met = c.take-taken.ensures.met; met_at_rest = c.take-taken.ensures.met_at_rest; makes_ready = c.take-taken.ensures.makes_ready; first_never_falls = c.take-taken.ensures.first_never_falls; second_never_falls = c.take-taken.ensures.second_never_falls })

pub returns-in_default : goal.returns-in_default
returns-in_default g c =
    let took : Took g.D.Disk.clock g.D.Disk.left_since g.D.Disk.image g.D.Disk.faults c.args.store.now (record { number = c.args.number; payload = c.args.payload.now }) c.take-taken.result c.take-taken.new.store = record { answer = c.take-taken.ensures.answer; ready = c.take-taken.ensures.ready; current = c.take-taken.ensures.current; met = c.take-taken.ensures.met; met_at_rest = c.take-taken.ensures.met_at_rest; makes_ready = c.take-taken.ensures.makes_ready; first_never_falls = c.take-taken.ensures.first_never_falls; second_never_falls = c.take-taken.ensures.second_never_falls } in
    record {
      ok = on_ok c.write_answer.result (λ out. AreAnswered-one g.D.Disk.clock g.D.Disk.left_since g.D.Disk.image g.D.Disk.faults _ _ _ _ _ _ c.in_default.not-Stopped c.in_default.not-NoMemory took out) c.write_answer.ensures.ok;
      halts = by_both c.write_answer.result _ _ _ (λ how out met. HaltsBy-unwritten g.D.Disk.clock g.D.Disk.left_since g.D.Disk.image g.D.Disk.faults _ _ _ _ _ _ how c.in_default.not-Stopped c.in_default.not-NoMemory took out met) c.write_answer.ensures.out c.write_answer.ensures.met;
      risen = c.write_answer.ensures.risen;
      never_falls = c.write_answer.ensures.never_falls;
      steady = c.write_answer.ensures.steady;
      by_one = c.write_answer.ensures.by_one;
      broken = c.write_answer.ensures.broken;
    }
