-- Each line that was answered and taken is one more of the first lines.
use Rattle.std.proofs.Common.{refl, ap, ◌∙◌, arith}
use Rattle.line_framer.specs.Framing.{FramerState}
use Rattle.pcfs_session.proofs.AnsweredLemmas.{IsAnswering-start, IsAnswering-taken, AnswersHeld-all, HaltsWithin-at, lawful_on, runs_on}
use Rattle.pcfs_ports.specs.Faults.{raise}
use Rattle.pcfs_session.proofs.StillLemmas.{halt_then}
use Rattle.pcfs_session.proofs.TakenLemmas.{fewer_left}
use Rattle.pcfs_session.proofs.answering.answer_held.Goals as goal

pub loop-line-init : goal.loop-line-init
loop-line-init g c = record {
  so_far = IsAnswering-start g.D.Disk.clock g.D.Disk.left_since g.D.Disk.image g.D.Disk.faults _ _ _ _ c.requires.running;
  few = c.requires.few;
  long_stays = refl;
  steady = refl;
  never_falls = omega arith;
}

pub answer_line-requires-clause-lawful : goal.answer_line-requires-clause-lawful
answer_line-requires-clause-lawful g c = lawful_on g.D.Disk.clock g.D.Disk.left_since g.D.Disk.image g.D.Disk.faults _ _ _ _ c.requires.lawful c.loop-line.invariant.so_far.answered.was

pub answer_line-requires-clause-running : goal.answer_line-requires-clause-running
answer_line-requires-clause-running g c = runs_on g.D.Disk.clock g.D.Disk.left_since g.D.Disk.image g.D.Disk.faults _ _ _ _ c.loop-line.invariant.so_far.answered.was

pub returns-in-Err-clause-halts : goal.returns-in-Err-clause-halts
returns-in-Err-clause-halts g c =
    HaltsWithin-at g.D.Disk.clock g.D.Disk.left_since g.D.Disk.image g.D.Disk.faults _ _ _ _ _ _ _ _ _ c.in-Some.ensures.line.0 _ _ _ c.in-Err.halt c.loop-line.invariant.so_far c.in-Some.ensures.line.1 c.in-Some.ensures.few c.in-Err.ensures.halts

pub loop-line-smaller : goal.loop-line-smaller
loop-line-smaller g c = fewer_left _ _ _ _ c.in-Some.ensures.line.1 (c.take_line.ensures.taken _ _ c.in-Some.ensures.line.1)

pub loop-line-preserved : goal.loop-line-preserved
loop-line-preserved g c =
    let next = c.take_line.ensures.taken _ _ c.in-Some.ensures.line.1 in
    record {
      so_far =
          IsAnswering-taken g.D.Disk.clock g.D.Disk.left_since g.D.Disk.image g.D.Disk.faults _ _ _ _ _ _ _ _ _ c.in-Some.ensures.line.0 _ _ _ _ c.loop-line.invariant.so_far c.in-Some.ensures.line.1 c.in-Some.ensures.few next c.in-Ok.ensures.ok;
      few = c.in-Ok.ensures.few;
      long_stays = ap (λ (f : FramerState). f.is_long) next ∙ c.loop-line.invariant.long_stays;
      steady = c.in-Ok.ensures.steady ∙ c.loop-line.invariant.steady;
      never_falls = omega (arith, c.in-Ok.ensures.never_falls);
    }

pub returns-clause-ok : goal.returns-clause-ok
returns-clause-ok g c = AnswersHeld-all g.D.Disk.clock g.D.Disk.left_since g.D.Disk.image g.D.Disk.faults _ _ _ _ _ _ _ _ c.loop-line.invariant.so_far c.in_default.ensures.line

pub returns-in-Err-clause-steady_halt : goal.returns-in-Err-clause-steady_halt
returns-in-Err-clause-steady_halt g c = halt_then c.in-Err.halt _ _ _ c.loop-line.invariant.steady c.in-Err.ensures.steady_halt

pub returns-in-Err-clause-by_one : goal.returns-in-Err-clause-by_one
returns-in-Err-clause-by_one g c is = c.in-Err.ensures.by_one is ∙ ap raise c.loop-line.invariant.steady

pub returns-in-Err-clause-broken : goal.returns-in-Err-clause-broken
returns-in-Err-clause-broken g c is = c.in-Err.ensures.broken is
