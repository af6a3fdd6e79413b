-- Each message that was taken is one more of the first messages.
use Rattle.std.proofs.Common.{refl, ap, arith, ◌∙◌}
use Rattle.pcfs_ports.specs.Faults.{raise}
use Rattle.follow_run.proofs.AnsweredLemmas.{IsTaking-start, running_now, IsTaking-taken, TakesAll-now, StopsWithin-bad, StopsWithin-halted}
use Rattle.follow_run.proofs.BoundLemmas.{IsFirst-read, fewer_after, bytes_after, as_many_after}
use Rattle.follow_run.proofs.taking.take_messages.Goals as goal

pub messages-init : goal.messages-init
messages-init g c = record {
  so_far = IsTaking-start g.D.Disk.clock g.D.Disk.left_since g.D.Disk.image g.D.Disk.faults _ _ _ c.requires.running;
  bytes = c.requires.bytes;
  as_many = refl;
  never_falls = omega arith;
  steady = refl;
}

pub returns-in-Ok-None-clause-ok : goal.returns-in-Ok-None-clause-ok
returns-in-Ok-None-clause-ok g c =
    let may_go_on = rw c.in-Ok-None.field-0-is at c.in-Ok-None.ensures.ok in
    TakesAll-now g.D.Disk.clock g.D.Disk.left_since g.D.Disk.image g.D.Disk.faults _ _ _ _ _ _ c.messages.invariant.so_far may_go_on

pub returns-in-Err-clause-stops : goal.returns-in-Err-clause-stops
returns-in-Err-clause-stops g c =
    StopsWithin-bad g.D.Disk.clock g.D.Disk.left_since g.D.Disk.image g.D.Disk.faults _ _ _ _ _ _ _ _ c.messages.invariant.so_far c.in-Err.ensures.err (omega (arith, c.place.ensures, c.messages.invariant.as_many))

pub take_message-requires : goal.take_message-requires
take_message-requires g c = running_now g.D.Disk.clock g.D.Disk.left_since g.D.Disk.image g.D.Disk.faults _ _ _ _ _ _ c.messages.invariant.so_far

pub returns-in-Err-take_message-clause-stops : goal.returns-in-Err-take_message-clause-stops
returns-in-Err-take_message-clause-stops g c =
    let begins = rw c.in-Ok-Some.field-0-is at c.in-Ok-Some.ensures.ok in
    let first = IsFirst-read _ begins.rest _ c.messages.invariant.bytes begins.read in
    StopsWithin-halted g.D.Disk.clock g.D.Disk.left_since g.D.Disk.image g.D.Disk.faults _ _ _ _ _ _ _ _ _ _ _ _ c.messages.invariant.so_far first c.in-Err-take_message.ensures.halts

pub returns-in-Err-take_message-clause-steady : goal.returns-in-Err-take_message-clause-steady
returns-in-Err-take_message-clause-steady g c other = c.in-Err-take_message.ensures.steady other ∙ c.messages.invariant.steady

pub returns-in-Err-take_message-clause-by_one : goal.returns-in-Err-take_message-clause-by_one
returns-in-Err-take_message-clause-by_one g c is = c.in-Err-take_message.ensures.by_one is ∙ ap raise c.messages.invariant.steady

pub messages-smaller : goal.messages-smaller
messages-smaller g c =
    let begins = rw c.in-Ok-Some.field-0-is at c.in-Ok-Some.ensures.ok in
    let first = IsFirst-read _ begins.rest _ c.messages.invariant.bytes begins.read in
    fewer_after _ _ _ _ first (c.take_next.ensures.taken _ _ begins.read)

pub messages-preserved : goal.messages-preserved
messages-preserved g c =
    let begins = rw c.in-Ok-Some.field-0-is at c.in-Ok-Some.ensures.ok in
    let first = IsFirst-read _ begins.rest _ c.messages.invariant.bytes begins.read in
    let taken = c.take_next.ensures.taken _ _ begins.read in
    record {
      so_far = IsTaking-taken g.D.Disk.clock g.D.Disk.left_since g.D.Disk.image g.D.Disk.faults _ _ _ _ _ _ _ _ _ _ _ c.messages.invariant.so_far first taken c.in-Ok.ensures.ok;
      bytes = bytes_after _ _ _ _ first taken c.messages.invariant.bytes;
      as_many = as_many_after _ _ _ _ first taken (omega (arith, c.requires.counted, c.messages.invariant.as_many)) ∙ c.messages.invariant.as_many;
      never_falls = omega (arith, c.in-Ok.ensures.never_falls);
      steady = c.in-Ok.ensures.steady (λ is. cc) ∙ c.messages.invariant.steady;
    }
