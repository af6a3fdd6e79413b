-- The messages that came whole are taken, piece by piece.
use Rattle.std.proofs.Common.{◌≡◌, ◌≤◌, length, take, Err, ap, ◌∙◌, refl, arith}
use Rattle.pcfs_ports.specs.Faults.{raise}
use Rattle.pcfs_session.proofs.TakenLemmas.{nothing_taken, IsShown-front, taken_shown, room_stays}
use Rattle.follow_run.proofs.StoreLemmas.{one_fault}
use Rattle.follow_run.proofs.EndLemmas.{EndsFollowing-unbegun, IsReading-start, running_now, IsReading-more, EndsFollowing-read_fault, EndsFollowing-too_long, EndsFollowing-piece, EndsFollowing-last}
use Rattle.follow_run.proofs.following.read_pieces.Goals as goal

pub loop-taken-init : goal.loop-taken-init
loop-taken-init g c = record {
  reading = IsReading-start g.D.Disk.clock g.D.Disk.left_since g.D.Disk.image g.D.Disk.faults _ _ _ c.requires.running c.new-reader.ensures;
  within = omega arith;
  room = c.in-Ok.ensures;
  read_steady = refl;
  write_steady = refl;
  write_never_falls = omega arith;
}

pub returns-in-Err-clause-ends : goal.returns-in-Err-clause-ends
returns-in-Err-clause-ends g c = EndsFollowing-unbegun g.D.Disk.clock g.D.Disk.left_since g.D.Disk.image g.D.Disk.faults _ _ c.requires.lawful _ _ c.requires.running refl refl refl refl

pub returns-in-Err-read_piece-clause-ends : goal.returns-in-Err-read_piece-clause-ends
returns-in-Err-read_piece-clause-ends g c =
    EndsFollowing-read_fault g.D.Disk.clock g.D.Disk.left_since g.D.Disk.image g.D.Disk.faults _ _ c.requires.lawful _ _ _ _ _ _ c.loop-taken.invariant.reading c.in-Err-read_piece.ensures.err
    (c.in-Err-read_piece.ensures.by_one ∙ ap raise c.loop-taken.invariant.read_steady, c.in-Err-read_piece.ensures.broken) c.loop-taken.invariant.write_steady

pub returns-then-count-eq0-clause-ends : goal.returns-then-count-eq0-clause-ends
returns-then-count-eq0-clause-ends g c =
    EndsFollowing-last g.D.Disk.clock g.D.Disk.left_since g.D.Disk.image g.D.Disk.faults _ _ c.requires.lawful _ _ _ _ _ _ _ c.loop-taken.invariant.reading
    (nothing_taken _ _ _ _ c.if-count-eq0.true c.in-Ok-read_piece.ensures.taken) (c.in-Ok-read_piece.ensures.end c.if-count-eq0.true)
    (c.in-Ok-read_piece.ensures.steady ∙ c.loop-taken.invariant.read_steady) c.loop-taken.invariant.write_steady c.end_of_input.ensures.none c.end_of_input.ensures.some

pub take_piece-requires-clause-running : goal.take_piece-requires-clause-running
take_piece-requires-clause-running g c = running_now g.D.Disk.clock g.D.Disk.left_since g.D.Disk.image g.D.Disk.faults _ _ _ _ _ _ _ c.loop-taken.invariant.reading

pub take_piece-requires-clause-bytes : goal.take_piece-requires-clause-bytes
take_piece-requires-clause-bytes g c = c.loop-taken.invariant.reading.bytes

pub take_piece-requires-clause-counted : goal.take_piece-requires-clause-counted
take_piece-requires-clause-counted g c =
    let fits : length c.read_piece.new.piece ≤ c.loop-taken.piece.len = omega (arith, c.loop-taken.piece.ok.0, c.deref_mut.ensures.len, c.read_piece.auto.piece) in
    let shown = IsShown-front c.in-Ok-read_piece.count c.loop-taken.piece.len c.read_piece.new.piece c.loop-taken.piece.items c.deref.result.now c.deref.ensures.value c.in-Ok-read_piece.ensures.bound fits in
    omega (arith, shown.len, c.in-Ok-read_piece.ensures.few, c.loop-taken.invariant.within, c.loop-taken.invariant.reading.place_is)

pub returns-in-Err-take_piece-clause-ends : goal.returns-in-Err-take_piece-clause-ends
returns-in-Err-take_piece-clause-ends g c =
    let fits : length c.read_piece.new.piece ≤ c.loop-taken.piece.len = omega (arith, c.loop-taken.piece.ok.0, c.deref_mut.ensures.len, c.read_piece.auto.piece) in
    let shown = IsShown-front c.in-Ok-read_piece.count c.loop-taken.piece.len c.read_piece.new.piece c.loop-taken.piece.items c.deref.result.now c.deref.ensures.value c.in-Ok-read_piece.ensures.bound fits in
    let small : length (take c.in-Ok-read_piece.count c.deref.result.now) ≤ 65536 = omega (arith, shown.len, c.in-Ok-read_piece.ensures.bound, fits, c.loop-taken.piece.ok.0, c.loop-taken.invariant.room) in
    EndsFollowing-piece g.D.Disk.clock g.D.Disk.left_since g.D.Disk.image g.D.Disk.faults _ _ c.requires.lawful _ _ _ _ _ _ _ _ _ c.loop-taken.invariant.reading _ (taken_shown _ _ _ _ _ shown c.in-Ok-read_piece.ensures.taken) small
    (c.in-Ok-read_piece.ensures.steady ∙ c.loop-taken.invariant.read_steady) (λ other. c.in-Err-take_piece.ensures.steady (λ is. other (one_fault _ _ _ refl is)) ∙ c.loop-taken.invariant.write_steady)
    (λ is. (c.in-Err-take_piece.ensures.by_one (ap Err is) ∙ ap raise c.loop-taken.invariant.write_steady, c.in-Err-take_piece.ensures.broken (ap Err is))) c.in-Err-take_piece.ensures.stops

pub loop-taken-preserved : goal.loop-taken-preserved
loop-taken-preserved g c =
    let fits : length c.read_piece.new.piece ≤ c.loop-taken.piece.len = omega (arith, c.loop-taken.piece.ok.0, c.deref_mut.ensures.len, c.read_piece.auto.piece) in
    let same : length c.read_piece.new.piece ≡ length c.loop-taken.piece.items = omega (arith, c.loop-taken.piece.ok.0, c.deref_mut.ensures.len, c.read_piece.auto.piece) in
    let shown = IsShown-front c.in-Ok-read_piece.count c.loop-taken.piece.len c.read_piece.new.piece c.loop-taken.piece.items c.deref.result.now c.deref.ensures.value c.in-Ok-read_piece.ensures.bound fits in
    record {
      reading =
          IsReading-more g.D.Disk.clock g.D.Disk.left_since g.D.Disk.image g.D.Disk.faults _ _ _ _ _ _ _ _ _ _ _ _ _ c.loop-taken.invariant.reading (taken_shown _ _ _ _ _ shown c.in-Ok-read_piece.ensures.taken) shown.len
          c.in-Ok-take_piece.ensures.ok c.in-Ok-take_piece.ensures.bytes_stay c.in-Ok-take_piece.ensures.as_many;
      within = omega (arith, c.in-Ok-read_piece.ensures.few);
      room = room_stays c.loop-taken.piece.len c.read_piece.new.piece c.loop-taken.piece.items same c.loop-taken.piece.ok.0 ∙ c.loop-taken.invariant.room;
      read_steady = c.in-Ok-read_piece.ensures.steady ∙ c.loop-taken.invariant.read_steady;
      write_steady = c.in-Ok-take_piece.ensures.steady (λ is. cc) ∙ c.loop-taken.invariant.write_steady;
      write_never_falls = omega (arith, c.in-Ok-take_piece.ensures.never_falls);
    }

pub returns-clause-ends : goal.returns-clause-ends
returns-clause-ends g c =
    let all : c.loop-taken.taken ≡ 1073741824 = omega arith in
    EndsFollowing-too_long g.D.Disk.clock g.D.Disk.left_since g.D.Disk.image g.D.Disk.faults _ _ c.requires.lawful _ _ _ _ _ c.loop-taken.invariant.reading all c.loop-taken.invariant.read_steady c.loop-taken.invariant.write_steady
