-- The lines that came with their ends are answered, piece by piece.
use Rattle.std.proofs.Common.{◌≡◌, ◌≤◌, length, take, [], Err, ap, ◌∙◌, refl, arith}
use Rattle.pcfs_ports.specs.Faults.{raise}
use Rattle.pcfs_session.proofs.StillLemmas.{NothingFailedBefore-then}
use Rattle.line_framer.specs.Framing.{FramerState}
use Rattle.pcfs_session.proofs.ScriptEndsLemmas.{AnswersScript-unbegun, IsReading-start, running_now, lawful_now, IsReading-more, AnswersScript-read_fault, AnswersScript-too_long, AnswersScript-piece, AnswersScript-last}
use Rattle.pcfs_session.proofs.StoredLemmas.{HasRisen-earlier}
use Rattle.pcfs_session.proofs.TakenLemmas.{nothing_taken, IsShown-front, taken_shown, room_stays}
use Rattle.pcfs_session.proofs.script.read_pieces.Goals as goal

pub loop-taken-init : goal.loop-taken-init
loop-taken-init g c = record {
  reading = IsReading-start g.D.Disk.clock g.D.Disk.left_since g.D.Disk.image g.D.Disk.faults _ _ _ c.requires.running (ap (λ (f : FramerState). f.left) c.new-framer.ensures);
  not_long = ap (λ (f : FramerState). f.is_long) c.new-framer.ensures;
  nothing_waits = c.new-collected.ensures;
  within = omega arith;
  room = c.in-Ok.ensures;
  read_steady = refl;
  write_steady = refl;
  read_never_falls = omega arith;
  write_never_falls = omega arith;
}

pub returns-in-Err-clause-ends : goal.returns-in-Err-clause-ends
returns-in-Err-clause-ends g c = AnswersScript-unbegun g.D.Disk.clock g.D.Disk.left_since g.D.Disk.image g.D.Disk.faults _ _ _ _ c.requires.lawful c.requires.running refl refl

pub returns-in-Err-read_piece-clause-ends : goal.returns-in-Err-read_piece-clause-ends
returns-in-Err-read_piece-clause-ends g c =
    AnswersScript-read_fault g.D.Disk.clock g.D.Disk.left_since g.D.Disk.image g.D.Disk.faults _ _ _ c.requires.lawful _ _ _ _ _ c.loop-taken.invariant.reading c.in-Err-read_piece.ensures.err
    (HasRisen-earlier _ _ _ c.loop-taken.invariant.read_never_falls c.in-Err-read_piece.ensures.risen)

pub answer_last-requires-clause-lawful : goal.answer_last-requires-clause-lawful
answer_last-requires-clause-lawful g c = lawful_now g.D.Disk.clock g.D.Disk.left_since g.D.Disk.image g.D.Disk.faults _ _ _ _ _ _ _ c.requires.lawful c.loop-taken.invariant.reading

pub answer_last-requires-clause-running : goal.answer_last-requires-clause-running
answer_last-requires-clause-running g c = running_now g.D.Disk.clock g.D.Disk.left_since g.D.Disk.image g.D.Disk.faults _ _ _ _ _ _ _ c.loop-taken.invariant.reading

pub answer_last-requires-clause-one : goal.answer_last-requires-clause-one
answer_last-requires-clause-one g c = c.loop-taken.invariant.reading.is_open.one

pub returns-then-count-eq0-clause-ends : goal.returns-then-count-eq0-clause-ends
returns-then-count-eq0-clause-ends g c =
    AnswersScript-last g.D.Disk.clock g.D.Disk.left_since g.D.Disk.image g.D.Disk.faults _ _ _ c.requires.lawful _ _ _ _ [] _ _ _ c.loop-taken.invariant.reading _
    (nothing_taken _ _ _ _ c.if-count-eq0.true c.in-Ok-read_piece.ensures.taken) (c.in-Ok-read_piece.ensures.end c.if-count-eq0.true)
    (λ is. HasRisen-earlier _ _ _ c.loop-taken.invariant.write_never_falls (c.answer_last.ensures.risen is)) c.answer_last.ensures.ends

pub answer_piece-requires-clause-lawful : goal.answer_piece-requires-clause-lawful
answer_piece-requires-clause-lawful g c = lawful_now g.D.Disk.clock g.D.Disk.left_since g.D.Disk.image g.D.Disk.faults _ _ _ _ _ _ _ c.requires.lawful c.loop-taken.invariant.reading

pub answer_piece-requires-clause-running : goal.answer_piece-requires-clause-running
answer_piece-requires-clause-running g c = running_now g.D.Disk.clock g.D.Disk.left_since g.D.Disk.image g.D.Disk.faults _ _ _ _ _ _ _ c.loop-taken.invariant.reading

pub returns-in-Err-answer_piece-clause-ends : goal.returns-in-Err-answer_piece-clause-ends
returns-in-Err-answer_piece-clause-ends g c =
    let fits : length c.read_piece.new.piece ≤ c.loop-taken.piece.len = omega (arith, c.loop-taken.piece.ok.0, c.deref_mut.ensures.len, c.read_piece.auto.piece) in
    let shown = IsShown-front c.in-Ok-read_piece.count c.loop-taken.piece.len c.read_piece.new.piece c.loop-taken.piece.items c.deref.result.now c.deref.ensures.value c.in-Ok-read_piece.ensures.bound fits in
    let small : length (take c.in-Ok-read_piece.count c.deref.result.now) ≤ 65536 = omega (arith, shown.len, c.in-Ok-read_piece.ensures.bound, fits, c.loop-taken.piece.ok.0, c.loop-taken.invariant.room) in
    AnswersScript-piece g.D.Disk.clock g.D.Disk.left_since g.D.Disk.image g.D.Disk.faults _ _ _ c.requires.lawful _ _ _ _ _ _ _ _ c.loop-taken.invariant.reading _ (taken_shown _ _ _ _ _ shown c.in-Ok-read_piece.ensures.taken) small
    (λ is. HasRisen-earlier _ _ _ c.loop-taken.invariant.write_never_falls (c.in-Err-answer_piece.ensures.risen (ap Err is))) c.in-Err-answer_piece.ensures.ends

pub loop-taken-preserved : goal.loop-taken-preserved
loop-taken-preserved g c =
    let fits : length c.read_piece.new.piece ≤ c.loop-taken.piece.len = omega (arith, c.loop-taken.piece.ok.0, c.deref_mut.ensures.len, c.read_piece.auto.piece) in
    let same : length c.read_piece.new.piece ≡ length c.loop-taken.piece.items = omega (arith, c.loop-taken.piece.ok.0, c.deref_mut.ensures.len, c.read_piece.auto.piece) in
    let shown = IsShown-front c.in-Ok-read_piece.count c.loop-taken.piece.len c.read_piece.new.piece c.loop-taken.piece.items c.deref.result.now c.deref.ensures.value c.in-Ok-read_piece.ensures.bound fits in
    record {
      reading = IsReading-more g.D.Disk.clock g.D.Disk.left_since g.D.Disk.image g.D.Disk.faults _ _ _ _ _ _ _ _ _ _ _ _ _ c.loop-taken.invariant.reading (taken_shown _ _ _ _ _ shown c.in-Ok-read_piece.ensures.taken) shown.len c.in-Ok-answer_piece.ensures.ok c.in-Ok-answer_piece.ensures.few;
      not_long = c.in-Ok-answer_piece.ensures.stays_so;
      nothing_waits = c.in-Ok-answer_piece.ensures.empty;
      within = omega (arith, c.in-Ok-read_piece.ensures.few);
      room = room_stays c.loop-taken.piece.len c.read_piece.new.piece c.loop-taken.piece.items same c.loop-taken.piece.ok.0 ∙ c.loop-taken.invariant.room;
      read_steady = c.in-Ok-read_piece.ensures.steady ∙ c.loop-taken.invariant.read_steady;
      write_steady = c.in-Ok-answer_piece.ensures.steady ∙ c.loop-taken.invariant.write_steady;
      read_never_falls = omega (arith, c.in-Ok-read_piece.ensures.never_falls);
      write_never_falls = omega (arith, c.in-Ok-answer_piece.ensures.never_falls);
    }

pub returns-clause-ends : goal.returns-clause-ends
returns-clause-ends g c =
    let all : c.loop-taken.taken ≡ 1073741824 = omega arith in
    AnswersScript-too_long g.D.Disk.clock g.D.Disk.left_since g.D.Disk.image g.D.Disk.faults _ _ _ c.requires.lawful _ _ _ _ c.loop-taken.invariant.reading all

pub returns-in-Err-clause-steady : goal.returns-in-Err-clause-steady
returns-in-Err-clause-steady g c = record { input = refl; output = refl }

pub returns-in-Err-read_piece-clause-steady : goal.returns-in-Err-read_piece-clause-steady
returns-in-Err-read_piece-clause-steady g c = record { input = tt; output = c.loop-taken.invariant.write_steady }

pub returns-then-count-eq0-clause-steady : goal.returns-then-count-eq0-clause-steady
returns-then-count-eq0-clause-steady g c =
    NothingFailedBefore-then _ _ _ _ (c.in-Ok-read_piece.ensures.steady ∙ c.loop-taken.invariant.read_steady) c.loop-taken.invariant.write_steady c.answer_last.ensures.steady

pub returns-in-Err-answer_piece-clause-steady : goal.returns-in-Err-answer_piece-clause-steady
returns-in-Err-answer_piece-clause-steady g c =
    NothingFailedBefore-then _ _ _ _ (c.in-Ok-read_piece.ensures.steady ∙ c.loop-taken.invariant.read_steady) c.loop-taken.invariant.write_steady c.in-Err-answer_piece.ensures.steady_end

pub returns-clause-steady : goal.returns-clause-steady
returns-clause-steady g c = record { input = c.loop-taken.invariant.read_steady; output = c.loop-taken.invariant.write_steady }

pub returns-in-Err-read_piece-clause-read_failed : goal.returns-in-Err-read_piece-clause-read_failed
returns-in-Err-read_piece-clause-read_failed g c is = (c.in-Err-read_piece.ensures.by_one ∙ ap raise c.loop-taken.invariant.read_steady, c.in-Err-read_piece.ensures.broken)

pub returns-then-count-eq0-clause-read_failed : goal.returns-then-count-eq0-clause-read_failed
returns-then-count-eq0-clause-read_failed g c is = absurd (c.answer_last.ensures.no_read is)

pub returns-then-count-eq0-clause-write_failed : goal.returns-then-count-eq0-clause-write_failed
returns-then-count-eq0-clause-write_failed g c is = (c.answer_last.ensures.by_one is ∙ ap raise c.loop-taken.invariant.write_steady, c.answer_last.ensures.broken is)

pub returns-in-Err-answer_piece-clause-read_failed : goal.returns-in-Err-answer_piece-clause-read_failed
returns-in-Err-answer_piece-clause-read_failed g c is = absurd (c.in-Err-answer_piece.ensures.no_read is)

pub returns-in-Err-answer_piece-clause-write_failed : goal.returns-in-Err-answer_piece-clause-write_failed
returns-in-Err-answer_piece-clause-write_failed g c is =
    (c.in-Err-answer_piece.ensures.by_one (ap Err is) ∙ ap raise c.loop-taken.invariant.write_steady, c.in-Err-answer_piece.ensures.broken (ap Err is))
