-- The items that came whole are answered, piece by piece.
use Rattle.std.proofs.Common.{◌≡◌, ◌≤◌, ◌<◌, ◌+◌, length, take, Err, ap, ◌∙◌, refl, arith}
use Rattle.pcfs_ports.specs.Faults.{raise}
use Rattle.session_loop.proofs.PortLemmas.{nothing_taken, IsShown-front, taken_shown, room_stays, risen_later}
use Rattle.session_loop.proofs.StillLemmas.{NothingFailedBefore-then}
use Rattle.session_loop.proofs.EndLemmas.{TalkEnds-unbegun, IsReading-start, IsReading-more, TalkEnds-read_fault, TalkEnds-too_long, TalkEnds-piece, TalkEnds-last}
use Rattle.session_loop.proofs.conversing.converse.Goals as goal

pub loop-taken-init : goal.loop-taken-init
loop-taken-init g c = record {
  reading = λ start stands. IsReading-start (g.T.Talk.talking c.args.clock.now) (g.met.T.Talk.laws c.args.clock.now) start _ _ _ stands;
  fits = c.requires;
  within = omega arith;
  room = c.in-Ok.ensures;
  read_steady = refl;
  write_steady = refl;
  read_never_falls = omega arith;
  write_never_falls = omega arith;
}

pub returns-in-Err-clause-ends : goal.returns-in-Err-clause-ends
returns-in-Err-clause-ends g c start stands = TalkEnds-unbegun (g.T.Talk.talking c.args.clock.now) (g.met.T.Talk.laws c.args.clock.now) start _ _ _ refl refl

pub returns-in-Err-read_piece-clause-ends : goal.returns-in-Err-read_piece-clause-ends
returns-in-Err-read_piece-clause-ends g c start stands =
    TalkEnds-read_fault (g.T.Talk.talking c.args.clock.now) (g.met.T.Talk.laws c.args.clock.now) start _ _ _ _ _ _ _ c.loop-taken.invariant.within (c.loop-taken.invariant.reading start stands) c.in-Err-read_piece.ensures.err
    (risen_later _ _ _ c.loop-taken.invariant.read_never_falls c.in-Err-read_piece.ensures.risen)

pub returns-then-count-eq0-clause-ends : goal.returns-then-count-eq0-clause-ends
returns-then-count-eq0-clause-ends g c start stands =
    let below : c.loop-taken.taken < 1073741824 = omega arith in
    TalkEnds-last (g.T.Talk.talking c.args.clock.now) (g.met.T.Talk.laws c.args.clock.now) start _ _ _ _ _ _ _ _ _ _ below (c.loop-taken.invariant.reading start stands)
    (nothing_taken _ _ _ _ c.if-count-eq0.true c.in-Ok-read_piece.ensures.taken) (c.in-Ok-read_piece.ensures.end c.if-count-eq0.true)
    (λ is. risen_later _ _ _ c.loop-taken.invariant.write_never_falls (c.answer_last.ensures.risen is)) c.answer_last.ensures.ends

pub returns-in-Err-answer_piece-clause-ends : goal.returns-in-Err-answer_piece-clause-ends
returns-in-Err-answer_piece-clause-ends g c start stands =
    let fits : length c.read_piece.new.piece ≤ c.loop-taken.piece.len = omega (arith, c.loop-taken.piece.ok.0, c.deref_mut.ensures.len, c.read_piece.auto.piece) in
    let shown = IsShown-front c.in-Ok-read_piece.count c.loop-taken.piece.len c.read_piece.new.piece c.loop-taken.piece.items c.deref.result.now c.deref.ensures.value c.in-Ok-read_piece.ensures.bound fits in
    let small : length (take c.in-Ok-read_piece.count c.deref.result.now) ≤ 65536 = omega (arith, shown.len, c.in-Ok-read_piece.ensures.bound, fits, c.loop-taken.piece.ok.0, c.loop-taken.invariant.room) in
    let fits_all : c.loop-taken.taken + length (take c.in-Ok-read_piece.count c.deref.result.now) ≤ 1073741824 = omega (arith, shown.len, c.in-Ok-read_piece.ensures.few, c.loop-taken.invariant.within) in
    TalkEnds-piece (g.T.Talk.talking c.args.clock.now) (g.met.T.Talk.laws c.args.clock.now) start _ _ _ _ _ _ _ _ _ _ (c.loop-taken.invariant.reading start stands) (taken_shown _ _ _ _ _ shown c.in-Ok-read_piece.ensures.taken) small fits_all _
    (λ is. risen_later _ _ _ c.loop-taken.invariant.write_never_falls (c.in-Err-answer_piece.ensures.risen (ap Err is))) c.in-Err-answer_piece.ensures.ends

pub loop-taken-preserved : goal.loop-taken-preserved
loop-taken-preserved g c =
    let fits : length c.read_piece.new.piece ≤ c.loop-taken.piece.len = omega (arith, c.loop-taken.piece.ok.0, c.deref_mut.ensures.len, c.read_piece.auto.piece) in
    let same : length c.read_piece.new.piece ≡ length c.loop-taken.piece.items = omega (arith, c.loop-taken.piece.ok.0, c.deref_mut.ensures.len, c.read_piece.auto.piece) in
    let shown = IsShown-front c.in-Ok-read_piece.count c.loop-taken.piece.len c.read_piece.new.piece c.loop-taken.piece.items c.deref.result.now c.deref.ensures.value c.in-Ok-read_piece.ensures.bound fits in
    record {
      reading = λ start stands.
          IsReading-more (g.T.Talk.talking c.args.clock.now) (g.met.T.Talk.laws c.args.clock.now) start _ _ _ _ _ _ _ _ _ _ _ _ _ (c.loop-taken.invariant.reading start stands) (taken_shown _ _ _ _ _ shown c.in-Ok-read_piece.ensures.taken) shown.len
          c.in-Ok-answer_piece.ensures.ok;
      fits = c.in-Ok-answer_piece.ensures.fits;
      within = omega (arith, c.in-Ok-read_piece.ensures.few);
      room = room_stays c.loop-taken.piece.len c.read_piece.new.piece c.loop-taken.piece.items same c.loop-taken.piece.ok.0 ∙ c.loop-taken.invariant.room;
      read_steady = c.in-Ok-read_piece.ensures.steady ∙ c.loop-taken.invariant.read_steady;
      write_steady = c.in-Ok-answer_piece.ensures.steady ∙ c.loop-taken.invariant.write_steady;
      read_never_falls = omega (arith, c.in-Ok-read_piece.ensures.never_falls);
      write_never_falls = omega (arith, c.in-Ok-answer_piece.ensures.never_falls);
    }

pub returns-clause-ends : goal.returns-clause-ends
returns-clause-ends g c start stands =
    let all : c.loop-taken.taken ≡ 1073741824 = omega arith in
    TalkEnds-too_long (g.T.Talk.talking c.args.clock.now) (g.met.T.Talk.laws c.args.clock.now) start _ _ _ _ _ _ (c.loop-taken.invariant.reading start stands) all

pub returns-in-Err-clause-steady : goal.returns-in-Err-clause-steady
returns-in-Err-clause-steady g c = record { input = refl; output = refl }

pub returns-in-Err-read_piece-clause-steady : goal.returns-in-Err-read_piece-clause-steady
returns-in-Err-read_piece-clause-steady g c = record { input = tt; output = c.loop-taken.invariant.write_steady }

pub returns-then-count-eq0-clause-steady : goal.returns-then-count-eq0-clause-steady
returns-then-count-eq0-clause-steady g c =
    NothingFailedBefore-then _ _ _ _ (c.in-Ok-read_piece.ensures.steady ∙ c.loop-taken.invariant.read_steady) c.loop-taken.invariant.write_steady c.answer_last.ensures.steady

pub returns-in-Err-answer_piece-clause-steady : goal.returns-in-Err-answer_piece-clause-steady
returns-in-Err-answer_piece-clause-steady g c =
    NothingFailedBefore-then _ _ _ _ (c.in-Ok-read_piece.ensures.steady ∙ c.loop-taken.invariant.read_steady) c.loop-taken.invariant.write_steady c.in-Err-answer_piece.ensures.steady_end

pub returns-clause-steady : goal.returns-clause-steady
returns-clause-steady g c = record { input = c.loop-taken.invariant.read_steady; output = c.loop-taken.invariant.write_steady }

pub returns-in-Err-read_piece-clause-read_failed : goal.returns-in-Err-read_piece-clause-read_failed
returns-in-Err-read_piece-clause-read_failed g c is =
    (c.in-Err-read_piece.ensures.by_one ∙ ap raise c.loop-taken.invariant.read_steady, c.in-Err-read_piece.ensures.broken)

pub returns-then-count-eq0-clause-write_failed : goal.returns-then-count-eq0-clause-write_failed
returns-then-count-eq0-clause-write_failed g c is = (c.answer_last.ensures.by_one is ∙ ap raise c.loop-taken.invariant.write_steady, c.answer_last.ensures.broken is)

pub returns-in-Err-answer_piece-clause-write_failed : goal.returns-in-Err-answer_piece-clause-write_failed
returns-in-Err-answer_piece-clause-write_failed g c is =
    (c.in-Err-answer_piece.ensures.by_one (ap Err is) ∙ ap raise c.loop-taken.invariant.write_steady, c.in-Err-answer_piece.ensures.broken (ap Err is))
