-- The texts of the first issues are out, or on their way, and then that of one more.
use Rattle.std.proofs.Common.{◌+◌, ◌≤◌, length, add-one, arith}
use Rattle.access_history.specs.History.{state_of}
use Rattle.pcfs_history.specs.Written.{number_text}
use Rattle.pcfs_ports.proofs.TakesLemmas.{on_err}
use Rattle.pcfs_history.proofs.TextsLemmas.{read_again, texts_cut, texts_part, texts_written}
use Rattle.pcfs_history.proofs.writing.write_numbers.Goals as goal

pub returns-in_err-write_number-clause-some : goal.returns-in_err-write_number-clause-some
returns-in_err-write_number-clause-some g c =
    let numbers = c.args.numbers.now in
    let place = c.loop-number.number-index in
    on_err _ (texts_cut (number_text c.args.json (state_of c.args.history.now)) numbers _ _ _ place _ _ c.loop-number-test.true (read_again numbers place 0 c.loop-number-test.true) c.loop-number.invariant.out c.in_err-write_number.ensures.err)

pub loop-number-preserved : goal.loop-number-preserved
loop-number-preserved g c =
    let numbers = c.args.numbers.now in
    let place = c.loop-number.number-index in
    record {
      out =
          texts_written (number_text c.args.json (state_of c.args.history.now)) numbers _ _ _ place (place + 1) _ _ _ c.loop-number-test.true (add-one place) (read_again numbers place 0 c.loop-number-test.true) c.loop-number.invariant.out
          c.in_ok-write_number.ensures.ok;
      never_falls = omega (arith, c.in_ok-write_number.ensures.never_falls);
    }

pub returns-in_err-flush-clause-some : goal.returns-in_err-flush-clause-some
returns-in_err-flush-clause-some g c =
    let past : length c.args.numbers.now ≤ c.loop-number.number-index = omega (arith, c.loop-number-test.false) in
    on_err _ (texts_part (number_text c.args.json (state_of c.args.history.now)) c.args.numbers.now _ _ _ c.loop-number.number-index _ past c.loop-number.invariant.out c.in_err-flush.ensures.err)
