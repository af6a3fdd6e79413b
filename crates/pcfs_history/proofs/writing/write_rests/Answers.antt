-- The texts of the first issues are out, or on their way, and then that of one more.
use Rattle.std.proofs.Common.{◌+◌, ◌≤◌, None, length, add-one, arith}
use Rattle.pcfs_ports.proofs.TakesLemmas.{on_err}
use Rattle.access_history.specs.History.{state_of}
use Rattle.history_table.specs.declared.resting.Rest.{Rest}
use Rattle.pcfs_history.specs.Written.{one_rest_text}
use Rattle.pcfs_history.proofs.TextsLemmas.{read_again, texts_cut, texts_part, texts_written}
use Rattle.pcfs_history.proofs.writing.write_rests.Goals as goal

abbrev no_rest : Rest
no_rest = record { issue = 0; gone = None }

pub returns-in_err-write_rest-clause-some : goal.returns-in_err-write_rest-clause-some
returns-in_err-write_rest-clause-some g c =
    let rests = c.args.rests.now in
    let place = c.loop-rest.rest-index in
    on_err _ (texts_cut (one_rest_text c.args.json (state_of c.args.history.now)) rests _ _ _ place _ _ c.loop-rest-test.true (read_again rests place no_rest c.loop-rest-test.true) c.loop-rest.invariant.out c.in_err-write_rest.ensures.err)

pub loop-rest-preserved : goal.loop-rest-preserved
loop-rest-preserved g c =
    let rests = c.args.rests.now in
    let place = c.loop-rest.rest-index in
    record {
      out =
          texts_written (one_rest_text c.args.json (state_of c.args.history.now)) rests _ _ _ place (place + 1) _ _ _ c.loop-rest-test.true (add-one place) (read_again rests place no_rest c.loop-rest-test.true) c.loop-rest.invariant.out
          c.in_ok-write_rest.ensures.ok;
      never_falls = omega (arith, c.in_ok-write_rest.ensures.never_falls);
    }

pub returns-in_err-flush-clause-some : goal.returns-in_err-flush-clause-some
returns-in_err-flush-clause-some g c =
    let past : length c.args.rests.now ≤ c.loop-rest.rest-index = omega (arith, c.loop-rest-test.false) in
    on_err _ (texts_part (one_rest_text c.args.json (state_of c.args.history.now)) c.args.rests.now _ _ _ c.loop-rest.rest-index _ past c.loop-rest.invariant.out c.in_err-flush.ensures.err)
