-- Each round adds its lines.
use Rattle.std.proofs.Common.{◌++◌, arith}
use Rattle.generated_script.specs.Script.{rounds_text}
use Rattle.generated_script.proofs.ScriptLemmas.{all_rounds, no_rounds, round_more}
use Rattle.generated_script.proofs.script.put_rounds.Goals as goal

pub loop-place-init : goal.loop-place-init
loop-place-init c = record {
  text_is = no_rounds c.args.out.now c.args.rounds c.args.seed;
  some = omega arith;
  few = omega arith;
}

pub loop-place-preserved : goal.loop-place-preserved
loop-place-preserved c = record {
  text_is = round_more c.loop-place.out c.put_round_lines.new.out (c.args.out.now ++ rounds_text 1 c.args.rounds c.args.seed 8) c.loop-place.place c.args.rounds c.loop-place.state c.loop-place.issues
      c.issues_after-issues.result c.round_from-round.result c.loop-place-test.true c.round_from-round.ensures.same c.in_ok-put_round_lines.ensures c.issues_after-issues.ensures.same c.loop-place.invariant.text_is;
  some = omega arith;
  few = omega arith;
}

pub returns : goal.returns
returns c =
    all_rounds c.loop-place.out (c.args.out.now ++ rounds_text 1 c.args.rounds c.args.seed 8) c.loop-place.place c.args.rounds c.loop-place.state c.loop-place.issues c.loop-place-test.false c.loop-place.invariant.text_is
