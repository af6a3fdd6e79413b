-- The rounds so far were written, and the others are still to come.
use Rattle.std.proofs.Common.{◌≡◌, ◌≤◌, ◌+◌, ◌-◌, ◌++◌}
use Rattle.generated_script.specs.Script.{rounds_text}
use Rattle.generated_script.proofs.script.put_rounds.Given as goal

abbrev pub invariant-loop-place : goal.invariant-loop-place
invariant-loop-place l = record {
  text_is : l.out ++ rounds_text (l.place + 1) (l.rounds - l.place) l.state l.issues ≡ l.fn.out ++ rounds_text 1 l.rounds l.fn.seed 8;
  some : 8 ≤ l.issues;
  few : l.issues ≤ 8 + l.place;
}
