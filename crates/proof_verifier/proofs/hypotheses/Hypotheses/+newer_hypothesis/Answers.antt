use Rattle.std.specs.Option.{option_map}
use Rattle.proof_verifier.specs.Hypotheses.{hypothesis, hypotheses_by_number}
use Rattle.proof_verifier.proofs.HypothesesLemmas.{found_last, found_struck}
use Rattle.proof_verifier.proofs.hypotheses.Hypotheses.+newer_hypothesis.Goals as goal

pub returns-else-newer-gt0 : goal.returns-else-newer-gt0
returns-else-newer-gt0 t c =
    rw c.in-More.is
    (found_last (hypotheses_by_number c.in-More.older.now) (hypothesis c.in-More.held) c.args.newer c.args.struck (option_map hypothesis c.left_of.result) c.if-newer-gt0.false c.left_of.ensures)

pub returns-in-Struck : goal.returns-in-Struck
returns-in-Struck t c =
    rw c.in-Struck.is
    (found_struck (hypotheses_by_number c.in-Struck.older.now) c.args.newer c.args.struck (option_map hypothesis c.newer_hypothesis-in-Struck.result) c.newer_hypothesis-in-Struck.ensures)
