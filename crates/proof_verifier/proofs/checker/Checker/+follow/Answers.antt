use Rattle.std.proofs.Common.{◌∙◌, arith}
use Rattle.proof_term.specs.Proof.{proof_view}
use Rattle.proof_term.specs.Limits.{size, depth}
use Rattle.proof_verifier.specs.Hypotheses.{hypotheses_by_number}
use Rattle.proof_verifier.proofs.RoomLemmas.{room_for_second, counted_more}
use Rattle.proof_verifier.proofs.checker.Checker.+follow.Goals as goal

pub and_r-follow-requires-2 : goal.and_r-follow-requires-2
and_r-follow-requires-2 t c =
    let passed = c.in_ok-node.ensures in (
      omega arith,
      room_for_second c.args.self.now c.follow.new.self c.args.place.now _ (size (proof_view c.args.p.now)) (size (proof_view c.args.q.now)) (depth (proof_view c.args.p.now)) (depth (proof_view c.args.q.now))
          c.requires passed.sorts passed.constraints passed.counted c.requires.counted (omega arith),
    )

pub or_l-follow-requires-2 : goal.or_l-follow-requires-2
or_l-follow-requires-2 t c =
    let passed = c.in_ok-node.ensures in (
      omega arith,
      room_for_second c.args.self.now c.follow.new.self c.args.place.now _ (size (proof_view c.args.p.now)) (size (proof_view c.args.q.now)) (depth (proof_view c.args.p.now)) (depth (proof_view c.args.q.now))
          c.requires passed.sorts passed.constraints passed.counted
          (counted_more c.args.place.now.count (hypotheses_by_number c.args.place.now.hypotheses.now) _ c.requires.counted) (omega arith),
    )

pub imp_l-follow-requires-2 : goal.imp_l-follow-requires-2
imp_l-follow-requires-2 t c =
    let passed = c.in_ok-node.ensures in
    let second = c.in_ok-time_condition-2.ensures in
    let first = c.in_ok-time_condition.ensures in (
      omega arith,
      room_for_second c.args.self.now c.follow.new.self c.args.place.now _ (size (proof_view c.args.p.now)) (size (proof_view c.args.q.now)) (depth (proof_view c.args.p.now)) (depth (proof_view c.args.q.now))
          c.requires (passed.sorts ∙ second.sorts ∙ first.sorts) (passed.constraints ∙ second.constraints ∙ first.constraints) passed.counted
          (counted_more c.args.place.now.count (hypotheses_by_number c.args.place.now.hypotheses.now) _ c.requires.counted) (omega arith),
    )
