use Rattle.std.proofs.Common.{refl, sym, ap, ◌∙◌, ℕ, ◌/◌}
use Rattle.std.proofs.Math.Nat.{div-one}
use Rattle.std.proofs.lemmas.Nat.{shr-shr}
use Rattle.merkle_sig.specs.Signature.{climb}
use Rattle.merkle_sig.proofs.StepLemmas.{climb_step, over-even, over-odd}
use Rattle.merkle_sig.proofs.accepting.climb.Goals as goal
use Rattle.merkle_sig.proofs.accepting.climb.Goals.{then-place-eq0, else-place-eq0}

pub loop-level-init : goal.loop-level-init
unfolding climb
loop-level-init c = (refl, sym (div-one c.args.number))

pub loop-level-preserved : goal.loop-level-preserved
loop-level-preserved c = (
  climb_step c.args.leaf c.args.number c.args.others.now c.loop-level.level c.loop-level.place c.loop-level.here c.digest_at-other.result.now c.if-place-eq0.here
      c.loop-level.invariant.0 c.loop-level.invariant.1 c.digest_at-other.ensures
      (elim c.if-place-eq0.branch [
        | then-place-eq0 w ↦ w.here-is ∙ w.parent-here.ensures ∙ sym (over-even c.loop-level.place _ _ w.if-place-eq0.true)
        | else-place-eq0 w ↦ w.here-is ∙ w.parent-here-else-place-eq0.ensures ∙ sym (over-odd c.loop-level.place _ _ w.if-place-eq0.false)
      ]),
  ap (λ (n : ℕ). n / 2) c.loop-level.invariant.1 ∙ shr-shr c.args.number c.loop-level.level 1,
)
