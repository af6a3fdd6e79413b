use Rattle.std.proofs.Common.{◌≡◌, ℕ, List, ap, subst, ◌∙◌, arith}
use Rattle.sha2.specs.Hashers.{Holds256}
use Rattle.merkle_sig.specs.HashTree.{leaf_over, node, public_pairs, public_value}
use Rattle.merkle_sig.proofs.StepLemmas.{public_pairs_step}
use Rattle.merkle_sig.proofs.leaves.leaf.Goals as goal

pub loop-bit-init : goal.loop-bit-init
unfolding public_pairs
loop-bit-init c = c.new_with_prefix-hasher.ensures

pub loop-bit-preserved : goal.loop-bit-preserved
loop-bit-preserved c =
    subst (λ (message : List ℕ). Holds256 c.update-in-loop-bit.new.self message)
    (public_pairs_step c.args.seed.now c.args.place c.loop-bit.bit c.public_value.result c.public_value-in-loop-bit.result
    (c.public_value.ensures ∙ ap public_value c.secret.ensures) (c.public_value-in-loop-bit.ensures ∙ ap public_value c.secret-in-loop-bit.ensures))
    (c.update-in-loop-bit.ensures _ (c.update.ensures _ c.loop-bit.invariant))

pub returns : goal.returns
unfolding node leaf_over
returns c =
    let ended : c.loop-bit.bit ≡ 256 = omega arith in
    c.finalize.ensures _ (rw ended at c.loop-bit.invariant)
