use Rattle.std.proofs.Common.{◌≡◌, ℕ, List, subst, arith}
use Rattle.sha2.specs.Hashers.{Holds256}
use Rattle.merkle_sig.specs.HashTree.{leaf_over}
use Rattle.merkle_sig.specs.Signature.{pairs_from}
use Rattle.merkle_sig.proofs.StepLemmas.{pairs_from_step}
use Rattle.merkle_sig.proofs.leaves.leaf_from.Goals as goal

pub loop-bit-init : goal.loop-bit-init
unfolding pairs_from
loop-bit-init c = c.new_with_prefix-hasher.ensures

pub loop-bit-preserved : goal.loop-bit-preserved
loop-bit-preserved c =
    subst (λ (message : List ℕ). Holds256 c.add_pair.new.hasher message)
    (pairs_from_step c.args.shown.now c.args.digest.now c.loop-bit.bit c.bit_of.result c.digest_at-hidden.result.now c.digest_at-other.result.now
    c.bit_of.ensures c.digest_at-hidden.ensures c.digest_at-other.ensures)
    (c.add_pair.ensures _ c.loop-bit.invariant)

pub returns : goal.returns
unfolding leaf_over
returns c =
    let ended : c.loop-bit.bit ≡ 256 = omega arith in
    c.finalize.ensures _ (rw ended at c.loop-bit.invariant)
