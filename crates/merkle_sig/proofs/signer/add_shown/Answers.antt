use Rattle.merkle_sig.proofs.StepLemmas.{shown_bits_none, shown_bits_step}
use Rattle.merkle_sig.proofs.signer.add_shown.Goals as goal

pub loop-bit-init : goal.loop-bit-init
loop-bit-init c = shown_bits_none c.args.signature.now c.args.seed.now c.args.leaf c.args.digest.now

pub loop-bit-preserved : goal.loop-bit-preserved
loop-bit-preserved c =
    shown_bits_step c.args.signature.now c.args.seed.now c.args.leaf c.args.digest.now c.loop-bit.bit c.bit_of.result c.loop-bit.signature c.add_bit.new.signature
    c.loop-bit.invariant c.bit_of.ensures c.in_ok-add_bit.ensures
