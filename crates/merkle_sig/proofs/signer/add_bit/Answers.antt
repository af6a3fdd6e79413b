use Rattle.std.proofs.Common.{◌∙◌, ap}
use Rattle.merkle_sig.specs.HashTree.{public_value}
use Rattle.merkle_sig.proofs.StepLemmas.{bit_added}
use Rattle.merkle_sig.proofs.signer.add_bit.Goals as goal

pub returns : goal.returns
returns c =
    bit_added c.args.signature.now c.secret-own.result c.public_value-other.result c.extend.new.self c.extend-2.new.self c.args.seed.now c.args.leaf c.args.bit c.args.value
    c.in_ok-extend.ensures.ok c.in_ok-extend-2.ensures.ok c.secret-own.ensures (c.public_value-other.ensures ∙ ap public_value c.secret.ensures)
