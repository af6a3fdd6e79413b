use Rattle.std.proofs.Common.{sym, ◌∙◌, arith}
use Rattle.merkle_sig.proofs.StepLemmas.{decides_by_root, reaches, refuses_leaf, refuses_length}
use Rattle.merkle_sig.proofs.accepting.accepts_root.Goals as goal

pub returns-then-signature-height : goal.returns-then-signature-height
returns-then-signature-height c = refuses_length c.args.root.now c.args.height c.args.message.now c.args.signature.now c.if-signature-height.true

pub returns-then-not-is_below_power : goal.returns-then-not-is_below_power
returns-then-not-is_below_power c =
    refuses_leaf c.args.root.now c.args.height c.args.message.now c.args.signature.now c.leaf_number-number.result c.leaf_number-number.ensures
    (sym c.is_below_power.ensures ∙ c.if-not-is_below_power.true)

pub returns : goal.returns
returns c =
    c.eq.ensures ∙
    decides_by_root c.args.root.now c.args.height c.args.message.now c.args.signature.now c.climb.result c.leaf_number-number.result (omega arith) c.leaf_number-number.ensures
    (sym c.is_below_power.ensures ∙ c.if-not-is_below_power.false)
    (reaches c.args.height c.args.message.now c.args.signature.now c.shown_part.result.now c.message_digest.result c.leaf_from-leaf.result c.leaf_number-number.result c.way_part.result.now c.climb.result
    c.shown_part.ensures.value c.message_digest.ensures c.leaf_from-leaf.ensures c.leaf_number-number.ensures c.way_part.ensures.value c.climb.ensures)
