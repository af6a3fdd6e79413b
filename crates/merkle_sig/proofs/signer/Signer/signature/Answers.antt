use Rattle.std.proofs.Common.{◌≡◌, ap, subst, ◌∙◌, ◌++◌}
use Rattle.std.specs.Int.{w32, to_be_bytes}
use Rattle.merkle_sig.specs.Signature.{shown_bits}
use Rattle.merkle_sig.specs.Signer.{SignerView}
use Rattle.merkle_sig.proofs.StepLemmas.{parts_are}
use Rattle.merkle_sig.proofs.signer.Signer.signature.Goals as goal

pub returns : goal.returns
returns c =
    let s : SignerView = c.args.self.now in
    let following : c.self.inside.next ≡ s.next = ap (λ (t : SignerView). t.next) c.self.view_is in
    parts_are c.from_vec-signature.result c.extend.new.self c.add_shown.new.signature c.add_siblings.new.signature c.to_be_bytes.result s.seed s.height s.next c.args.message.now c.message_digest.result
    (c.from_vec-signature.ensures ∙ c.in_ok-with_capacity.ensures.items)
    (c.to_be_bytes.ensures ∙ ap (to_be_bytes w32) following)
    c.in_ok-extend.ensures.ok c.message_digest.ensures
    (subst (λ (t : SignerView). c.add_shown.new.signature ≡ c.extend.new.self ++ shown_bits t.seed t.next c.message_digest.result 256) c.self.view_is c.in_ok-add_shown.ensures)
    c.in_ok-add_siblings.ensures
