use Rattle.std.proofs.Common.{◌≡◌, length, ap, ◌∙◌}
use Rattle.nine_fids.proofs.NonceLemmas.{length-greeting}
use Rattle.nine_fids.proofs.nonce.Nonce.new.Goals as goal

pub invariant_of-result : goal.invariant_of-result
invariant_of-result c =
    let count : length c.args.nonce.now ≡ 16 = c.told-nonce in
    (c.in_ok-greeting_line.ensures, ap length c.in_ok-greeting_line.ensures ∙ length-greeting c.args.nonce.now count)
