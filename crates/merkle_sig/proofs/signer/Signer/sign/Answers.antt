use Rattle.std.proofs.Common.{◌≡◌, ◌^◌, ◌≤◌, ℕ, List, IsTrue, ap, sym, subst, ◌∙◌}
use Rattle.bl_syntax.specs.declared.limits.TheConstants.{HIGHEST_TREE}
use Rattle.merkle_sig.specs.HashTree.{root_of}
use Rattle.merkle_sig.specs.Signature.{accepts_root}
use Rattle.merkle_sig.specs.Signer.{SignerView, spent, without_memory}
use Rattle.merkle_sig.proofs.AcceptLemmas.{roots_accept}
use Rattle.merkle_sig.proofs.SignerLemmas.{fits, one_is_left, signs_now}
use Rattle.merkle_sig.proofs.signer.Signer.sign.Goals as goal

pub returns-then-self-width_of-clause-signs : goal.returns-then-self-width_of-clause-signs
returns-then-self-width_of-clause-signs c =
    let high : c.self.inside.height ≡ c.args.self.now.height = ap (λ (s : SignerView). s.height) c.self.view_is in
    let following : c.self.inside.next ≡ c.args.self.now.next = ap (λ (s : SignerView). s.next) c.self.view_is in
    spent (sym following ∙ c.if-self-width_of.true ∙ c.width_of.ensures ∙ ap (λ (h : ℕ). 2 ^ h) high)

pub returns-in-Ok-clause-signs : goal.returns-in-Ok-clause-signs
returns-in-Ok-clause-signs c =
    let inside : SignerView = record { seed = c.self.inside.seed; height = c.self.inside.height; next = c.self.inside.next } in
    let left = one_is_left c.args.self.now inside c.width_of.result c.self.view_is c.self.invariant.1 c.width_of.ensures c.if-self-width_of.false in
    signs_now c.args.self.now inside c.args.message.now c.in-Ok.signature c.self.view_is left c.in-Ok.ensures

pub returns-in-Ok-clause-accepted : goal.returns-in-Ok-clause-accepted
returns-in-Ok-clause-accepted c =
    let s : SignerView = c.args.self.now in
    let inside : SignerView = record { seed = c.self.inside.seed; height = c.self.inside.height; next = c.self.inside.next } in
    let left = one_is_left s inside c.width_of.result c.self.view_is c.self.invariant.1 c.width_of.ensures c.if-self-width_of.false in
    let low = subst (λ (t : SignerView). t.height ≤ HIGHEST_TREE) c.self.view_is c.self.invariant.0 in
    subst (λ (given : List ℕ). IsTrue (accepts_root (root_of s.seed s.height) s.height c.args.message.now given)) (sym c.in-Ok.ensures)
    (roots_accept s.seed s.height s.next c.args.message.now left (fits s.height s.next low left))

pub returns-in-Err-clause-signs : goal.returns-in-Err-clause-signs
returns-in-Err-clause-signs c =
    let inside : SignerView = record { seed = c.self.inside.seed; height = c.self.inside.height; next = c.self.inside.next } in
    without_memory (one_is_left c.args.self.now inside c.width_of.result c.self.view_is c.self.invariant.1 c.width_of.ensures c.if-self-width_of.false)
