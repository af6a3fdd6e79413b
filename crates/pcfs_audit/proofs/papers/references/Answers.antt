-- Each grant adds a reference to it.
use Rattle.std.proofs.Common.{◌+◌, ◌++◌, ◌∷◌, ◌∙◌, [], List, ap, arith, refl, sym, take}
use Rattle.std.proofs.lemmas.List.{take_all, take_more}
use Rattle.bl_syntax.specs.Grant.{GrantView}
use Rattle.pcfs_audit.proofs.ReferenceLemmas.{shown_more}
use Rattle.pcfs_audit.proofs.papers.references.Goals as goal

pub loop-grant-preserved : goal.loop-grant-preserved
loop-grant-preserved c =
    let k = c.loop-grant.grant-index in
    let grants = c.args.grants.now in
    shown_more c.loop-grant.references.items c.push.new.self.items _ c.grant-item.result c.in_ok-push.ensures.items refl
    ∙ (ap (λ (gs : List GrantView). gs ++ c.grant-item.result ∷ []) c.loop-grant.invariant
    ∙ sym (take_more grants k c.grant-item.result c.loop-grant-test.true ∙ ap (λ (g : GrantView). take k grants ++ g ∷ []) (sym c.grant-item.is)))

pub returns : goal.returns
returns c = c.loop-grant.invariant ∙ take_all c.loop-grant.grant-index c.args.grants.now (omega (arith, c.loop-grant-test.false))
