-- Each line that is prepared asks for something.
use Rattle.std.proofs.Common.{ℕ, List, All, sym, subst}
use Rattle.client_tree.specs.Lines.{IsAskedText}
use Rattle.client_tree.proofs.LineLemmas.{more_are_asked, prepared_is_asked}
use Rattle.client_tree.proofs.replacing.exchange.Goals as goal

pub loop-work-preserved : goal.loop-work-preserved
loop-work-preserved g c =
    subst (λ (texts : List (List ℕ)). All IsAskedText texts) (sym c.in_ok-push.ensures.items)
    (more_are_asked _ _ c.loop-work.invariant (prepared_is_asked _ _ _ c.in_ok-made.ensures c.in_ok-copy.ensures))
