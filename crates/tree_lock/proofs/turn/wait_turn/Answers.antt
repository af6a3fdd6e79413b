use Rattle.std.proofs.Common.{◌≤◌, rules, sym, ap, ◌∙◌, subst}
use Rattle.tree_lock.proofs.StepLemmas.{waits_keeps}
use Rattle.tree_lock.proofs.turn.wait_turn.Goals as goal

pub load-served-requires : goal.load-served-requires
load-served-requires g c =
    let w = c.requires in
    let same = c.loop.invariant.1 in
    (c.loop.invariant.0 ∙ w.at.here, search rules, waits_keeps _ _ _ _ w.full (ap (λ m. m.0.out) same ∙ w.at.out) (subst (λ n. 1 ≤ n) (sym (ap (λ m. m.0.number) same)) w.at.number) (ap (λ m. m.0.stage) same ∙ w.stage))
