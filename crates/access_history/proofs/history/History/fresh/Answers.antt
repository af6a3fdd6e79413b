-- A new base and a new world are those of the store before its first event.
use Rattle.std.proofs.Common.{ap, ◌∙◌}
use Rattle.world_state.specs.State.{WorldState}
use Rattle.access_history.specs.Base.{BaseView}
use Rattle.access_history.proofs.FreshLemmas.{IsKeeping-fresh, index_of_nothing, shown_fresh, first_moment_kept}
use Rattle.access_history.proofs.history.History.fresh.Goals as goal

pub invariant_of-result : goal.invariant_of-result
invariant_of-result c = IsKeeping-fresh _ c.in_ok-base.ensures c.new-2.ensures.items
    (shown_fresh c.in_ok-world.world.world c.new-3.result.entries c.new-4.result.items _ _ (ap (λ (w : WorldState). w.world) c.in_ok-world.ensures) c.new-3.ensures c.new-4.ensures.items
    (first_moment_kept c.moment.result (c.moment.ensures ∙ ap (λ (b : BaseView). b.moment) c.in_ok-base.ensures)) (c.count.ensures ∙ ap (λ (b : BaseView). b.count) c.in_ok-base.ensures))
    (index_of_nothing c.args.key c.new-3.result.entries c.new-4.result.items c.new-5.result c.new-3.ensures c.new-4.ensures.items c.new-5.ensures)
