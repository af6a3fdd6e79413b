-- The fields show the state with which the history begins.
use Rattle.std.proofs.Common.{◌∙◌, List, ap, subst}
use Rattle.std.specs.Int.{w64}
use mir.Val.{to_z, of_z}
use Rattle.world_state.specs.State.{WorldState}
use Rattle.issue_standings.specs.Index.{IsIndexOf}
use Rattle.access_history.specs.declared.event.Issue.{Issue}
use Rattle.access_history.specs.Gone.{bearings}
use Rattle.access_history.proofs.BaseLemmas.{IsKeeping-begun, shown_as, moment_kept}
use Rattle.access_history.proofs.history.History.from_base.Goals as goal

pub invariant_of-result : goal.invariant_of-result
invariant_of-result c =
    IsKeeping-begun _ c.requires c.new.ensures.items
    (shown_as c.args.base c.in_ok-world.world.world c.in_ok-statements.statements.entries c.into_vec-issues.result.items (to_z w64 (of_z w64 c.moment.result)) c.count.result
    (ap (λ (w : WorldState). w.world) c.in_ok-world.ensures ∙ c.world.ensures) (c.in_ok-statements.ensures ∙ c.statements.ensures) (c.into_vec-issues.ensures ∙ c.in_ok-copy_issues.ensures ∙ c.issues.ensures)
    (moment_kept c.args.base c.moment.result c.requires.moment_in_range c.moment.ensures) c.count.ensures)
    (subst (λ (is : List Issue). IsIndexOf c.args.key c.in_ok-statements.statements.entries (bearings is) c.in_ok-standings.standings) c.as_slice.ensures.value c.in_ok-standings.ensures)
