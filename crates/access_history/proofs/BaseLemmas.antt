-- A history that begins with a lawful state.
use Rattle.std.proofs.Common.{◌≡◌, ℕ, List, [], sym, ap, subst, ◌∙◌, arith}
use Rattle.std.specs.Prelude.{ℤ}
use Rattle.std.specs.Int.{w64}
use mir.Val.{to_z, of_z}
use Rattle.std.proofs.lemmas.Int.{to_z-of_z}
use Rattle.bl_syntax.specs.TimeOrder.{IsMoment}
use Rattle.policy_statement.specs.Registered.{RegisteredView}
use Rattle.file_world.specs.World.{World}
use Rattle.issue_standings.specs.Index.{IsIndexOf}
use Rattle.journal_records.specs.declared.event.Event.{Event}
use Rattle.access_history.specs.declared.event.Issue.{Issue}
use Rattle.access_history.specs.declared.history.History.TheInside.{Inside}
use Rattle.access_history.specs.Authority.{Authority}
use Rattle.access_history.specs.Base.{BaseView}
use Rattle.access_history.specs.Gone.{bearings}
use Rattle.access_history.specs.History.{authority_of}
use Rattle.access_history.specs.HistoryParts.{kept_by, shown_state, IsKeeping}
use Rattle.access_history.specs.Lawful.{IsLawful, IsLawfulBase, no_event}
use Rattle.access_history.specs.Replay.{replay}
use Rattle.access_history.proofs.HistoryLemmas.{state_with, SFits-moment}

-- a lawful state without events since
pub IsLawful-begun : (authority : Authority) (base : BaseView) → IsLawfulBase authority base → IsLawful authority base []
IsLawful-begun authority base lawful = record { lawful_base = lawful; counted = omega (arith, lawful.counted); each = no_event }

-- fields that show a lawful state with which they begin
pub IsKeeping-begun : (h : Inside) → IsLawfulBase (authority_of (kept_by h)) h.base → h.events.items ≡ [] → shown_state h ≡ h.base → IsIndexOf h.key h.statements.entries (bearings h.issues.items) h.standings → IsKeeping h
IsKeeping-begun h lawful none shown standings = record {
  lawful = subst (λ (es : List Event). IsLawful (authority_of (kept_by h)) h.base es) (sym none) (IsLawful-begun (authority_of (kept_by h)) h.base lawful);
  state_is = shown ∙ ap (λ (es : List Event). replay h.base es) (sym none);
  standings = standings;
}

-- a state of which each part is that of another
pub shown_as : (base : BaseView) (world : World) (statements : List RegisteredView) (issues : List Issue) (moment : ℤ) (count : ℕ) → world ≡ base.world → statements ≡ base.statements → issues ≡ base.issues → moment ≡ base.moment → count ≡ base.count →
    state_with world statements issues moment count ≡ base
shown_as base world statements issues moment count world_is statements_are issues_are moment_is count_is =
    ap (λ (w : World). state_with w statements issues moment count) world_is
    ∙ ap (λ (ss : List RegisteredView). state_with base.world ss issues moment count) statements_are
    ∙ ap (λ (is : List Issue). state_with base.world base.statements is moment count) issues_are
    ∙ ap (λ (m : ℤ). state_with base.world base.statements base.issues m count) moment_is
    ∙ ap (λ (n : ℕ). state_with base.world base.statements base.issues base.moment n) count_is

-- its moment, as a word has it
pub moment_kept : (base : BaseView) (moment : ℤ) → IsMoment base.moment → moment ≡ base.moment → to_z w64 (of_z w64 moment) ≡ base.moment
moment_kept base moment in_range is = to_z-of_z w64 moment (SFits-moment moment (subst IsMoment (sym is) in_range)) ∙ is
