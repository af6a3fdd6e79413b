-- The history before the first event.
use Rattle.std.proofs.Common.{◌≡◌, ℕ, List, [], ap, subst, sym, ◌∙◌, arith}
use Rattle.std.specs.Prelude.{ℤ}
use Rattle.std.specs.Int.{w64}
use mir.Val.{to_z, of_z}
use Rattle.std.proofs.lemmas.Int.{ints, to_z-of_z}
use Rattle.bl_syntax.specs.TimeOrder.{IsMoment}
use Rattle.policy_statement.specs.Registered.{RegisteredView}
use Rattle.file_world.specs.World.{World}
use Rattle.file_world.proofs.HalvesLemmas.{IsWorld-fresh}
use Rattle.issue_standings.specs.declared.standings.Standings.{Standings}
use Rattle.issue_standings.specs.Index.{IsIndexOf}
use Rattle.access_history.specs.declared.event.Issue.{Issue}
use Rattle.journal_records.specs.declared.event.Event.{Event}
use Rattle.access_history.specs.declared.history.History.TheInside.{Inside}
use Rattle.access_history.specs.Base.{BaseView}
use Rattle.access_history.specs.Authority.{Authority}
use Rattle.access_history.specs.Gone.{bearings}
use Rattle.access_history.specs.History.{authority_of}
use Rattle.access_history.specs.HistoryParts.{kept_by, shown_state, IsKeeping}
use Rattle.access_history.specs.Lawful.{IsLawfulBase, IsLawful, no_event}
use Rattle.access_history.specs.Replay.{fresh, replay}
use Rattle.access_history.proofs.HistoryLemmas.{state_with, SFits-moment}

first_moment : IsMoment fresh.moment
first_moment = record { not_before = omega (arith, ints); not_after = omega (arith, ints) }

-- a history may begin with the store before its first event
pub IsLawfulBase-fresh : (authority : Authority) → IsLawfulBase authority fresh
IsLawfulBase-fresh authority = record { tree = IsWorld-fresh; statements_differ = tt; statements_formed = tt; statements_signed = tt; statements_fit = omega arith; moment_in_range = first_moment; good_issues = tt; counted = omega arith }

pub IsLawful-fresh : (authority : Authority) → IsLawful authority fresh []
IsLawful-fresh authority = record {
  lawful_base = IsLawfulBase-fresh authority;
  counted = omega arith;
  each = no_event;
}

pub IsKeeping-fresh : (h : Inside) → h.base ≡ fresh → h.events.items ≡ [] → shown_state h ≡ fresh → IsIndexOf h.key h.statements.entries (bearings h.issues.items) h.standings → IsKeeping h
IsKeeping-fresh h base_is events_is shown standings = record {
  lawful = let authority = authority_of (kept_by h) in
      subst (λ (b : BaseView). IsLawful authority b h.events.items) (sym base_is) (subst (λ (es : List Event). IsLawful authority fresh es) (sym events_is) (IsLawful-fresh authority));
  state_is = shown ∙ ap (λ (es : List Event). replay fresh es) (sym events_is) ∙ ap (λ (b : BaseView). replay b h.events.items) (sym base_is);
  standings = standings;
}

-- the fields show the state before the first event
pub shown_fresh : (world : World) (statements : List RegisteredView) (issues : List Issue) (moment : ℤ) (count : ℕ) → world ≡ fresh.world → statements ≡ [] → issues ≡ [] → moment ≡ fresh.moment → count ≡ 0 → state_with world statements issues moment count ≡ fresh
shown_fresh world statements issues moment count world_is none none_too moment_is count_is =
    ap (λ (w : World). state_with w statements issues moment count) world_is
    ∙ ap (λ (ss : List RegisteredView). state_with fresh.world ss issues moment count) none
    ∙ ap (λ (is : List Issue). state_with fresh.world [] is moment count) none_too
    ∙ ap (λ (m : ℤ). state_with fresh.world [] [] m count) moment_is
    ∙ ap (λ (n : ℕ). state_with fresh.world [] [] fresh.moment n) count_is

-- the first moment, as a word has it
pub first_moment_kept : (moment : ℤ) → moment ≡ fresh.moment → to_z w64 (of_z w64 moment) ≡ fresh.moment
first_moment_kept moment is = to_z-of_z w64 moment (SFits-moment moment (subst IsMoment (sym is) first_moment)) ∙ is

-- the index of no issues is that of a history without issues
pub index_of_nothing : (key : List ℕ) (entries : List RegisteredView) (issues : List Issue) (standings : Standings) → entries ≡ [] → issues ≡ [] → ((k : List ℕ) (es : List RegisteredView) → IsIndexOf k es [] standings) → IsIndexOf key entries (bearings issues) standings
index_of_nothing key entries issues standings no_entries no_issues all = subst (λ (is : List Issue). IsIndexOf key entries (bearings is) standings) (sym no_issues) (all key entries)
