-- Until when grants that were issued have support: an issue of whose statements none was withdrawn
-- (this project's own).
use Rattle.std.specs.Prelude.{◌≡◌, ◌≤◌, ◌↔◌, ℕ, List, [], ◌∷◌, ◌++◌, Bool, true, false, IsTrue, if◌then◌else◌, nat_le, max, Option, Some, None, MatchOption, Contains, fold, length}
use Rattle.std.specs.List.{AllByRecursion, slice_get}
use Rattle.bl_syntax.specs.Equality.{grant_eq}
use Rattle.bl_syntax.specs.Grant.{GrantView}
use Rattle.policy_statement.specs.Withdrawal.{is_withdrawn}
use Rattle.issue_standings.specs.Bearing.{BearingView}
use Rattle.journal_records.specs.declared.event.Event.{Event}
use Rattle.access_history.specs.declared.event.Issue.{Issue}
use Rattle.access_history.specs.Base.{BaseView}
use Rattle.access_history.specs.Gone.{bearings, gone, gone_by_issues}
use Rattle.access_history.specs.Replay.{next_state}
use Rattle.procap.specs.Genuine.{IsGenuine}
use Rattle.procap.specs.declared.procap.Procap.{Procap}
use Rattle.pcfs_audit.specs.declared.dossier.Dossier.{Dossier}
use Rattle.pcfs_audit.specs.declared.supports.Support.{Support}
use Rattle.pcfs_audit.specs.declared.supports.Support.TheVariants.{Unissued, Until, Always}
use Rattle.pcfs_audit.specs.declared.supports.Supports.{Supports}
use Rattle.pcfs_audit.specs.Ends.{first_end, is_ended}
use Rattle.pcfs_audit.specs.Firsts.{grant_digest}
use Rattle.pcfs_audit.specs.Papers.{shown}

-- the support with that of one more issue, of whose statements the first ends there
abbrev pub supported : Support → Option ℕ → Support
supported Always end = Always
supported before None = Always
supported Unissued (Some end) = Until end
supported (Until place) (Some end) = Until (max place end)

-- with that of one more issue, which counts only if it has the grant
abbrev pub supported_by : List (Option ℕ) → GrantView → Support → BearingView → Support
supported_by ends g before b = if grant_eq b.grant g then supported before (first_end ends b.cited) else before

-- the support of a grant by these issues
abbrev pub support_of : List (Option ℕ) → GrantView → List BearingView → Support
support_of ends g issues = fold (supported_by ends g) Unissued issues

-- whether what was issued has no support any more before the event at that place
abbrev pub has_lost : Support → ℕ → Bool
has_lost Unissued place = false
has_lost (Until end) place = nat_le end place
has_lost Always place = false

-- it is the place of the first of the grants that is this one
pub record IsFirstOf (grants : List GrantView) (g : GrantView) (row : ℕ) : Type 0 where
  pub at : slice_get grants row ≡ Some g
  pub first : (place : ℕ) → slice_get grants place ≡ Some g → row ≤ place

-- in the row of each grant's first place stands its support by these issues
abbrev pub AreSupports : List GrantView → List (Option ℕ) → List Issue → List Support → Type 0
AreSupports grants ends issues rows = (g : GrantView) (row : ℕ) → IsFirstOf grants g row
    → slice_get rows row ≡ Some (support_of ends g (bearings issues))

abbrev pub AreSupportsOf : Dossier → List Issue → List Support → Type 0
AreSupportsOf dossier issues rows = AreSupports (shown dossier.papers.grants.items) dossier.papers.ends.items issues rows

-- if the digest is the grant's, this is the place of the first grant that is this one, of all that
-- are ever issued; none if none is
abbrev pub IsRowFor : Dossier → ℕ → GrantView → Option ℕ → Type 0
IsRowFor dossier digest g row =
    let grants = shown dossier.papers.grants.items in
    digest ≡ grant_digest dossier.key g
    → MatchOption row (Contains grants g → ⊥) (IsFirstOf grants g)

-- there is a row for each grant; if some statement is ever withdrawn, they are the supports by
-- these issues
pub record FollowIssues (dossier : Dossier) (issues : List Issue) (supports : Supports) : Type 0 where
  pub sized : length supports.rows.items ≡ length dossier.papers.grants.items
  pub rows_are : dossier.papers.has_ended ≡ true → AreSupportsOf dossier issues supports.rows.items

-- they tell which grants are gone in a state: they follow its issues, whose grants are all among
-- the papers, and the ends tell which of its statements were withdrawn
pub record TellsGone (dossier : Dossier) (supports : Supports) (state : BaseView) : Type 0 where
  pub follow : FollowIssues dossier state.issues supports
  pub known : AllByRecursion (λ (issue : Issue). Contains (shown dossier.papers.grants.items) issue.grant) state.issues
  pub ended_are : (number : ℕ) → is_withdrawn state.statements number ≡ is_ended dossier.papers.ends.items number supports.place

-- ---- what calls make of them

-- the rows count one more issue with this grant and these numbers
abbrev pub CountsIssue : Dossier → GrantView → List ℕ → List Support → List Support → Type 0
CountsIssue dossier g cited old new =
    (issues : List Issue) (issue : Issue) → issue.grant ≡ g → issue.cited ≡ cited
    → AreSupportsOf dossier issues old
    → AreSupportsOf dossier (issues ++ issue ∷ []) new

-- they follow one more issue with this grant and these numbers
abbrev pub FollowsIssue : Dossier → GrantView → List ℕ → Supports → Supports → Type 0
FollowsIssue dossier g cited old new =
    (issues : List Issue) (issue : Issue) → issue.grant ≡ g → issue.cited ≡ cited
    → FollowIssues dossier issues old
    → FollowIssues dossier (issues ++ issue ∷ []) new

-- they follow the issues after the event
abbrev pub FollowsEvent : Dossier → Event → Supports → Supports → Type 0
FollowsEvent dossier event old new = (state : BaseView) → FollowIssues dossier state.issues old
    → FollowIssues dossier (next_state state event).issues new

-- whether the grant of the procap is not gone, if its seal is right
abbrev pub TellsStanding : Dossier → Supports → Procap → Bool → Type 0
TellsStanding dossier supports p stands =
    (state : BaseView) → TellsGone dossier supports state → IsGenuine dossier.key p → IsTrue stands
    ↔ (gone state p.grant ≡ None)

-- whether the grant of the procap is not gone by its issues, if its seal is right
abbrev pub TellsStandingByIssues : Dossier → Supports → Procap → Bool → Type 0
TellsStandingByIssues dossier supports p stands =
    (state : BaseView) → TellsGone dossier supports state → IsGenuine dossier.key p → IsTrue stands
    ↔ (gone_by_issues state p.grant ≡ None)
