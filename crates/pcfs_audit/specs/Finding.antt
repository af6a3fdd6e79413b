-- What an audit finds with an event, over the state before it (this project's own).
use Rattle.std.specs.Prelude.{ℕ, List, [], ◌∷◌, Bool, true, false, Option, Some, None}
use Rattle.std.specs.List.{AllByRecursion}
use Rattle.bl_syntax.specs.FirstFailing.{IsFirstFailing}
use Rattle.procap.specs.declared.procap.Procap.{Procap}
use Rattle.access_history.specs.declared.event.Issue.{Issue}
use Rattle.journal_records.specs.declared.event.Event.{Event}
use Rattle.journal_records.specs.declared.event.Event.TheVariants.{Acted}
use Rattle.access_history.specs.Authority.{Authority}
use Rattle.access_history.specs.Base.{BaseView}
use Rattle.access_history.specs.Keeping.{HasMomentInRange}
use Rattle.access_history.specs.Lawful.{WasIssued}
use Rattle.op_gate.specs.Damage.{IsSigned, IsNew, NamesLive, IsProved, IsNotBefore, IsEffective}
use Rattle.pcfs_audit.specs.declared.report.Finding.{Finding}
use Rattle.pcfs_audit.specs.declared.report.Finding.TheVariants.{Unsigned, Unproved, NotAdmitted, MomentFalls, Unissued}

-- the grant of each of these procaps was issued
abbrev pub WereIssued : List Issue → List Procap → Type 0
WereIssued issues procaps = AllByRecursion (λ (p : Procap). WasIssued issues p.grant) procaps

-- the grants by which an operation was admitted were issued before it
abbrev pub IsByIssues : BaseView → Event → Type 0
IsByIssues state (Acted pass caller op procaps moment) = WereIssued state.issues procaps
IsByIssues state _ = Unit {0}

-- The event passes the test whose failure is found under that name; it passes each test that does
-- not concern it. A statement is signed, new, and has room; a withdrawal is signed, of a statement
-- that stands; an issue is good and
-- cites statements that stand; an operation is not before the last one; its moment lies in the
-- range, it brings what it has to, was admitted and not refused; and its grants were issued.
abbrev pub IsClearOf : Authority → BaseView → Event → Finding → Type 0
IsClearOf authority state event Unsigned = IsSigned authority state event ×
    (IsNew state event × NamesLive state event)
IsClearOf authority state event Unproved = IsProved state event
IsClearOf authority state event NotAdmitted = HasMomentInRange event ×
    IsEffective authority state event
IsClearOf authority state event MomentFalls = IsNotBefore state event
IsClearOf authority state event Unissued = IsByIssues state event

-- what is wrong with an event that may not stand where it stands, in the order in which it counts
abbrev pub wrong_findings : List Finding
wrong_findings = Unsigned ∷ Unproved ∷ MomentFalls ∷ NotAdmitted ∷ []

-- all that can be found, in the order in which it counts
abbrev pub all_findings : List Finding
all_findings = Unsigned ∷ Unproved ∷ MomentFalls ∷ NotAdmitted ∷ Unissued ∷ []

-- nothing is wrong with the event: it may stand where it stands
abbrev pub IsSound : Authority → BaseView → Event → Type 0
IsSound authority state event = AllByRecursion (IsClearOf authority state event) wrong_findings

-- nothing is found with the event
abbrev pub IsClean : Authority → BaseView → Event → Type 0
IsClean authority state event = AllByRecursion (IsClearOf authority state event) all_findings

-- this is found first with the event
pub record IsFound (authority : Authority) (state : BaseView) (event : Event) (finding : Finding) : Type 0 where
  pub place : ℕ
  pub first : IsFirstFailing (IsClearOf authority state event) all_findings place finding

-- nothing is found with the event, or this first
abbrev pub Finds : Authority → BaseView → Event → Option Finding → Type 0
Finds authority state event None = IsClean authority state event
Finds authority state event (Some finding) = IsFound authority state event finding

-- whether the event may not stand where it stands
abbrev pub is_wrong : Finding → Bool
is_wrong Unsigned = true
is_wrong Unproved = true
is_wrong NotAdmitted = true
is_wrong MomentFalls = true
is_wrong Unissued = false

-- whether it stands where it may, and only a grant was not issued before it
abbrev pub is_unissued : Finding → Bool
is_unissued Unsigned = false
is_unissued Unproved = false
is_unissued NotAdmitted = false
is_unissued MomentFalls = false
is_unissued Unissued = true
