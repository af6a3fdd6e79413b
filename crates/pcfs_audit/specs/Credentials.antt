-- What of an event rests on papers alone, and on no world: its signature, its proof, its seals, and
-- whether its grants were issued (this project's own).
use Rattle.std.specs.Prelude.{◌≡◌, ◌↔◌, ℕ, List, Bool, length, take, Some, IsTrue, Contains}
use Rattle.std.specs.List.{AllByRecursion, slice_get}
use Rattle.bl_syntax.specs.Grant.{GrantView}
use Rattle.procap.specs.Genuine.{IsGenuine}
use Rattle.procap.specs.declared.procap.Procap.{Procap}
use Rattle.policy_statement.specs.Withdrawal.{is_withdrawn}
use Rattle.journal_records.specs.declared.event.Event.{Event}
use Rattle.access_history.specs.declared.event.Issue.{Issue}
use Rattle.journal_records.specs.declared.event.Event.TheVariants.{Registered, Withdrawn, Issued, Acted}
use Rattle.access_history.specs.Authority.{Authority, IsSignedStatement}
use Rattle.policy_statement.specs.Registry.{CanRegister, sayings}
use Rattle.access_history.specs.Base.{BaseView}
use Rattle.access_history.specs.Books.{book_of}
use Rattle.access_history.specs.Citing.{MayBeIssued, MayBeWithdrawn}
use Rattle.access_history.specs.Replay.{replay}
use Rattle.pcfs_audit.specs.declared.credentials.Credentials.{Credentials}
use Rattle.pcfs_audit.specs.declared.papers.Before.{Before}
use Rattle.pcfs_audit.specs.declared.papers.Papers.{Papers}
use Rattle.pcfs_audit.specs.Ends.{is_ended}
use Rattle.pcfs_audit.specs.Finding.{IsByIssues}
use Rattle.pcfs_audit.specs.Papers.{grants_in, shown}

-- a statement is signed, new, and has room; a statement that is withdrawn stands, and its
-- withdrawal is signed; an issue may be issued; the procaps of an operation are sealed under the
-- key
abbrev pub IsGenuineEvent : Authority → BaseView → Event → Type 0
IsGenuineEvent authority state (Registered pass statement signature) = IsSignedStatement authority statement signature ×
    CanRegister (sayings state.statements) statement
IsGenuineEvent authority state (Withdrawn pass number signature) = MayBeWithdrawn authority (book_of state) number signature
IsGenuineEvent authority state (Issued pass cited proof g) = MayBeIssued state (record { cited = cited; proof = proof; grant = g })
IsGenuineEvent authority state (Acted pass caller op procaps moment) = AllByRecursion (IsGenuine authority.key) procaps

-- the grant of the procap is one of these
abbrev pub IsOfIssues : List GrantView → Procap → Type 0
IsOfIssues grants p = Contains grants p.grant

-- these are the credentials of the event
pub record HasCredentials (authority : Authority) (state : BaseView) (event : Event) (credentials : Credentials) : Type 0 where
  pub genuine : IsTrue credentials.genuine ↔ IsGenuineEvent authority state event
  pub issued : IsTrue credentials.issued ↔ IsByIssues state event

-- they are those of the event at that place, from 0
abbrev pub HasCredentialsAt : Authority → BaseView → List Event → ℕ → Credentials → Type 0
HasCredentialsAt authority base events place credentials = (event : Event) →
    slice_get events place ≡ Some event →
    HasCredentials authority (replay base (take place events)) event credentials

-- they are those of all events, in order
pub record AreCredentials (authority : Authority) (base : BaseView) (events : List Event) (all : List Credentials) : Type 0 where
  pub counted : length all ≡ length events
  pub each : (place : ℕ) (credentials : Credentials) → slice_get all place ≡ Some credentials →
      HasCredentialsAt authority base events place credentials

-- ---- what the papers tell of a state

-- before the event at that place the papers have so many statements and issues, which are those of
-- the state, and tell which of its statements were withdrawn
pub record IsToldBy (papers : Papers) (before : Before) (place : ℕ) (state : BaseView) : Type 0 where
  pub said : sayings state.statements ≡ take before.statements (shown papers.statements.items)
  pub granted : grants_in state.issues ≡ take before.issues (shown papers.grants.items)
  pub ended : (number : ℕ) →
      is_withdrawn state.statements number ≡ is_ended papers.ends.items number place

-- whether the issue may come in such a state
abbrev pub TellsIssue : Papers → Before → ℕ → Issue → Bool → Type 0
TellsIssue papers before place issue may = (state : BaseView) → IsToldBy papers before place state →
    IsTrue may ↔ MayBeIssued state issue

-- the credentials of the event over such a state
abbrev pub TellsCredentials : Authority → Papers → Before → ℕ → Event → Credentials → Type 0
TellsCredentials authority papers before place event credentials =
    (state : BaseView) → IsToldBy papers before place state →
    HasCredentials authority state event credentials
