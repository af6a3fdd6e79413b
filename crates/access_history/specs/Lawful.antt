-- Which histories are lawful: each event is one that the state before it allows (this project's
-- own).
use Rattle.std.specs.Prelude.{◌≡◌, ◌≤◌, ◌+◌, ◌≤ℤ◌, ℕ, ℤ, List, [], ◌∷◌, ◌++◌, length, Contains, None}
use Rattle.std.specs.List.{AllByRecursion}
use Rattle.bl_syntax.specs.declared.limits.TheConstants.{MOST_STATEMENTS, MOST_EVENTS}
use Rattle.bl_rules.specs.Allowed.{Allows}
use Rattle.bl_syntax.specs.TimeOrder.{IsMoment}
use Rattle.bl_syntax.specs.Statement.{IsStatement}
use Rattle.bl_syntax.specs.Grant.{GrantView, AreDistinct}
use Rattle.procap.specs.declared.procap.Procap.{Procap}
use Rattle.file_world.specs.declared.operation.Op.{Op}
use Rattle.file_world.specs.World.{IsWorld}
use Rattle.file_world.specs.Effect.{refusal}
use Rattle.file_world.specs.Facts.{facts}
use Rattle.file_world.specs.Needs.{Need, needs}
use Rattle.access_history.specs.declared.event.Issue.{Issue}
use Rattle.journal_records.specs.declared.event.Event.{Event}
use Rattle.journal_records.specs.declared.event.Event.TheVariants.{Registered, Withdrawn, Issued, Acted}
use Rattle.access_history.specs.Base.{BaseView}
use Rattle.access_history.specs.Numbered.{IsNumbered}
use Rattle.access_history.specs.Authority.{Authority, MayBeRegistered, IsSignedEntry}
use Rattle.policy_statement.specs.Registry.{sayings}
use Rattle.access_history.specs.Books.{book_of, statements_in}
use Rattle.access_history.specs.Citing.{IsGoodIssue, MayBeIssued, MayBeWithdrawn}
use Rattle.access_history.specs.Admission.{IsAdmitted}
use Rattle.access_history.specs.WellFormed.{IsWellFormedAct}
use Rattle.access_history.specs.Replay.{replay}

-- the grant is that of an issue
pub record WasIssued (issues : List Issue) (g : GrantView) : Type 0 where
  pub issue : Issue
  pub among : Contains issues issue
  pub grant_is : issue.grant ≡ g

-- if the grant of the procap in the need's place was issued, the logic derives what the caller
-- needs from the statements that stand, over the facts of the state, at that moment
abbrev pub IsDerived : BaseView → List ℕ → List Procap → ℤ → Need → Type 0
IsDerived state caller procaps moment need =
    (p : Procap) → IsNumbered procaps need.place p → WasIssued state.issues p.grant →
    Allows (statements_in (book_of state)) (facts state.world) moment caller need.file need.permission

-- each need is derived
abbrev pub AreDerived : BaseView → List ℕ → Op → List Procap → ℤ → Type 0
AreDerived state caller op procaps moment = AllByRecursion (IsDerived state caller procaps moment) (needs state.world op)

-- the caller's operation may come next, at that moment
pub record MayAct (authority : Authority) (state : BaseView) (caller : List ℕ) (op : Op) (procaps : List Procap) (moment : ℤ) : Type 0 where
  pub not_before : state.moment ≤ℤ moment
  pub in_range : IsMoment moment
  pub formed : IsWellFormedAct caller op procaps
  pub admitted : IsAdmitted authority.key state caller op procaps moment
  pub not_refused : refusal state.world op ≡ None
  pub derived : AreDerived state caller op procaps moment

-- the event may come next
abbrev pub MayFollow : Authority → BaseView → Event → Type 0
MayFollow authority state (Registered pass statement signature) = MayBeRegistered authority state.statements statement signature
MayFollow authority state (Withdrawn pass number signature) = MayBeWithdrawn authority (book_of state) number signature
MayFollow authority state (Issued pass cited proof g) = MayBeIssued state (record { cited = cited; proof = proof; grant = g })
MayFollow authority state (Acted pass caller op procaps moment) = MayAct authority state caller op procaps moment

-- each event could come where it came
pub data AreLawful (authority : Authority) (base : BaseView) : List Event → Type 0 where
  no_event : AreLawful authority base []
  one_more : (events : List Event) (event : Event) → AreLawful authority base events →
      MayFollow authority (replay base events) event →
      AreLawful authority base (events ++ event ∷ [])

-- a state that a history may begin with
pub record IsLawfulBase (authority : Authority) (base : BaseView) : Type 0 where
  pub tree : IsWorld base.world
  pub statements_differ : AreDistinct (sayings base.statements)
  pub statements_formed : AllByRecursion IsStatement (sayings base.statements)
  pub statements_signed : AllByRecursion (IsSignedEntry authority) base.statements
  pub statements_fit : length base.statements ≤ MOST_STATEMENTS
  pub moment_in_range : IsMoment base.moment
  pub good_issues : AllByRecursion (IsGoodIssue (sayings base.statements)) base.issues
  pub counted : base.count ≤ MOST_EVENTS

-- a lawful base, and events that could each come where it came, under that authority
pub record IsLawful (authority : Authority) (base : BaseView) (events : List Event) : Type 0 where
  pub lawful_base : IsLawfulBase authority base
  pub counted : base.count + length events ≤ MOST_EVENTS
  pub each : AreLawful authority base events
