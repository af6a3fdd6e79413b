-- The damage of an event that was read from an area: the tests that it has to pass to come next, in
-- their order, and the first that it does not pass (this project's own).
use Rattle.std.specs.Prelude.{◌≡◌, ◌<◌, ◌≤ℤ◌, ℕ, ℤ, List, [], ◌∷◌, Some, None, Result, Ok, Err}
use Rattle.bl_syntax.specs.declared.limits.TheConstants.{MOST_EVENTS}
use Rattle.bl_syntax.specs.FirstFailing.{IsFirstFailing}
use Rattle.procap.specs.declared.procap.Procap.{Procap}
use Rattle.file_world.specs.declared.operation.Op.{Op}
use Rattle.file_world.specs.Effect.{refusal}
use Rattle.journal_records.specs.declared.event.Event.{Event}
use Rattle.journal_records.specs.declared.event.Event.TheVariants.{Registered, Withdrawn, Issued, Acted}
use Rattle.access_history.specs.Admission.{IsAdmitted}
use Rattle.bl_syntax.specs.Statement.{StatementView}
use Rattle.access_history.specs.Authority.{Authority, IsSignedStatement, IsSignedWithdrawal}
use Rattle.policy_statement.specs.Registry.{CanRegister, sayings}
use Rattle.access_history.specs.Base.{BaseView}
use Rattle.access_history.specs.Books.{Book, book_of}
use Rattle.access_history.specs.Citing.{IsHeld, MayBeIssued}
use Rattle.access_history.specs.Numbered.{IsNumbered}
use Rattle.access_history.specs.Keeping.{HasMomentInRange}
use Rattle.access_history.specs.Lawful.{MayFollow}
use Rattle.access_history.specs.WellFormed.{BringsEnough}
use Rattle.op_gate.specs.declared.damage.Damage.{Damage}
use Rattle.op_gate.specs.declared.damage.Damage.TheVariants.{Header, Shape, Unsigned, Unproved, NotAdmitted, MomentFalls, Duplicate}
use Rattle.op_gate.specs.declared.damage.AdmitFault.{AdmitFault}
use Rattle.op_gate.specs.declared.damage.AdmitFault.TheVariants.{Damaged, NoMemory}

-- ---- the tests, each of the events that it concerns; it holds of every other

-- a withdrawal names a statement that stands
abbrev pub NamesLive : BaseView → Event → Type 0
NamesLive state (Withdrawn pass number signature) = IsHeld (book_of state) number
NamesLive state _ = Unit {0}

-- there is a number for one more event, at most 2^48 - 1, the event's moment lies in the range of
-- moments, and the statement that it withdraws stands
pub record HasShape (state : BaseView) (event : Event) : Type 0 where
  pub counted : state.count < MOST_EVENTS
  pub in_range : HasMomentInRange event
  pub live : NamesLive state event

-- the signature is accepted from who said the statement that stands under the number, under the
-- message of its withdrawal
abbrev pub IsWithdrawalSigned : Authority → Book → ℕ → List ℕ → Type 0
IsWithdrawalSigned authority book number signature = (statement : StatementView) →
    IsNumbered book number (Some statement) → IsSignedWithdrawal authority statement signature

-- the signature of a statement is accepted from who says it, and that of a withdrawal from who said
-- the statement
abbrev pub IsSigned : Authority → BaseView → Event → Type 0
IsSigned authority state (Registered pass statement signature) = IsSignedStatement authority statement signature
IsSigned authority state (Withdrawn pass number signature) = IsWithdrawalSigned authority (book_of state) number signature
IsSigned authority state _ = Unit {0}

-- an issue cites 1 to 64 statements that stand, by strictly rising numbers, and its grant is
-- granted by its proof from them
abbrev pub IsProved : BaseView → Event → Type 0
IsProved state (Issued pass cited proof g) = MayBeIssued state (record { cited = cited; proof = proof; grant = g })
IsProved state _ = Unit {0}

-- the moment of an operation is not before the last one
abbrev pub IsNotBefore : BaseView → Event → Type 0
IsNotBefore state (Acted pass caller op procaps moment) = state.moment ≤ℤ moment
IsNotBefore state _ = Unit {0}

-- an operation brings what it has to, it is admitted at its moment, and it is not refused
pub record TakesEffect (key : List ℕ) (state : BaseView) (caller : List ℕ) (op : Op) (procaps : List Procap) (moment : ℤ) : Type 0 where
  pub brought : BringsEnough op procaps
  pub admitted : IsAdmitted key state caller op procaps moment
  pub not_refused : refusal state.world op ≡ None

abbrev pub IsEffective : Authority → BaseView → Event → Type 0
IsEffective authority state (Acted pass caller op procaps moment) = TakesEffect authority.key state caller op procaps moment
IsEffective authority state _ = Unit {0}

-- no equal statement is there, and fewer than 4,096 are
abbrev pub IsNew : BaseView → Event → Type 0
IsNew state (Registered pass statement signature) = CanRegister (sayings state.statements) statement
IsNew state _ = Unit {0}

-- ---- the first that fails

-- the event does not have this damage: it passes the test of that name. What stands before the
-- records is no part of an event
abbrev pub IsFreeOf : Authority → BaseView → Event → Damage → Type 0
IsFreeOf authority state event Header = Unit {0}
IsFreeOf authority state event Shape = HasShape state event
IsFreeOf authority state event Unsigned = IsSigned authority state event
IsFreeOf authority state event Unproved = IsProved state event
IsFreeOf authority state event NotAdmitted = IsEffective authority state event
IsFreeOf authority state event MomentFalls = IsNotBefore state event
IsFreeOf authority state event Duplicate = IsNew state event

-- the damages that an event can have, in the order in which they count: a moment that falls counts
-- before an operation that is not admitted
abbrev pub event_damages : List Damage
event_damages = Shape ∷ Unsigned ∷ Unproved ∷ MomentFalls ∷ NotAdmitted ∷ Duplicate ∷ []

-- the first damage of the event, over the state before it
pub record IsDamagedBy (authority : Authority) (state : BaseView) (event : Event) (damage : Damage) : Type 0 where
  pub place : ℕ
  pub first : IsFirstFailing (IsFreeOf authority state event) event_damages place damage

-- the event may come next, and there is a number for it
pub record MayComeNext (authority : Authority) (state : BaseView) (event : Event) : Type 0 where
  pub counted : state.count < MOST_EVENTS
  pub follows : MayFollow authority state event

-- what is answered to an event that was read: it may come next, or it has this first damage, or
-- there was no memory
abbrev pub TellsDamage : Authority → BaseView → Event → Result (Unit {0}) AdmitFault → Type 0
TellsDamage authority state event (Ok done) = MayComeNext authority state event
TellsDamage authority state event (Err (Damaged damage)) = IsDamagedBy authority state event damage
TellsDamage authority state event (Err NoMemory) = Unit {0}
