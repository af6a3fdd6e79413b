-- The damage of a state with which a history is to begin: the tests that it has to pass, in their
-- order over the whole of it, and the first that it does not pass (this project's own).
use Rattle.std.specs.Prelude.{◌≤◌, ℕ, List, [], ◌∷◌, length, Result, Ok, Err}
use Rattle.std.specs.List.{AllByRecursion}
use Rattle.bl_syntax.specs.declared.limits.TheConstants.{MOST_STATEMENTS, MOST_EVENTS}
use Rattle.bl_syntax.specs.FirstFailing.{IsFirstFailing}
use Rattle.bl_syntax.specs.Grant.{AreDistinct}
use Rattle.bl_syntax.specs.TimeOrder.{IsMoment}
use Rattle.policy_statement.specs.Registered.{RegisteredView}
use Rattle.access_history.specs.Authority.{Authority, IsSignedEntry}
use Rattle.policy_statement.specs.Registry.{sayings}
use Rattle.access_history.specs.Base.{BaseView}
use Rattle.access_history.specs.Citing.{IsGoodIssue}
use Rattle.access_history.specs.Lawful.{IsLawfulBase}
use Rattle.op_gate.specs.declared.damage.Damage.{Damage}
use Rattle.op_gate.specs.declared.damage.Damage.TheVariants.{Header, Shape, Unsigned, Unproved, NotAdmitted, MomentFalls, Duplicate}
use Rattle.op_gate.specs.declared.damage.AdmitFault.{AdmitFault}
use Rattle.op_gate.specs.declared.damage.AdmitFault.TheVariants.{Damaged, NoMemory}

-- its moment lies in the range of moments, and the number of its last event is at most 2^48 - 1
pub record IsBaseShaped (base : BaseView) : Type 0 where
  pub moment_in_range : IsMoment base.moment
  pub counted : base.count ≤ MOST_EVENTS

-- no two statements are equal, whatever their signatures, and there are at most 4,096
pub record AreNew (entries : List RegisteredView) : Type 0 where
  pub differ : AreDistinct (sayings entries)
  pub fit : length entries ≤ MOST_STATEMENTS

-- the state does not have this damage: it passes the test of that name over the whole of it. What
-- stands before the state is no part of it, and it has no operations
abbrev pub IsBaseFreeOf : Authority → BaseView → Damage → Type 0
IsBaseFreeOf authority base Header = Unit {0}
IsBaseFreeOf authority base Shape = IsBaseShaped base
IsBaseFreeOf authority base Unsigned = AllByRecursion (IsSignedEntry authority) base.statements
IsBaseFreeOf authority base Unproved = AllByRecursion (IsGoodIssue (sayings base.statements)) base.issues
IsBaseFreeOf authority base NotAdmitted = Unit {0}
IsBaseFreeOf authority base MomentFalls = Unit {0}
IsBaseFreeOf authority base Duplicate = AreNew base.statements

-- the damages that a state can have, in the order in which they count
abbrev pub base_damages : List Damage
base_damages = Shape ∷ Unsigned ∷ Unproved ∷ Duplicate ∷ []

-- the first damage of the state
pub record IsDamagedBase (authority : Authority) (base : BaseView) (damage : Damage) : Type 0 where
  pub place : ℕ
  pub first : IsFirstFailing (IsBaseFreeOf authority base) base_damages place damage

-- what is answered to a state that was read: a history may begin with it, or it has this first
-- damage, or there was no memory
abbrev pub TellsBase : {A : Type 0} → Authority → BaseView → Result A AdmitFault → Type 0
TellsBase authority base (Ok value) = IsLawfulBase authority base
TellsBase authority base (Err (Damaged damage)) = IsDamagedBase authority base damage
TellsBase authority base (Err NoMemory) = Unit {0}
