-- Laws of damages: an event has at most one first damage, and it may come next exactly if it has
-- none; and a history may begin with a state exactly if it has none.
use Rattle.std.specs.Prelude.{◌≡◌, ◌↔◌, IsTrue}
use Rattle.std.specs.List.{AllByRecursion}
use Rattle.bl_syntax.specs.Names.{is_principal_name}
use Rattle.bl_syntax.specs.Statement.{IsStatement}
use Rattle.file_world.specs.Effect.{IsOperation}
use Rattle.file_world.specs.World.{IsWorld}
use Rattle.journal_records.specs.declared.event.Event.{Event}
use Rattle.journal_records.specs.declared.event.Event.TheVariants.{Registered, Acted}
use Rattle.access_history.specs.Authority.{Authority}
use Rattle.policy_statement.specs.Registry.{sayings}
use Rattle.access_history.specs.Base.{BaseView}
use Rattle.access_history.specs.Lawful.{IsLawfulBase}
use Rattle.op_gate.specs.declared.damage.Damage.{Damage}
use Rattle.op_gate.specs.Damage.{IsFreeOf, IsDamagedBy, MayComeNext, event_damages}
use Rattle.op_gate.specs.BaseDamage.{IsBaseFreeOf, IsDamagedBase, base_damages}

-- what the types of the code keep of every event: a statement may be said, and an operation is a
-- principal's
abbrev pub IsTypedEvent : Event → Type 0
IsTypedEvent (Registered pass statement signature) = IsStatement statement
IsTypedEvent (Acted pass caller op procaps moment) = IsTrue (is_principal_name caller) ×
    IsOperation op
IsTypedEvent _ = Unit {0}

-- an event has at most one first damage
abbrev pub FirstDamagesAreDetermined : Type 0
FirstDamagesAreDetermined = (authority : Authority) (state : BaseView) (event : Event) (first second : Damage) →
    IsDamagedBy authority state event first → IsDamagedBy authority state event second →
    first ≡ second

-- an event with a damage may not come next, or there is no number for it
abbrev pub DamagedMayNotFollow : Type 0
DamagedMayNotFollow = (authority : Authority) (state : BaseView) (event : Event) (damage : Damage) →
    IsDamagedBy authority state event damage → MayComeNext authority state event → ⊥

-- an event without damage may come next, over a state with which a history may begin
abbrev pub FreeMayFollow : Type 0
FreeMayFollow = (authority : Authority) (state : BaseView) (event : Event) →
    IsLawfulBase authority state → IsTypedEvent event →
    AllByRecursion (IsFreeOf authority state event) event_damages →
    MayComeNext authority state event

-- ---- states with which a history is to begin

-- what the types of the code keep of every state: its world is within its limits, and its
-- statements may be said
abbrev pub IsTypedBase : BaseView → Type 0
IsTypedBase base = IsWorld base.world × AllByRecursion IsStatement (sayings base.statements)

-- a state has at most one first damage
abbrev pub BaseDamagesAreDetermined : Type 0
BaseDamagesAreDetermined = (authority : Authority) (base : BaseView) (first second : Damage) →
    IsDamagedBase authority base first → IsDamagedBase authority base second → first ≡ second

-- a history may not begin with a state that has a damage
abbrev pub DamagedMayNotBegin : Type 0
DamagedMayNotBegin = (authority : Authority) (base : BaseView) (damage : Damage) →
    IsDamagedBase authority base damage → IsLawfulBase authority base → ⊥

-- a history may begin with a state exactly if it has none of the damages
abbrev pub FreeMayBegin : Type 0
FreeMayBegin = (authority : Authority) (base : BaseView) → IsTypedBase base →
    IsLawfulBase authority base ↔ AllByRecursion (IsBaseFreeOf authority base) base_damages
