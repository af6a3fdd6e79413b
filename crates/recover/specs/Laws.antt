-- Laws of areas and damage: bytes stand for one history, and an open area has one first damage, or
-- none if it stands for a lawful history.
use Rattle.std.specs.Prelude.{◌≡◌, ℕ, List, None, map}
use Rattle.journal_records.specs.declared.event.Event.{Event}
use Rattle.access_history.specs.Authority.{Authority}
use Rattle.access_history.specs.Base.{BaseView}
use Rattle.access_history.specs.Lawful.{IsLawful}
use Rattle.journal_core.specs.Area.{IsShut}
use Rattle.op_gate.specs.declared.damage.Damage.{Damage}
use Rattle.journal_records.specs.Passes.{erase}
use Rattle.pcfs_store.specs.Newest.{newest, SurvivesClosed}
use Rattle.pcfs_store.specs.StoredHistory.{StandsFor, Resumes}
use Rattle.recover.specs.AreaDamage.{IsDamagedArea}
use Rattle.recover.specs.Opening.{IsNewestClosed, IsNewestDamaged, IsNewestHistory}

-- bytes stand for one history only: one generation, one base, and events that differ in their
-- passes alone
abbrev pub HistoriesAreDetermined : Type 0
HistoriesAreDetermined = (bytes : List ℕ) (m n : ℕ) (base other : BaseView) (events found : List Event) →
    StandsFor bytes m base events → StandsFor bytes n other found →
    (m ≡ n) × (base ≡ other) × (map erase events ≡ map erase found)

-- an area has at most one first damage
abbrev pub DamagesAreDetermined : Type 0
DamagesAreDetermined = (authority : Authority) (bytes : List ℕ) (m n : ℕ) (c d : Damage) →
    IsDamagedArea authority bytes m c → IsDamagedArea authority bytes n d → (m ≡ n) × (c ≡ d)

-- an area that stands for a lawful history is not damaged
abbrev pub LawfulAreNotDamaged : Type 0
LawfulAreNotDamaged = (authority : Authority) (bytes : List ℕ) (generation : ℕ) (base : BaseView) (events : List Event) (number : ℕ) (damage : Damage) →
    StandsFor bytes generation base events → IsLawful authority base events →
    IsDamagedArea authority bytes number damage → ⊥

-- a damaged area is open
abbrev pub DamagedAreOpen : Type 0
DamagedAreOpen = (authority : Authority) (bytes : List ℕ) (number : ℕ) (damage : Damage) →
    IsDamagedArea authority bytes number damage → IsShut bytes → ⊥

-- No open area is neither: it stands for a lawful history, or it has a first damage.
abbrev pub OpenAreLawfulOrDamaged : Type 0
OpenAreLawfulOrDamaged = (authority : Authority) (bytes : List ℕ) → (IsShut bytes → ⊥) →
    ((generation : ℕ) (base : BaseView) (events : List Event) → StandsFor bytes generation base events → IsLawful authority base events → ⊥) →
    ((number : ℕ) (damage : Damage) → IsDamagedArea authority bytes number damage → ⊥) → ⊥

-- What is left of a lawful history, with its closed gate, is opened: an area counts and is not
-- damaged, and whatever history it holds resumes the events that are left, and has its closed gate.
pub record IsOpenedAgain (authority : Authority) (base : BaseView) (events : List Event) (kept : ℕ) (first second : List ℕ) : Type 0 where
  pub counts : newest first second ≡ None → ⊥
  pub whole : (number : ℕ) (damage : Damage) →
      IsNewestDamaged authority number damage first second → ⊥
  pub same : (generation : ℕ) (image : List ℕ) (found_base : BaseView) (found : List Event) →
      IsNewestHistory authority generation image found_base found first second →
      Resumes found_base found base events kept × IsNewestClosed generation image found first second

-- what survives of a lawful history, with its closed gate, is opened
abbrev pub SurvivorsAreOpened : Type 0
SurvivorsAreOpened = (authority : Authority) (base : BaseView) (events : List Event) (kept : ℕ) (first second : List ℕ) →
    IsLawful authority base events → SurvivesClosed base events kept first second →
    IsOpenedAgain authority base events kept first second
