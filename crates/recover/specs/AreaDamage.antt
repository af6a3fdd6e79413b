-- What is wrong first with an area that stands for no lawful history: the record, and its first
-- damage. This project's own.
use Rattle.std.specs.Prelude.{◌≡◌, ◌+◌, ℕ, List, ◌∷◌, ◌++◌, length, get_or}
use Rattle.std.specs.List.{AllByRecursion}
use Rattle.journal_core.specs.Area.{IsFront, HasNoBase, area_bytes}
use Rattle.journal_records.specs.declared.event.Event.{Event}
use Rattle.access_history.specs.Authority.{Authority}
use Rattle.access_history.specs.Base.{BaseView}
use Rattle.access_history.specs.Lawful.{IsLawful}
use Rattle.access_history.specs.Replay.{replay}
use Rattle.journal_records.specs.EventSpelling.{event_spelling, IsSpellableEvent, IsReadEvent}
use Rattle.op_gate.specs.declared.damage.Damage.{Damage}
use Rattle.op_gate.specs.declared.damage.Damage.TheVariants.{Header, Shape}
use Rattle.op_gate.specs.Damage.{IsDamagedBy}
use Rattle.op_gate.specs.BaseDamage.{IsDamagedBase}
use Rattle.checkpoint.specs.Reading.{IsImageOf}
use Rattle.pcfs_store.specs.StoredHistory.{payloads_of}

-- The first damage of an image: the bytes are the image of no state; or they are that of a state,
-- which has that damage.
pub data IsDamagedImage (authority : Authority) (image : List ℕ) : Damage → Type 0 where
  no_state : ((base : BaseView) → IsImageOf base image → ⊥) → IsDamagedImage authority image Shape
  of_state : (base : BaseView) (damage : Damage) → IsImageOf base image →
      IsDamagedBase authority base damage → IsDamagedImage authority image damage

-- these are the events of which the payloads are the spellings; no spelling has a pass, so they
-- have pass 0
pub record AreRead (payloads : List (List ℕ)) (events : List Event) : Type 0 where
  pub payloads_are : payloads ≡ payloads_of events
  pub each : AllByRecursion IsReadEvent events

-- the first damage of a payload, over the state before it: it is the spelling of no event, or its
-- event has that damage
pub data IsDamagedPayload (authority : Authority) (state : BaseView) (payload : List ℕ) : Damage →
    Type 0 where
  no_event : ((event : Event) → IsSpellableEvent event → payload ≡ event_spelling event → ⊥) →
      IsDamagedPayload authority state payload Shape
  of_event : (event : Event) (damage : Damage) → IsReadEvent event →
      payload ≡ event_spelling event → IsDamagedBy authority state event damage →
      IsDamagedPayload authority state payload damage

-- The first payload that is damaged, by its number from 1, and its first damage: the payloads
-- before it are of events that are lawful after the base, and it is damaged over the state to which
-- they lead.
pub record IsDamagedAt (authority : Authority) (base : BaseView) (payloads : List (List ℕ)) (number : ℕ) (damage : Damage) : Type 0 where
  pub before : List (List ℕ)
  pub payload : List ℕ
  pub others : List (List ℕ)
  pub parts : payloads ≡ before ++ payload ∷ others
  pub number_is : number ≡ length before + 1
  pub events : List Event
  pub read : AreRead before events
  pub lawful : IsLawful authority base events
  pub damaged : IsDamagedPayload authority (replay base events) payload damage

-- All these payloads are of events that are lawful after the base.
pub record AreLawfulPayloads (authority : Authority) (base : BaseView) (payloads : List (List ℕ)) : Type 0 where
  pub events : List Event
  pub read : AreRead payloads events
  pub lawful : IsLawful authority base events

-- The number of the record that is damaged first, 0 for header and image, and its first damage:
-- there is no header with an image; or the image is damaged; or it is that of a state, and a
-- payload is damaged after it;
-- or an open gate stands after the last whole record, whose record is cut or passes the limit, and
-- all payloads before it are lawful.
pub data IsDamagedArea (authority : Authority) (bytes : List ℕ) : ℕ → Damage → Type 0 where
  no_base : HasNoBase bytes → IsDamagedArea authority bytes 0 Header
  no_image : (generation : ℕ) (image : List ℕ) (payloads : List (List ℕ)) (damage : Damage) →
      IsFront bytes generation image payloads → IsDamagedImage authority image damage →
      IsDamagedArea authority bytes 0 damage
  no_payload : (generation : ℕ) (image : List ℕ) (base : BaseView) (payloads : List (List ℕ)) (number : ℕ) (damage : Damage) →
      IsFront bytes generation image payloads → IsImageOf base image →
      IsDamagedAt authority base payloads number damage →
      IsDamagedArea authority bytes number damage
  no_record : (generation : ℕ) (image : List ℕ) (base : BaseView) (payloads : List (List ℕ)) →
      IsFront bytes generation image payloads → IsImageOf base image →
      AreLawfulPayloads authority base payloads →
      get_or bytes (length (area_bytes generation image payloads)) 0 ≡ 1 →
      IsDamagedArea authority bytes (length payloads + 1) Shape
