-- What is found of the image and the payloads of an area (this project's own).
use Rattle.std.specs.Prelude.{◌≡◌, ◌⊎◌, ℕ, List, [], ◌∷◌, ◌++◌, None, Result, Ok, Err}
use Rattle.bl_syntax.specs.declared.codec_fault.CodecFault.{CodecFault}
use Rattle.bl_syntax.specs.declared.codec_fault.CodecFault.TheVariants as codec
use Rattle.policy_statement.specs.Ring.{KeyView}
use Rattle.journal_records.specs.declared.event.Event.{Event}
use Rattle.access_history.specs.Authority.{Authority}
use Rattle.access_history.specs.History.{authority_with}
use Rattle.access_history.specs.Lawful.{IsLawful}
use Rattle.access_history.specs.Base.{BaseView}
use Rattle.access_history.specs.Replay.{replay}
use Rattle.journal_records.specs.EventSpelling.{event_spelling, IsReadEvent}
use Rattle.op_gate.specs.declared.damage.Damage.TheVariants.{Shape}
use Rattle.op_gate.specs.declared.damage.AdmitFault.{AdmitFault}
use Rattle.op_gate.specs.declared.damage.AdmitFault.TheVariants as admits
use Rattle.op_gate.specs.Decision.{GateView}
use Rattle.checkpoint.specs.Reading.{IsImageOf}
use Rattle.recover.specs.declared.fault.OpenFault.{OpenFault}
use Rattle.recover.specs.declared.fault.OpenFault.TheVariants as opens
use Rattle.recover.specs.AreaDamage.{AreRead, IsDamagedImage, IsDamagedPayload, IsDamagedAt}

-- a gate before the first event after the state of an image, under this key and ring
pub record IsGateOf (key : List ℕ) (ring : List KeyView) (image : List ℕ) (gate : GateView) : Type 0 where
  pub key_is : gate.key ≡ key
  pub ring_is : gate.ring ≡ ring
  pub image_is : IsImageOf gate.base image
  pub events_are : gate.events ≡ []
  pub idle : gate.pending ≡ None

-- the image is that of a state with which the gate begins, or it has this first damage, or there
-- was no memory
abbrev pub ReadsGate : List ℕ → List KeyView → List ℕ → Result GateView AdmitFault → Type 0
ReadsGate key ring image (Ok gate) = IsGateOf key ring image gate
ReadsGate key ring image (Err (admits.Damaged damage)) = IsDamagedImage (authority_with key ring) image damage
ReadsGate key ring image (Err admits.NoMemory) = Unit {0}

-- the gate has the same key, ring and base, and nothing is pending
pub record IsSameGate (old new : GateView) : Type 0 where
  pub key : new.key ≡ old.key
  pub ring : new.ring ≡ old.ring
  pub base : new.base ≡ old.base
  pub pending : new.pending ≡ None

-- the payload is of an event, which is kept
pub record KeepsPayload (old : GateView) (payload : List ℕ) (new : GateView) : Type 0 where
  pub event : Event
  pub read : IsReadEvent event
  pub spelled : payload ≡ event_spelling event
  pub kept : new.events ≡ old.events ++ event ∷ []

-- the payload's event is kept, or it has this first damage, or there was no memory; then the events
-- are as before
abbrev pub AdmitsPayload : GateView → List ℕ → Result (Unit {0}) AdmitFault → GateView → Type 0
AdmitsPayload old payload (Ok done) new = KeepsPayload old payload new
AdmitsPayload old payload (Err (admits.Damaged damage)) new = IsDamagedPayload (authority_with old.key old.ring) (replay old.base old.events) payload damage ×
    (new.events ≡ old.events)
AdmitsPayload old payload (Err admits.NoMemory) new = Unit {0}

-- all payloads are of events, which are kept, or this is the first that is damaged after the base,
-- or there was no memory
abbrev pub AdmitsPayloads : Authority → BaseView → List (List ℕ) → Result (Unit {0}) OpenFault →
    List Event → Type 0
AdmitsPayloads authority base payloads (Ok done) events = AreRead payloads events
AdmitsPayloads authority base payloads (Err opens.NoStore) events = ⊥
AdmitsPayloads authority base payloads (Err (opens.Damaged number damage)) events = IsDamagedAt authority base payloads number damage
AdmitsPayloads authority base payloads (Err opens.Disk) events = ⊥
AdmitsPayloads authority base payloads (Err opens.NoMemory) events = Unit {0}

-- a gate whose history is that of the image and the payloads, under this key and ring
pub record HoldsHistory (key : List ℕ) (ring : List KeyView) (image : List ℕ) (payloads : List (List ℕ)) (gate : GateView) : Type 0 where
  pub key_is : gate.key ≡ key
  pub ring_is : gate.ring ≡ ring
  pub image_is : IsImageOf gate.base image
  pub idle : gate.pending ≡ None
  pub read : AreRead payloads gate.events
  pub lawful : IsLawful (authority_with key ring) gate.base gate.events

-- a fault of reading an image, or the event of a payload
abbrev pub unread : CodecFault → AdmitFault
unread codec.Short = admits.Damaged Shape
unread (codec.BadTag at) = admits.Damaged Shape
unread (codec.NotCanonical at) = admits.Damaged Shape
unread (codec.TooLarge at) = admits.Damaged Shape
unread codec.NoMemory = admits.NoMemory

-- a fault of the record of that number
abbrev pub fault_at : ℕ → AdmitFault → OpenFault
fault_at number (admits.Damaged damage) = opens.Damaged number damage
fault_at number admits.NoMemory = opens.NoMemory

-- the image is damaged, or it is that of a state, and this payload is damaged first after it, or
-- there was no memory
abbrev pub HasDamage : Authority → List ℕ → List (List ℕ) → OpenFault → Type 0
HasDamage authority image payloads opens.NoStore = ⊥
HasDamage authority image payloads (opens.Damaged number damage) =
    ((number ≡ 0) × IsDamagedImage authority image damage) ⊎ ((base : BaseView) × IsImageOf base image × IsDamagedAt authority base payloads number damage)
HasDamage authority image payloads opens.Disk = ⊥
HasDamage authority image payloads opens.NoMemory = Unit {0}
