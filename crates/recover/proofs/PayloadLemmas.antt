-- The payloads of an area, one after the other, over plain values.
use Rattle.std.proofs.Common.{◌≡◌, ◌≤◌, ◌<◌, ◌+◌, ℕ, List, [], ◌∷◌, ◌++◌, length, take, drop, get_or, refl, sym, ap, subst, ◌∙◌, arith}
use Rattle.std.specs.Prelude.{Result, Ok, Err, OnOk, OnErr}
use Rattle.std.specs.List.{AllByRecursion}
use Rattle.std.proofs.lemmas.List.{map-append, length-take-le, take-append-drop, take_all, take_more, drop_more}
use Rattle.policy_statement.specs.Ring.{KeyView}
use Rattle.journal_records.specs.declared.event.Event.{Event}
use Rattle.access_history.specs.Authority.{Authority}
use Rattle.access_history.specs.Base.{BaseView}
use Rattle.access_history.specs.History.{HistoryView, authority_of, authority_with}
use Rattle.access_history.specs.Lawful.{IsLawful}
use Rattle.access_history.specs.Replay.{replay}
use Rattle.bl_syntax.proofs.GrantLemmas.{AllByRecursion-push}
use Rattle.bl_syntax.specs.declared.codec_fault.CodecFault.{CodecFault}
use Rattle.bl_syntax.specs.declared.codec_fault.CodecFault.TheVariants as codec
use Rattle.journal_records.specs.EventReading.{ReadsWholeEvent}
use Rattle.journal_records.specs.EventSpelling.{event_spelling, IsReadEvent}
use Rattle.op_gate.specs.declared.damage.Damage.{Damage}
use Rattle.op_gate.specs.declared.damage.AdmitFault.{AdmitFault}
use Rattle.op_gate.specs.declared.damage.AdmitFault.TheVariants.{Damaged, NoMemory}
use Rattle.op_gate.specs.Damage.{TellsDamage}
use Rattle.op_gate.specs.Decision.{GateView}
use Rattle.pcfs_store.specs.StoredHistory.{payloads_of}
use Rattle.recover.specs.AreaDamage.{AreRead, IsDamagedPayload, no_event, of_event, IsDamagedAt}
use Rattle.recover.specs.Reading.{IsSameGate, KeepsPayload, AdmitsPayload, AdmitsPayloads, fault_at, unread}

-- what became of a payload that is the spelling of an event
pub admitted : (old new : GateView) (payload : List ℕ) (event : Event) (told : Result (Unit {0}) AdmitFault) → IsReadEvent event → payload ≡ event_spelling event →
    TellsDamage (authority_with old.key old.ring) (replay old.base old.events) event told → OnOk told (new.events ≡ old.events ++ event ∷ []) → OnErr told (new.events ≡ old.events) → AdmitsPayload old payload told new
admitted old new payload event (Ok done) read spelled tells kept left = record { event = event; read = read; spelled = spelled; kept = kept }
admitted old new payload event (Err (Damaged damage)) read spelled tells kept left = (of_event event damage read spelled tells, left)
admitted old new payload event (Err NoMemory) read spelled tells kept left = tt

-- what became of a payload that is the spelling of no event
pub not_read : (old new : GateView) (payload : List ℕ) (fault : CodecFault) → ReadsWholeEvent payload (Err fault) → new.events ≡ old.events → AdmitsPayload old payload (Err (unread fault)) new
not_read old new payload codec.Short reads left = (no_event (reads.refused (λ e. cc)), left)
not_read old new payload (codec.BadTag at) reads left = (no_event (reads.refused (λ e. cc)), left)
not_read old new payload (codec.NotCanonical at) reads left = (no_event (reads.refused (λ e. cc)), left)
not_read old new payload (codec.TooLarge at) reads left = (no_event (reads.refused (λ e. cc)), left)
not_read old new payload codec.NoMemory reads left = tt

-- gates that are the same are the same as a third
pub same_gate : (first second third : GateView) → IsSameGate first second → IsSameGate second third → IsSameGate first third
same_gate first second third one other = record { key = other.key ∙ one.key; ring = other.ring ∙ one.ring; base = other.base ∙ one.base; pending = other.pending }

-- no payload so far
pub read_none : AreRead [] []
read_none = record { payloads_are = refl; each = tt }

-- one more payload
pub read_more : (payloads : List (List ℕ)) (place : ℕ) (old new : GateView) (payload : List ℕ) → place < length payloads → payload ≡ get_or payloads place [] → AreRead (take place payloads) old.events → KeepsPayload old payload new →
    AreRead (take (place + 1) payloads) new.events
read_more payloads place old new payload within is read keeps = record {
  payloads_are = take_more payloads place [] within ∙ ap (λ (p : List ℕ). take place payloads ++ p ∷ []) (sym is ∙ keeps.spelled) ∙ ap (λ (ps : List (List ℕ)). ps ++ event_spelling keeps.event ∷ []) read.payloads_are
      ∙ sym (map-append event_spelling old.events (keeps.event ∷ [])) ∙ ap payloads_of (sym keeps.kept);
  each = subst (AllByRecursion IsReadEvent) (sym keeps.kept) (AllByRecursion-push IsReadEvent old.events keeps.event read.each keeps.read);
}

-- all payloads
pub read_all : (payloads : List (List ℕ)) (place : ℕ) (events : List Event) → length payloads ≤ place → AreRead (take place payloads) events → AreRead payloads events
read_all payloads place events all read = subst (λ (ps : List (List ℕ)). AreRead ps events) (take_all place payloads all) read

-- the history of a gate is lawful
pub lawful_gate : (history : HistoryView) (gate : GateView) (key : List ℕ) (ring : List KeyView) (base : BaseView) → history.key ≡ gate.key → history.ring ≡ gate.ring → history.base ≡ gate.base → history.events ≡ gate.events →
    gate.key ≡ key → gate.ring ≡ ring → gate.base ≡ base → IsLawful (authority_of history) history.base history.events → IsLawful (authority_with key ring) base gate.events
lawful_gate history gate key ring base key_is ring_is base_is events_are key_same ring_same base_same lawful =
    subst (λ (es : List Event). IsLawful (authority_with key ring) base es) events_are
    (subst (λ (b : BaseView). IsLawful (authority_with key ring) b history.events) (base_is ∙ base_same)
    (subst (λ (r : List KeyView). IsLawful (authority_with key r) history.base history.events) (ring_is ∙ ring_same)
    (subst (λ (k : List ℕ). IsLawful (authority_with k history.ring) history.base history.events) (key_is ∙ key_same) lawful)))

-- the payload at a place is the first that is damaged
damaged_at : (authority : Authority) (base : BaseView) (payloads : List (List ℕ)) (place : ℕ) (payload : List ℕ) (events : List Event) (damage : Damage) → place < length payloads → payload ≡ get_or payloads place [] → AreRead (take place payloads) events →
    IsLawful authority base events → IsDamagedPayload authority (replay base events) payload damage → IsDamagedAt authority base payloads (place + 1) damage
damaged_at authority base payloads place payload events damage within is read lawful damaged = record {
  before = take place payloads;
  payload = payload;
  others = drop (place + 1) payloads;
  parts = sym (take-append-drop place payloads) ∙ ap (λ (ps : List (List ℕ)). take place payloads ++ ps) (drop_more payloads place [] within) ∙ ap (λ (p : List ℕ). take place payloads ++ p ∷ drop (place + 1) payloads) (sym is);
  number_is = omega (arith, length-take-le place payloads (omega (arith, within)));
  events = events;
  read = read;
  lawful = lawful;
  damaged = damaged;
}

-- what is reported of it
pub fault_there : (payloads : List (List ℕ)) (place : ℕ) (old new : GateView) (payload : List ℕ) (key : List ℕ) (ring : List KeyView) (base : BaseView) (fault : AdmitFault) (events : List Event) → place < length payloads → payload ≡ get_or payloads place [] →
    AreRead (take place payloads) old.events → old.key ≡ key → old.ring ≡ ring → old.base ≡ base → IsLawful (authority_with key ring) base old.events → AdmitsPayload old payload (Err fault) new →
    AdmitsPayloads (authority_with key ring) base payloads (Err (fault_at (place + 1) fault)) events
fault_there payloads place old new payload key ring base (Damaged damage) events within is read key_is ring_is base_is lawful admits =
    damaged_at (authority_with key ring) base payloads place payload old.events damage within is read lawful
    (subst (λ (b : BaseView). IsDamagedPayload (authority_with key ring) (replay b old.events) payload damage) base_is
    (subst (λ (r : List KeyView). IsDamagedPayload (authority_with key r) (replay old.base old.events) payload damage) ring_is
    (subst (λ (k : List ℕ). IsDamagedPayload (authority_with k old.ring) (replay old.base old.events) payload damage) key_is admits.0)))
fault_there payloads place old new payload key ring base NoMemory events within is read key_is ring_is base_is lawful admits = tt
