-- Lawful events without their passes, and the first and the other ones of them, over plain values.
use Rattle.std.proofs.Common.{◌≡◌, ℕ, List, [], ◌∷◌, ◌++◌, length, map, refl, sym, ap, subst, ◌∙◌, arith, append_assoc, length-append}
use Rattle.std.specs.List.{AllByRecursion}
use Rattle.std.proofs.lemmas.List.{map-append, length-map, append-nil}
use Rattle.journal_records.specs.declared.event.Event.{Event}
use Rattle.access_history.specs.Authority.{Authority}
use Rattle.access_history.specs.Base.{BaseView}
use Rattle.access_history.specs.Lawful.{AreLawful, no_event, one_more, IsLawful, MayFollow}
use Rattle.access_history.specs.Replay.{replay, next_state}
use Rattle.journal_records.specs.Passes.{erase}
use Rattle.access_history.proofs.FollowingLemmas.{AreFollowing, AreFollowing-lawful, follows_at}
use Rattle.access_history.proofs.LawfulLemmas.{IsLawfulBase-lawful}
use Rattle.access_history.proofs.PassLemmas.{erase_twice, erased_follows, erased_next}
use Rattle.access_history.proofs.ReplayLemmas.{count-replay, replay-more}
use Rattle.journal_records.specs.EventSpelling.{IsReadEvent}
use Rattle.journal_records.proofs.EventLemmas.{erased_spellable}
use Rattle.op_gate.specs.Damage.{MayComeNext}
use Rattle.pcfs_store.specs.StoredHistory.{AreSpellable}

-- ---- events without their passes

pub erased_replay : (state : BaseView) (events : List Event) → replay state (map erase events) ≡ replay state events
erased_replay state [] = refl
erased_replay state (event ∷ events) = ap (λ (s : BaseView). replay s (map erase events)) (erased_next state event) ∙ erased_replay (next_state state event) events

-- what has no passes loses none
pub erased_again : (events : List Event) → map erase (map erase events) ≡ map erase events
erased_again [] = refl
erased_again (event ∷ events) = ap (λ (e : Event). e ∷ map erase (map erase events)) (erase_twice event) ∙ ap (λ (es : List Event). erase event ∷ es) (erased_again events)

pub erased_lawful : (authority : Authority) (base : BaseView) (events : List Event) → AreLawful authority base events → AreLawful authority base (map erase events)
erased_lawful authority base _ no_event = no_event
erased_lawful authority base _ (one_more before event lawful follows) =
    subst (AreLawful authority base) (sym (map-append erase before (event ∷ [])))
    (one_more (map erase before) (erase event) (erased_lawful authority base before lawful)
    (subst (λ (s : BaseView). MayFollow authority s (erase event)) (sym (erased_replay base before)) (erased_follows authority (replay base before) event follows)))

pub erased_read : (events : List Event) → AreSpellable events → AllByRecursion IsReadEvent (map erase events)
erased_read [] spelled = tt
erased_read (event ∷ events) spelled = (record { spelled = erased_spellable event spelled.0; erased = erase_twice event }, erased_read events spelled.1)

-- ---- each event, over the state that the events before it left

-- the first of the events, and the others after them
following_front : (authority : Authority) (state : BaseView) (events others : List Event) → AreFollowing authority state (events ++ others) → AreFollowing authority state events
following_front authority state [] others all = tt
following_front authority state (event ∷ events) others all = (all.0, following_front authority (next_state state event) events others all.1)

followed : (authority : Authority) (base : BaseView) (before events : List Event) → AreLawful authority base before → AreFollowing authority (replay base before) events → AreLawful authority base (before ++ events)
followed authority base before [] lawful all = subst (AreLawful authority base) (sym (append-nil before)) lawful
followed authority base before (event ∷ events) lawful all =
    subst (AreLawful authority base) (append_assoc before (event ∷ []) events)
    (followed authority base (before ++ event ∷ []) events (one_more before event lawful all.0) (subst (λ (s : BaseView). AreFollowing authority s events) (sym (replay-more base before event)) all.1))

following_back : (authority : Authority) (state : BaseView) (events others : List Event) → AreFollowing authority state (events ++ others) → AreFollowing authority (replay state events) others
following_back authority state [] others all = all
following_back authority state (event ∷ events) others all = following_back authority (next_state state event) events others all.1

-- an event of a lawful history could come where it came
pub next_at : (authority : Authority) (base : BaseView) (events earlier later : List Event) (event : Event) → IsLawful authority base events → events ≡ earlier ++ event ∷ later → MayComeNext authority (replay base earlier) event
next_at authority base events earlier later event lawful parts = record {
  counted = omega (arith, lawful.counted, ap length parts, length-append earlier (event ∷ later), count-replay base earlier);
  follows = follows_at authority base events earlier later event lawful parts;
}

-- the first events of a lawful history are lawful
pub front_lawful : (authority : Authority) (base : BaseView) (events others : List Event) → IsLawful authority base (events ++ others) → IsLawful authority base events
front_lawful authority base events others lawful = record {
  lawful_base = lawful.lawful_base;
  counted = omega (arith, lawful.counted, length-append events others);
  each = followed authority base [] events no_event (following_front authority base events others (AreFollowing-lawful authority base (events ++ others) lawful.each));
}

-- and so are the others, after the state to which the first ones lead
pub back_lawful : (authority : Authority) (base : BaseView) (events others : List Event) → IsLawful authority base (events ++ others) → IsLawful authority (replay base events) others
back_lawful authority base events others lawful = record {
  lawful_base = IsLawfulBase-lawful authority base events (front_lawful authority base events others lawful);
  counted = omega (arith, lawful.counted, length-append events others, count-replay base events);
  each = followed authority (replay base events) [] others no_event (following_back authority base events others (AreFollowing-lawful authority base (events ++ others) lawful.each));
}

-- lawful events are lawful without their passes
pub erased_history : (authority : Authority) (base : BaseView) (events : List Event) → IsLawful authority base events → IsLawful authority base (map erase events)
erased_history authority base events lawful =
    record { lawful_base = lawful.lawful_base; counted = omega (arith, lawful.counted, length-map events erase); each = erased_lawful authority base events lawful.each }
