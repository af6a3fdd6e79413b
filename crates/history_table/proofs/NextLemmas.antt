-- The event that comes next in a lawful history, and the state after it.
use Rattle.std.proofs.Common.{◌≡◌, ◌<◌, ◌-◌, ◌^◌, ℕ, zero, suc, List, [], ◌∷◌, ◌++◌, length, take, sym, ap, subst, ⊎_elim, arith, Some}
use Rattle.std.specs.List.{slice_get}
use Rattle.std.proofs.lemmas.List.{length-append, length-take, take-append-le, take_all}
use Rattle.std.proofs.lemmas.Option.{none-some, same_Some}
use Rattle.journal_records.specs.declared.event.Event.{Event}
use Rattle.access_history.specs.Authority.{Authority}
use Rattle.access_history.specs.Base.{BaseView}
use Rattle.access_history.specs.Lawful.{AreLawful, IsLawful, MayFollow, no_event, one_more}
use Rattle.access_history.specs.Replay.{next_state, replay}
use Rattle.access_history.proofs.FollowingLemmas.{AreFollowing, AreFollowing-lawful}
use Rattle.access_history.proofs.ReplayLemmas.{count-replay}
use Rattle.history_table.proofs.CaseLemmas.{within_or_past}

following_at : (authority : Authority) (state : BaseView) (events : List Event) (place : ℕ) (event : Event) → AreFollowing authority state events → slice_get events place ≡ Some event → MayFollow authority (replay state (take place events)) event
following_at authority state [] place event all found = absurd (none-some _ found)
following_at authority state (first ∷ events) zero event all found = subst (MayFollow authority state) (same_Some _ _ found) all.0
following_at authority state (first ∷ events) (suc place) event all found = following_at authority (next_state state first) events place event all.1 found

-- the event in a place of a lawful history could come where it came
pub follows_in : (authority : Authority) (base : BaseView) (events : List Event) (place : ℕ) (event : Event) → IsLawful authority base events → slice_get events place ≡ Some event → MayFollow authority (replay base (take place events)) event
follows_in authority base events place event lawful found = following_at authority base events place event (AreFollowing-lawful authority base events lawful.each) found

-- the first events with the one after them
pub take_next : (events : List Event) (place : ℕ) (event : Event) → slice_get events place ≡ Some event → take (suc place) events ≡ take place events ++ event ∷ []
take_next [] place event found = absurd (none-some _ found)
take_next (first ∷ events) zero event found = ap (λ (e : Event). e ∷ []) (same_Some _ _ found)
take_next (first ∷ events) (suc place) event found = ap (λ (es : List Event). first ∷ es) (take_next events place event found)

-- the state after one more of the events
pub replay_next : (state : BaseView) (events : List Event) (place : ℕ) (event : Event) → slice_get events place ≡ Some event → replay state (take (suc place) events) ≡ next_state (replay state (take place events)) event
replay_next state [] place event found = absurd (none-some _ found)
replay_next state (first ∷ events) zero event found = ap (next_state state) (same_Some _ _ found)
replay_next state (first ∷ events) (suc place) event found = replay_next (next_state state first) events place event found

-- so many events of a lawful history are lawful too, and end below the last number
pub counted_in : (authority : Authority) (base : BaseView) (events : List Event) (place : ℕ) → IsLawful authority base events → place < length events → (replay base (take place events)).count < 2 ^ 48 - 1
counted_in authority base events place lawful below = omega (arith, lawful.counted, below, count-replay base (take place events), length-take place events)

-- ---- the first events

taken_lawful : (authority : Authority) (base : BaseView) (events : List Event) → AreLawful authority base events → (place : ℕ) → AreLawful authority base (take place events)
taken_lawful authority base events no_event place = subst (AreLawful authority base) (sym (take_all place [] (omega arith))) no_event
taken_lawful authority base events (one_more before event lawful follows) place =
    ⊎_elim
    (λ within. subst (AreLawful authority base) (sym (take-append-le place before (event ∷ []) within)) (taken_lawful authority base before lawful place))
    (λ past. subst (AreLawful authority base) (sym (take_all place (before ++ event ∷ []) (omega (arith, past, length-append before (event ∷ []))))) (one_more before event lawful follows))
    (within_or_past place (length before))

-- so many events of a lawful history are one too
pub lawful_front : (authority : Authority) (base : BaseView) (events : List Event) (place : ℕ) → IsLawful authority base events → IsLawful authority base (take place events)
lawful_front authority base events place lawful = record {
  lawful_base = lawful.lawful_base;
  counted = omega (arith, lawful.counted, length-take place events);
  each = taken_lawful authority base events lawful.each place;
}
