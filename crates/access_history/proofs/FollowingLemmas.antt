-- Each event of a lawful history could come where it came.
use Rattle.std.proofs.Common.{◌≡◌, List, [], ◌∷◌, ◌++◌, subst}
use Rattle.journal_records.specs.declared.event.Event.{Event}
use Rattle.access_history.specs.Authority.{Authority}
use Rattle.access_history.specs.Base.{BaseView}
use Rattle.access_history.specs.Lawful.{AreLawful, IsLawful, MayFollow, no_event, one_more}
use Rattle.access_history.specs.Replay.{replay, next_state}

-- each event, over the state that the events before it left
abbrev pub AreFollowing : Authority → BaseView → List Event → Type 0
AreFollowing authority state [] = Unit {0}
AreFollowing authority state (event ∷ events) = MayFollow authority state event × AreFollowing authority (next_state state event) events

pub AreFollowing-push : (authority : Authority) (state : BaseView) (events : List Event) (event : Event) → AreFollowing authority state events → MayFollow authority (replay state events) event → AreFollowing authority state (events ++ event ∷ [])
AreFollowing-push authority state [] event all here = (here, tt)
AreFollowing-push authority state (first ∷ events) event all here = (all.0, AreFollowing-push authority (next_state state first) events event all.1 here)

pub AreFollowing-lawful : (authority : Authority) (base : BaseView) (events : List Event) → AreLawful authority base events → AreFollowing authority base events
AreFollowing-lawful authority base events no_event = tt
AreFollowing-lawful authority base events (one_more before event lawful follows) = AreFollowing-push authority base before event (AreFollowing-lawful authority base before lawful) follows

AreFollowing-at : (authority : Authority) (state : BaseView) (earlier later : List Event) (event : Event) → AreFollowing authority state (earlier ++ event ∷ later) → MayFollow authority (replay state earlier) event
AreFollowing-at authority state [] later event all = all.0
AreFollowing-at authority state (first ∷ earlier) later event all = AreFollowing-at authority (next_state state first) earlier later event all.1

-- an event of a lawful history could come where it came
pub follows_at : (authority : Authority) (base : BaseView) (events earlier later : List Event) (event : Event) → IsLawful authority base events → events ≡ earlier ++ event ∷ later → MayFollow authority (replay base earlier) event
follows_at authority base events earlier later event lawful parts = AreFollowing-at authority base earlier later event (subst (AreFollowing authority base) parts (AreFollowing-lawful authority base events lawful.each))
