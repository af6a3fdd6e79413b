-- No operation of a lawful history was admitted with a procap whose grant was gone.
use Rattle.std.proofs.Common.{◌≡◌, ℕ, List, [], ◌∷◌, ◌++◌, Some, subst}
use Rattle.std.specs.Prelude.{ℤ, Contains}
use Rattle.procap.specs.declared.procap.Procap.{Procap}
use Rattle.file_world.specs.declared.operation.Op.{Op}
use Rattle.file_world.specs.Needs.{Need, needs}
use Rattle.journal_records.specs.declared.event.Event.{Event}
use Rattle.journal_records.specs.declared.event.Event.TheVariants.{Acted}
use Rattle.access_history.specs.Base.{BaseView}
use Rattle.access_history.specs.Authority.{Authority}
use Rattle.access_history.specs.Gone.{gone}
use Rattle.access_history.specs.Numbered.{IsNumbered}
use Rattle.access_history.specs.Replay.{replay, next_state}
use Rattle.access_history.specs.Lawful.{AreLawful, no_event, one_more, MayFollow}
use Rattle.access_history.proofs.GoneLemmas.{gone_denied}

-- each event may come next over the state that the events before it left
FollowEach : Authority → BaseView → List Event → Type 0
FollowEach authority state [] = Unit {0}
FollowEach authority state (event ∷ events) = MayFollow authority state event × FollowEach authority (next_state state event) events

follow_more : (authority : Authority) (state : BaseView) (events : List Event) (event : Event) → FollowEach authority state events → MayFollow authority (replay state events) event → FollowEach authority state (events ++ event ∷ [])
unfolding FollowEach
follow_more authority state [] event each may = (may, tt)
follow_more authority state (first ∷ events) event each may = (each.0, follow_more authority (next_state state first) events event each.1 may)

follow_each : (authority : Authority) (base : BaseView) (events : List Event) → AreLawful authority base events → FollowEach authority base events
unfolding FollowEach
follow_each authority base events no_event = tt
follow_each authority base events (one_more before event lawful may) = follow_more authority base before event (follow_each authority base before lawful) may

follows_there : (authority : Authority) (state : BaseView) (earlier later : List Event) (event : Event) → FollowEach authority state (earlier ++ event ∷ later) → MayFollow authority (replay state earlier) event
unfolding FollowEach
follows_there authority state [] later event each = each.0
follows_there authority state (first ∷ earlier) later event each = follows_there authority (next_state state first) earlier later event each.1

pub gone_admits_nothing : (authority : Authority) (base : BaseView) (events earlier later : List Event) (pass : ℕ) (caller : List ℕ) (op : Op) (procaps : List Procap) (moment : ℤ) (need : Need) (p : Procap) (number : ℕ) → AreLawful authority base events →
    events ≡ earlier ++ Acted pass caller op procaps moment ∷ later → Contains (needs (replay base earlier).world op) need → IsNumbered procaps need.place p →
    gone (replay base earlier) p.grant ≡ Some number → ⊥
gone_admits_nothing authority base events earlier later pass caller op procaps moment need p number lawful parts needed brought fallen =
    let may = follows_there authority base earlier later (Acted pass caller op procaps moment) (subst (FollowEach authority base) parts (follow_each authority base events lawful)) in
    gone_denied authority.key (replay base earlier) caller op procaps moment need p number needed brought fallen may.admitted
