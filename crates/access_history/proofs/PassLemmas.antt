-- An event is as good with another pass.
use Rattle.std.proofs.Common.{◌≡◌, refl}
use Rattle.journal_records.specs.declared.event.Event.{Event}
use Rattle.journal_records.specs.declared.event.Event.TheVariants.{Registered, Withdrawn, Issued, Acted}
use Rattle.access_history.specs.Authority.{Authority}
use Rattle.access_history.specs.Base.{BaseView}
use Rattle.access_history.specs.Lawful.{MayFollow}
use Rattle.journal_records.specs.Passes.{event_pass, erase}
use Rattle.access_history.specs.Replay.{next_state}

pub erase_twice : (event : Event) → erase (erase event) ≡ erase event
erase_twice (Registered pass statement signature) = refl
erase_twice (Withdrawn pass number signature) = refl
erase_twice (Issued pass cited proof g) = refl
erase_twice (Acted pass caller op procaps moment) = refl

-- an event that is as it was without its pass has pass 0
pub pass_none : (event : Event) → erase event ≡ event → event_pass event ≡ 0
pass_none (Registered pass statement signature) same = cc
pass_none (Withdrawn pass number signature) same = cc
pass_none (Issued pass cited proof grant) same = cc
pass_none (Acted pass caller op procaps moment) same = cc

pub erased_follows : (authority : Authority) (state : BaseView) (event : Event) → MayFollow authority state event → MayFollow authority state (erase event)
erased_follows authority state (Registered pass statement signature) may = may
erased_follows authority state (Withdrawn pass number signature) may = may
erased_follows authority state (Issued pass cited proof g) may = may
erased_follows authority state (Acted pass caller op procaps moment) may = may

pub erased_next : (state : BaseView) (event : Event) → next_state state (erase event) ≡ next_state state event
erased_next state (Registered pass statement signature) = refl
erased_next state (Withdrawn pass number signature) = refl
erased_next state (Issued pass cited proof g) = refl
erased_next state (Acted pass caller op procaps moment) = refl
