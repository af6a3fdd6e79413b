-- An event that an answer keeps can be kept.
use Rattle.std.proofs.Common.{◌≡◌, ◌≤◌, ℕ, refl, subst, sym}
use Rattle.std.specs.Prelude.{Result, Ok, Err, OnOk, false, ℤ}
use Rattle.std.specs.Result.{is_err}
use Rattle.bl_syntax.specs.TimeOrder.{IsMoment}
use Rattle.access_history.specs.declared.request.StepRequest.{StepRequest}
use Rattle.access_history.specs.declared.reply.StepReply.{StepReply}
use Rattle.access_history.specs.WellFormed.{IsWellFormed}
use Rattle.journal_records.specs.declared.event.Event.{Event}
use Rattle.access_history.specs.History.{HistoryView, authority_of, state_of, addition_of, IsReadyFor}
use Rattle.access_history.specs.Lawful.{IsLawfulBase, MayFollow}
use Rattle.access_history.proofs.MayFollowLemmas.{MayFollow-answered}
use Rattle.journal_records.specs.EventSpelling.{HasFittingFields}
use Rattle.op_gate.specs.declared.planned.DecisionPlan.TheVariants.{Keep}
use Rattle.op_gate.specs.declared.planned.Pending.{Pending}
use Rattle.op_gate.specs.declared.planned.Recorded.{Recorded}
use Rattle.op_gate.specs.Decision.{IsPlanned, CanKeep}
use Rattle.op_gate.specs.Recording.{CanKeepRecorded}
use Rattle.op_gate.specs.Admits.{IsPendingAs}
use Rattle.op_gate.proofs.FittingLemmas.{fits_fields}

-- an event that was decided can be kept
pub CanKeep-planned : (before after : HistoryView) (pass : ℕ) (clock : ℤ) (request : StepRequest) (reply : StepReply) (pending : Pending) → after ≡ record before { ready = after.ready } → 1 ≤ before.room → IsLawfulBase (authority_of before) (state_of before) → IsMoment clock → IsWellFormed request →
    IsPlanned before pass clock request (Keep reply pending) after → CanKeep after pending
CanKeep-planned before after pass clock request reply pending same room base at formed planned =
    let follows : MayFollow (authority_of before) (state_of before) pending.event = MayFollow-answered (authority_of before) (state_of before) pass clock request reply pending.event base at formed planned.0 in
    record {
      room = subst (λ (h : HistoryView). 1 ≤ h.room) (sym same) room;
      lawful = subst (λ (h : HistoryView). MayFollow (authority_of h) (state_of h) pending.event) (sym same) follows;
      addition = planned.1;
      ready = planned.2;
    }

-- an event that was tested can be kept
pub CanKeep-pending : (before after : HistoryView) (event : Event) (pending : Pending) → after ≡ record before { ready = after.ready } → 1 ≤ before.room → IsPendingAs before after event pending → CanKeep after pending
CanKeep-pending before after event pending same room is = record {
  room = subst (λ (h : HistoryView). 1 ≤ h.room) (sym same) room;
  lawful =
      subst (λ (e : Event). MayFollow (authority_of after) (state_of after) e) (sym is.event_is)
      (subst (λ (h : HistoryView). MayFollow (authority_of h) (state_of h) event) (sym same) is.follows);
  addition = subst (λ (e : Event). pending.addition ≡ addition_of e) (sym is.event_is) is.addition_is;
  ready = subst (λ (e : Event). IsReadyFor after e) (sym is.event_is) is.ready;
}

-- it fits the fields of its record
pub fits_kept : (h : HistoryView) (pending : Pending) → CanKeep h pending → HasFittingFields pending.event
fits_kept h pending keeps = fits_fields h.key h.ring (state_of h) pending.event keeps.lawful

-- and can be kept with its record
pub CanKeep-recorded : (h : HistoryView) (pending : Pending) (recorded : Recorded) → CanKeep h pending → recorded ≡ record { pending = pending; kept = pending.event } → CanKeepRecorded h recorded
CanKeep-recorded h pending recorded keeps is = subst (CanKeepRecorded h) (sym is) (record { keeps = keeps; kept_is = refl })

-- what holds where there is no error
pub on_no_err : {A E : Type 0} (P : Type 0) (r : Result A E) → is_err r ≡ false → OnOk r P → P
on_no_err P (Ok x) e holds = holds
on_no_err P (Err x) e holds = absurd cc
