-- The answer to an operation, over plain values.
use Rattle.std.proofs.Common.{◌≡◌, ℕ, List, sym, ap, subst, ◌∙◌, Some, None}
use Rattle.std.specs.Prelude.{ℤ, Result, Ok, Err}
use Rattle.std.specs.Int.{w64}
use mir.Val.{SFits, to_z, of_z}
use Rattle.std.proofs.lemmas.Int.{to_z-of_z}
use Rattle.procap.specs.declared.procap.Procap.{Procap}
use Rattle.file_world.specs.declared.operation.Op.{Op}
use Rattle.file_world.specs.declared.refusal.OpFault.{OpFault}
use Rattle.file_world.specs.declared.refusal.OpFault.TheVariants as faults
use Rattle.file_world.specs.declared.refusal.Refusal.{Refusal}
use Rattle.file_world.specs.declared.reply.OpReply.{OpReply}
use Rattle.file_world.specs.Effect.{refusal, reply}
use Rattle.file_world.specs.World.{World}
use Rattle.world_state.specs.State.{WorldState, ReservesWorld}
use Rattle.access_history.specs.declared.event.Addition.TheVariants as additions
use Rattle.journal_records.specs.declared.event.Event.TheVariants.{Acted}
use Rattle.access_history.specs.declared.reply.Denial.{Denial}
use Rattle.access_history.specs.declared.reply.StepReply.TheVariants as replies
use Rattle.access_history.specs.declared.request.StepRequest.TheVariants.{Act}
use Rattle.access_history.specs.Base.{BaseView}
use Rattle.access_history.specs.Authority.{Authority}
use Rattle.access_history.specs.Admission.{IsAdmitted}
use Rattle.access_history.specs.Answer.{Answers, moment_of, denied, refused, acted}
use Rattle.access_history.specs.History.{HistoryView, authority_of, state_of, world_of}
use Rattle.op_gate.specs.declared.planned.DecisionPlan.TheVariants.{Answer, Keep}
use Rattle.op_gate.specs.declared.planned.Pending.{Pending}
use Rattle.op_gate.specs.Decision.{IsPlanned, IsDenial, plan_of_fault}
use Rattle.op_gate.proofs.DecisionLemmas.{kept_decided}

-- it is denied
pub denied_decided : (authority : Authority) (state : BaseView) (pass : ℕ) (clock : ℤ) (caller : List ℕ) (op : Op) (procaps : List Procap) (denial : Denial) → IsDenial authority.key state caller op procaps (moment_of state clock) denial →
    Answers authority state pass clock (Act caller op procaps) (replies.Denied denial) None
denied_decided authority state pass clock caller op procaps denial is =
    subst (λ (at : ℕ). Answers authority state pass clock (Act caller op procaps) (replies.Denied (record { need = denial.need; cause = denial.cause; at = at })) None) (sym is.1)
    (denied caller op procaps denial.need denial.cause is.0)

-- it is refused
pub refused_decided : (before after : HistoryView) (pass : ℕ) (clock : ℤ) (caller : List ℕ) (op : Op) (procaps : List Procap) (why : Refusal) (count : ℕ) → IsAdmitted before.key (state_of before) caller op procaps (moment_of (state_of before) clock) →
    refusal (state_of before).world op ≡ Some why → count ≡ (state_of before).count → IsPlanned before pass clock (Act caller op procaps) (Answer (replies.Refused why count)) after
refused_decided before after pass clock caller op procaps why count admitted refuses count_is =
    subst (λ (at : ℕ). Answers (authority_of before) (state_of before) pass clock (Act caller op procaps) (replies.Refused why at) None) (sym count_is)
    (refused caller op procaps why admitted refuses)

-- it is done, and its event is to be kept
pub acted_decided : (before after : HistoryView) (pass : ℕ) (clock : ℤ) (caller : List ℕ) (op given : Op) (procaps : List Procap) (moment : ℤ) (told : OpReply) (pending : Pending) → IsAdmitted before.key (state_of before) caller op procaps (moment_of (state_of before) clock) →
    given ≡ op → moment ≡ moment_of (state_of before) clock → ReservesWorld caller (state_of before).world op (Ok told) (world_of after) →
    pending ≡ record { event = Acted pass caller given procaps moment; addition = additions.Operation } → IsPlanned before pass clock (Act caller op procaps) (Keep (replies.Operation told) pending) after
acted_decided before after pass clock caller op given procaps moment told pending admitted given_is moment_is reserves pending_is =
    kept_decided before after pass clock (Act caller op procaps) (replies.Operation (reply (state_of before).world op)) (Acted pass caller op procaps (moment_of (state_of before) clock)) (Keep (replies.Operation told) pending)
    (acted caller op procaps admitted reserves.0)
    reserves.2 (
      ap (λ (r : OpReply). replies.Operation r) reserves.1,
      pending_is ∙ ap (λ (o : Op). record { event = Acted pass caller o procaps moment; addition = additions.Operation }) given_is
          ∙ ap (λ (m : ℤ). record { event = Acted pass caller op procaps m; addition = additions.Operation }) moment_is,
    )

-- it has no effect: it is refused, or out of memory
pub fault_decided : (before after : HistoryView) (pass : ℕ) (clock : ℤ) (caller : List ℕ) (op : Op) (procaps : List Procap) (fault : OpFault) (count : ℕ) → IsAdmitted before.key (state_of before) caller op procaps (moment_of (state_of before) clock) →
    ReservesWorld caller (state_of before).world op (Err fault) (world_of after) → count ≡ (state_of before).count → IsPlanned before pass clock (Act caller op procaps) (plan_of_fault count fault) after
fault_decided before after pass clock caller op procaps (faults.Refused why) count admitted refuses count_is = refused_decided before after pass clock caller op procaps why count admitted refuses count_is
fault_decided before after pass clock caller op procaps faults.NoMemory count admitted refuses count_is = tt

pub reserved_not : (caller : List ℕ) (world : World) (op : Op) (told : Result OpReply OpFault) (fault : OpFault) (after : WorldState) → told ≡ Err fault → ReservesWorld caller world op told after → ReservesWorld caller world op (Err fault) after
reserved_not caller world op told fault after told_is reserves = subst (λ (r : Result OpReply OpFault). ReservesWorld caller world op r after) told_is reserves

-- the reply that it gives
pub reserved_done : (caller : List ℕ) (world : World) (op : Op) (told : Result OpReply OpFault) (reply : OpReply) (after : WorldState) → told ≡ Ok reply → ReservesWorld caller world op told after → ReservesWorld caller world op (Ok reply) after
reserved_done caller world op told reply after told_is reserves = subst (λ (r : Result OpReply OpFault). ReservesWorld caller world op r after) told_is reserves

-- the moment of the step, as the calls have it
pub step_moment : (state : BaseView) (clock shown : ℤ) → SFits w64 clock → SFits w64 shown → shown ≡ moment_of state (to_z w64 (of_z w64 clock)) → to_z w64 (of_z w64 shown) ≡ moment_of state clock
step_moment state clock shown clock_fits shown_fits is = to_z-of_z w64 shown shown_fits ∙ is ∙ ap (moment_of state) (to_z-of_z w64 clock clock_fits)
