-- An operation that is admitted and has an effect is kept, unless something stands against it.
use Rattle.std.proofs.Common.{◌≡◌, ◌∙◌, ℕ, List, [], ◌∷◌, false, true≢false, Option, Some, None, sym, ap, subst}
use Rattle.std.specs.Prelude.{ℤ}
use Rattle.std.specs.Option.{option_map}
use Rattle.procap.specs.declared.procap.Procap.{Procap}
use Rattle.file_world.specs.declared.operation.Op.{Op}
use Rattle.file_world.specs.Effect.{refusal, reply as effect_reply}
use Rattle.journal_records.specs.declared.event.Event.{Event}
use Rattle.journal_records.specs.declared.event.Event.TheVariants.{Acted}
use Rattle.access_history.specs.declared.request.StepRequest.TheVariants.{Act}
use Rattle.access_history.specs.declared.reply.StepReply.{StepReply}
use Rattle.access_history.specs.declared.reply.StepReply.TheVariants.{Operation}
use Rattle.access_history.specs.Admission.{IsAdmitted}
use Rattle.access_history.specs.Answer.{moment_of}
use Rattle.access_history.specs.Base.{BaseView}
use Rattle.access_history.proofs.AnswerLemmas.{admitted_kept}
use Rattle.pcfs_store.specs.Entries.{StoreEntry, happened, stopped, state_of_entries}
use Rattle.session_history.specs.declared.request.TurnRequest.TheVariants.{Step}
use Rattle.session_history.specs.declared.reply.TurnReply.{TurnReply}
use Rattle.session_history.specs.declared.reply.TurnReply.TheVariants as turn_replies
use Rattle.session_history.specs.Passes.{has_stop}
use Rattle.session_history.specs.Turn.{StorePass, authority_of_root, event_of, AnswersTurn, IsFullAfter, Turn}
use Rattle.session_history.specs.Turn as turns
use Rattle.session_history.specs.Laws.{IsKeptUnless, kept, unless_full, unless_stopped, unless_out_of_memory}

module _ (p : StorePass) (before : List StoreEntry) (clock : ℤ) (caller : List ℕ) (op : Op) (procaps : List Procap) (running : has_stop before ≡ false) where
  abbrev state : BaseView
  state = state_of_entries p.root before

  abbrev told : StepReply
  told = Operation (effect_reply state.world op)

  abbrev event : Event
  event = Acted p.number caller op procaps (moment_of state clock)

  module _ (admitted : IsAdmitted p.root.key state caller op procaps (moment_of state clock)) (free : refusal state.world op ≡ None) where
    -- the answer is this one
    answer_is : (at : ℤ) (answer : TurnReply) (entry : Option StoreEntry) → at ≡ clock → AnswersTurn p.root state p.number at (Step (Act caller op procaps)) answer entry → (turn_replies.Step told ≡ answer) × (◌≡◌ {A = Option StoreEntry} (Some (happened event)) entry)
    answer_is at answer entry same answers = by_answer answer entry (subst (λ (moment : ℤ). AnswersTurn p.root state p.number moment (Step (Act caller op procaps)) answer entry) same answers)
      where
        by_answer : (answer : TurnReply) (entry : Option StoreEntry) → AnswersTurn p.root state p.number clock (Step (Act caller op procaps)) answer entry → (turn_replies.Step told ≡ answer) × (◌≡◌ {A = Option StoreEntry} (Some (happened event)) entry)
        by_answer _ _ (turns.steps _ reply found answers) =
            let is = admitted_kept (authority_of_root p.root) state p.number clock caller op procaps reply found admitted free answers in
            (ap turn_replies.Step is.0, ap (option_map happened) is.1)

    some_entry : (entry : StoreEntry) → ◌≡◌ {A = Option StoreEntry} (Some (happened event)) (Some entry) → happened event ≡ entry
    some_entry entry is = cc

    none_entry : {P : Type 0} → ◌≡◌ {A = Option StoreEntry} (Some (happened event)) None → P
    none_entry is = absurd cc

    pub admitted_done : (reply : TurnReply) (given : List StoreEntry) → Turn (λ _ moment. moment ≡ clock) p before (Step (Act caller op procaps)) reply given → IsKeptUnless p before told event reply given
    admitted_done _ _ (turns.was_stopped is) = absurd (true≢false (sym is ∙ running))
    admitted_done _ _ (turns.answered at answer runs same answers) = none_entry (answer_is at answer None same answers).1
    admitted_done _ _ (turns.full at answer entry runs same answers is_full) =
        unless_full (subst (IsFullAfter p.root before) (sym (some_entry entry (answer_is at answer (Some entry) same answers).1)) is_full)
    admitted_done _ _ (turns.kept at answer entry runs same answers room) =
        let is = answer_is at answer (Some entry) same answers in
        let here : happened event ≡ entry = some_entry entry is.1 in
        subst (λ (r : TurnReply). IsKeptUnless p before told event r (entry ∷ [])) is.0
        (subst (λ (e : StoreEntry). IsKeptUnless p before told event (turn_replies.Step told) (e ∷ [])) here (kept (λ is_full. room (subst (IsFullAfter p.root before) here is_full))))
    admitted_done _ _ (turns.failed at answer entry runs same answers room) =
        subst (λ (e : StoreEntry). IsKeptUnless p before told event turn_replies.Stopped (stopped p.number (event_of e) ∷ [])) (some_entry entry (answer_is at answer (Some entry) same answers).1) unless_stopped
    admitted_done _ _ turns.without_memory = unless_out_of_memory
