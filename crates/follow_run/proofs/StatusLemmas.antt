-- The status of a run, by how it ends and what is written at last.
use Rattle.std.proofs.Common.{◌≡◌, ◌⊎◌, inl, inr, ℕ, Bool, List, [], Option, Some, None, refl, sym, ap, ◌∙◌, subst, append-nil, arith}
use Rattle.pcfs_ports.specs.Faults.{raise}
use Rattle.pcfs_ports.specs.Observable.{with_front, with_back, ReadsToEnd, HoldsSome}
use Rattle.event_messages.specs.Messages.{Message}
use Rattle.pcfs_store.specs.StoreView.{StoreView}
use Rattle.pcfs_session.specs.InterpreterView.{InterpreterView}
use Rattle.pcfs_session.specs.ScriptContext.{first_asker}
use Rattle.pcfs_session.specs.ScriptRun.{ScriptState, script_pass}
use Rattle.pcfs_session.specs.Streams.{Streams}
use Rattle.pcfs_session.proofs.OutboxLemmas.{with_back-nil}
use Rattle.pcfs_tools.specs.Broken.{Broken}
use Rattle.pcfs_tools.specs.LastLine.{IsWritten}
use Rattle.follow_run.specs.AnswerText.{HoldsButLast}
use Rattle.follow_run.specs.FollowRun.{FollowsOver, HasEnded, done, bad_frame, read_fault, input_too_long, stopped, FollowEnds, FollowsInput}
use Rattle.follow_run.specs.FollowRun as follows
use Rattle.follow_run.specs.Followed.{TellsEnd, IsEnding, all_told, unwritten, without_memory, last_line_of, EndsFollowing}
use Rattle.follow_run.specs.Taken.{AreTaken, HasBadFrame, no_message, cut_off}
use Rattle.follow_run.specs.declared.follow_end.FollowEnd.{FollowEnd}
use Rattle.follow_run.specs.declared.follow_end.FollowEnd.TheVariants as ends
use Rattle.follow_run.proofs.AnsweredLemmas.{out_after, all_but_last}
use Rattle.follow_run.proofs.BoundLemmas.{few_open}

-- an input that was read to its end was taken up to it
taken_to_end : (old new : Option (List ℕ)) (bytes : List ℕ) → ReadsToEnd old new bytes → old ≡ with_front bytes new
taken_to_end None new bytes reads = subst (λ (n : Option (List ℕ)). None ≡ with_front bytes n) (sym reads.end) refl
taken_to_end (Some left) new bytes reads = subst (λ (n : Option (List ℕ)). Some left ≡ with_front bytes n) (sym reads.end) (ap Some (reads.all ∙ sym (append-nil bytes)))

-- before a place at which no message stands, these were taken
taken_at_frame : (left left_after : Option (List ℕ)) (messages : List Message) → HasBadFrame left left_after messages → AreTaken left left_after messages
taken_at_frame left left_after messages (no_message bytes rest taken first none few) = record { bytes = bytes; rest = rest; taken = taken; first = first; few = few }
taken_at_frame left left_after messages (cut_off bytes rest reads first may_go_on some) =
    record { bytes = bytes; rest = rest; taken = taken_to_end left left_after bytes reads; first = first; few = omega (arith, few_open rest may_go_on) }

module _ (start end : ScriptState) (before : Streams) (left held held_after : Option (List ℕ)) (read_faults write_faults faults_after : ℕ) (input was output : Bool) where
  -- what ports told before the last line, and after it
  abbrev mid : Streams
  mid = record { left = left; read_faults = read_faults; held = held; write_faults = write_faults }

  abbrev after : Streams
  after = record { left = left; read_faults = read_faults; held = held_after; write_faults = faults_after }

  abbrev broken_mid : Broken
  broken_mid = record { input = input; output = was }

  abbrev broken_after : Broken
  broken_after = record { input = input; output = output }

  abbrev Ends : ℕ → Type 0
  Ends result = FollowEnds start end before after broken_after result

  ended_still : (messages : List Message) (status : ℕ) (last : List ℕ) → HasEnded end before mid input messages status last → HasEnded end before after input messages status last
  ended_still messages _ _ (done all reads none) = done all reads none
  ended_still messages _ _ (bad_frame bad reads none) = bad_frame bad reads none
  ended_still messages _ _ (read_fault failed taken none) = read_fault failed taken none
  ended_still messages _ _ (input_too_long first taken reads none) = input_too_long first taken reads none
  ended_still messages _ _ (stopped entry taken reads met) = stopped entry taken reads met

  -- what is known where no message stands
  record IsFramed (messages : List Message) : Type 0 where
    taken : AreTaken before.left left messages
    reads : read_faults ≡ before.read_faults
    not_met : end.met ≡ None

  framed_of : (messages : List Message) (status : ℕ) (last : List ℕ) → HasEnded end before mid input messages status last → status ≡ 16 → IsFramed messages
  framed_of messages _ _ (done all reads none) is = absurd cc
  framed_of messages _ _ (bad_frame bad reads none) is = record { taken = taken_at_frame before.left left messages bad; reads = reads; not_met = none }
  framed_of messages _ _ (read_fault failed taken none) is = absurd cc
  framed_of messages _ _ (input_too_long first taken reads none) is = absurd cc
  framed_of messages _ _ (stopped entry taken reads met) is = absurd cc

  -- no cause has these statuses
  no_cause : (messages : List Message) (status : ℕ) (last : List ℕ) → HasEnded end before mid input messages status last → (status ≡ 7) ⊎ (status ≡ 9) → ⊥
  no_cause messages _ _ (done all reads none) (inl is) = cc
  no_cause messages _ _ (done all reads none) (inr is) = cc
  no_cause messages _ _ (bad_frame bad reads none) (inl is) = cc
  no_cause messages _ _ (bad_frame bad reads none) (inr is) = cc
  no_cause messages _ _ (read_fault failed taken none) (inl is) = cc
  no_cause messages _ _ (read_fault failed taken none) (inr is) = cc
  no_cause messages _ _ (input_too_long first taken reads none) (inl is) = cc
  no_cause messages _ _ (input_too_long first taken reads none) (inr is) = cc
  no_cause messages _ _ (stopped entry taken reads met) (inl is) = cc
  no_cause messages _ _ (stopped entry taken reads met) (inr is) = cc

  -- the last line was written, or the output failed
  by_line : (messages : List Message) (lines last : List ℕ) (status result : ℕ) → FollowsOver start messages end lines → HasEnded end before mid input messages status last → held ≡ with_back before.held lines → write_faults ≡ before.write_faults →
      IsWritten status last held write_faults result held_after faults_after output → Ends result
  by_line messages lines last status result over ended out writes (inl all) =
      subst Ends (sym all.0) (follows.written status messages lines last over (ended_still messages status last ended) (out_after before.held held held_after lines last out all.1) (all.2 ∙ writes))
  by_line messages lines last status result over ended out writes (inr cut) =
      subst Ends (sym cut.0)
      (follows.last_line_cut status messages lines last over (ended_still messages status last ended) (cut.1.0 ∙ ap raise writes, cut.1.1) (subst (λ (h : Option (List ℕ)). HoldsSome h held_after last) out cut.2))

  -- nothing more is written
  silent : (status : ℕ) (result : ℕ) → result ≡ status → held_after ≡ held → faults_after ≡ write_faults → IsWritten status [] held write_faults result held_after faults_after output
  silent status result is same still = inl (is, same ∙ with_back-nil held, still)

  by_end : (how : FollowEnd) (result : ℕ) → IsEnding start end before mid broken_mid how → (how ≡ ends.WriteFault → output ≡ was) → TellsEnd how held write_faults result held_after faults_after output → Ends result
  by_end ends.Done result (all_told messages lines over ended out writes) same tells = by_line messages lines [] 0 result over ended out writes (silent 0 result tells.0 tells.1 tells.2)
  by_end (ends.BadFrame place) result (all_told messages lines over ended out writes) same (inl tells) = by_line messages lines (last_line_of (ends.BadFrame place)) 16 result over ended out writes tells
  by_end (ends.BadFrame place) result (all_told messages lines over ended out writes) same (inr tells) =
      let framed = framed_of messages 16 (last_line_of (ends.BadFrame place)) ended refl in
      subst Ends (sym tells.0) (follows.out_of_memory messages lines over framed.taken framed.reads framed.not_met (all_but_last start end before.held held_after messages over.told over.run (tells.1 ∙ out ∙ ap (with_back before.held) over.lines_are)) (tells.2 ∙ writes))
  by_end ends.ReadFault result (all_told messages lines over ended out writes) same tells = by_line messages lines (last_line_of ends.ReadFault) 6 result over ended out writes tells
  by_end ends.InputTooLong result (all_told messages lines over ended out writes) same tells = by_line messages lines (last_line_of ends.InputTooLong) 13 result over ended out writes tells
  by_end ends.Stopped result (all_told messages lines over ended out writes) same tells = by_line messages lines (last_line_of ends.Stopped) 5 result over ended out writes tells
  by_end ends.WriteFault result (all_told messages lines over ended out writes) same tells = absurd (no_cause messages 7 [] ended (inl refl))
  by_end ends.NoMemory result (all_told messages lines over ended out writes) same tells = absurd (no_cause messages 9 [] ended (inr refl))
  by_end how result (unwritten messages lines is over taken reads none failed some) same tells =
      let silent_end = subst (λ (h : FollowEnd). TellsEnd h held write_faults result held_after faults_after output) is tells in
      subst Ends (sym silent_end.0)
      (follows.cut_short messages lines over taken reads none (silent_end.2 ∙ failed.0, same is ∙ failed.1) (subst (λ (h : Option (List ℕ)). HoldsButLast before.held h messages over.told) (sym silent_end.1) some))
  by_end how result (without_memory messages lines is over taken reads none some writes) same tells =
      let silent_end = subst (λ (h : FollowEnd). TellsEnd h held write_faults result held_after faults_after output) is tells in
      subst Ends (sym silent_end.0)
      (follows.out_of_memory messages lines over taken reads none (subst (λ (h : Option (List ℕ)). HoldsButLast before.held h messages over.told) (sym silent_end.1) some) (silent_end.2 ∙ writes))

module _ {D : Type 0} (clock : D → ℕ) (left_since : D → ℕ → List ℕ → Type 0) (image : D → Option (List ℕ)) (faults : D → ℕ) where
  -- a store as the one that a run begins and ends with
  abbrev pub seen : StoreView D → InterpreterView D
  seen store = record { store = store; asker = first_asker script_pass }

  -- a run ended, and its last line was written
  pub FollowsInput-told : (old new : StoreView D) (before : Streams) (left held held_after : Option (List ℕ)) (read_faults write_faults faults_after : ℕ) (input was output : Bool) (how : FollowEnd) (status : ℕ) →
      EndsFollowing clock left_since image faults old before how new (record { left = left; read_faults = read_faults; held = held; write_faults = write_faults }) (record { input = input; output = was }) → (how ≡ ends.WriteFault → output ≡ was) →
      TellsEnd how held write_faults status held_after faults_after output →
      FollowsInput clock left_since image faults (seen old) before status (seen new) (record { left = left; read_faults = read_faults; held = held_after; write_faults = faults_after }) (record { input = input; output = output })
  FollowsInput-told old new before left held held_after read_faults write_faults faults_after input was output how status ended same tells = record {
    met = ended.met;
    ends = by_end _ _ before left held held_after read_faults write_faults faults_after input was output how status ended.ends same tells;
    goes_on = ended.goes_on;
  }
