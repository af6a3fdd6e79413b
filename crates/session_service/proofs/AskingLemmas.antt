-- What a line of a session asks, and what a look makes of its command.
use Rattle.std.proofs.Common.{◌≡◌, ℕ, List, [], ◌∷◌, map, Option, Some, None, sym, subst}
use Rattle.std.specs.Prelude.{Ok, Err, IsTrue}
use Rattle.bl_syntax.specs.declared.grant.Goal.{Goal}
use Rattle.bl_syntax.specs.Grant.{GrantView}
use Rattle.procap.specs.declared.procap.Procap.{Procap as Sealed}
use Rattle.proof_term.specs.Proof.{ProofView}
use Rattle.proof_verifier.specs.declared.cites.Cite.{Cite}
use Rattle.proof_verifier.specs.declared.fault.CheckFault.{CheckFault}
use Rattle.proof_verifier.specs.Cited.{statements_of}
use Rattle.proof_verifier.specs.CheckedView.{checked_view}
use Rattle.proof_verifier.specs.Verdict.{verdict}
use Rattle.pcfs_secrets.specs.declared.secrets.Secrets.{Secrets}
use Rattle.access_history.specs.declared.event.Issue.{Issue as IssueOf}
use Rattle.access_history.specs.declared.request.StepRequest.{StepRequest}
use Rattle.access_history.specs.declared.request.StepRequest.TheVariants as requests
use Rattle.access_history.specs.Books.{book_of}
use Rattle.access_history.specs.Base.{BaseView}
use Rattle.access_history.specs.Citing.{AreFound, IsAbsent}
use Rattle.access_history.specs.declared.reply.StepReply.TheVariants.{Absent}
use Rattle.line_words.specs.declared.procap_word.ProcapWord.{ProcapWord}
use Rattle.line_words.specs.declared.procap_word.ProcapWord.TheVariants as words
use Rattle.line_forms.specs.declared.command.Command.{Command}
use Rattle.line_forms.specs.declared.command.Command.TheVariants.{At, As, Register, Withdraw, Procap, Checkpoint, Verify, Check, Do}
use Rattle.line_forms.specs.Modes.{is_admin}
use Rattle.line_wire.specs.declared.reply.LineReply.TheVariants as replies
use Rattle.session_history.specs.declared.request.TurnRequest.TheVariants.{Step}
use Rattle.session_history.specs.declared.request.TurnRequest.TheVariants as turn_requests
use Rattle.session_history.specs.declared.task.LineTask.{LineTask}
use Rattle.session_history.specs.declared.task.LineTask.TheVariants as tasks
use Rattle.session_history.specs.Tasks.{IsUserTask}
use Rattle.pcfs_session.specs.ScriptContext.{ScriptContext}
use Rattle.pcfs_session.specs.LineAnswer.{replied, requested, ComesTo, checkpoint, registers, withdraws, shows, makes_checkpoint, verifies, verifies_nothing, acts}
use Rattle.pcfs_session.specs.Procaps.{held, AreBrought}
use Rattle.pcfs_session.specs.Proved.{cites_none, proves_none}

-- words that are written out bring their own procaps
brought : (key : List ℕ) (issues : List IssueOf) (procaps : List Sealed) → AreBrought key issues (map words.Procap procaps) procaps
brought key issues [] = tt
brought key issues (p ∷ procaps) = (held p, brought key issues procaps)

-- what a task asks in one turn, if it is a step
abbrev AsksStep : LineTask → StepRequest → Type 0
AsksStep task request = tasks.Turn (Step request) ≡ task

same_step : (first second : StepRequest) → AsksStep (tasks.Turn (Step first)) second → first ≡ second
same_step first second same = cc

same_proof : (goal goal' : Goal) (numbers numbers' : List ℕ) (proof proof' : ProofView) → tasks.Proof goal numbers proof ≡ tasks.Proof goal' numbers' proof' → Verify goal' numbers' proof' ≡ Verify goal numbers proof
same_proof goal goal' numbers numbers' proof proof' same = cc

module _ (secrets : Secrets) (state : BaseView) (asker : ScriptContext) where
  abbrev Comes : Command → StepRequest → Type 0
  Comes command request = ComesTo secrets state asker command (requested request)

  pub turn_comes : (command : Command) (request : StepRequest) → asker.sees ≡ Some asker.caller → IsUserTask asker.caller command (tasks.Turn (Step request)) → Comes command request
  turn_comes (At second) request sees is = absurd is
  turn_comes (As who) request sees is = absurd is
  turn_comes (Register None statement) request sees is = absurd is
  turn_comes (Register (Some signature) statement) request sees is = subst (Comes (Register (Some signature) statement)) (same_step (requests.Register statement signature) request is) (registers (Some signature) statement)
  turn_comes (Withdraw number None) request sees is = absurd is
  turn_comes (Withdraw number (Some signature)) request sees is = subst (Comes (Withdraw number (Some signature))) (same_step (requests.Withdraw number signature) request is) (withdraws number (Some signature))
  turn_comes (Procap number) request sees is =
      subst (Comes (Procap number)) (same_step (requests.ShowProcap number (Some asker.caller)) request is)
      (subst (λ (who : Option (List ℕ)). Comes (Procap number) (requests.ShowProcap number who)) sees (shows number))
  turn_comes Checkpoint request sees is = let other = is.1 in absurd cc
  turn_comes (Verify goal numbers proof) request sees is = absurd cc
  turn_comes (Check goal numbers proof) request sees is = absurd is
  turn_comes (Do op given) request sees is =
      subst (Comes (Do op given)) (same_step (requests.Act asker.caller op is.0) request is.2)
      (acts op given is.0 (subst (λ (ws : List ProcapWord). AreBrought secrets.seal_key state.issues ws is.0) (sym is.1) (brought secrets.seal_key state.issues is.0)))

  -- a turn that makes a checkpoint is one of a command of `admin` to make it
  pub checkpoint_comes : (command : Command) → IsUserTask asker.caller command (tasks.Turn turn_requests.Checkpoint) → IsTrue (is_admin asker.caller) × ComesTo secrets state asker command checkpoint
  checkpoint_comes (At second) is = absurd is
  checkpoint_comes (As who) is = absurd is
  checkpoint_comes (Register None statement) is = absurd is
  checkpoint_comes (Register (Some signature) statement) is = absurd cc
  checkpoint_comes (Withdraw number None) is = absurd is
  checkpoint_comes (Withdraw number (Some signature)) is = absurd cc
  checkpoint_comes (Procap number) is = absurd cc
  checkpoint_comes Checkpoint is = (is.0, makes_checkpoint)
  checkpoint_comes (Verify goal numbers proof) is = absurd cc
  checkpoint_comes (Check goal numbers proof) is = absurd is
  checkpoint_comes (Do op given) is = let other = is.2 in absurd cc

  module _ (goal : Goal) (numbers : List ℕ) (proof : ProofView) where
    -- a task that is a proof is one of a command to verify it
    proof_of : (command : Command) → IsUserTask asker.caller command (tasks.Proof goal numbers proof) → Verify goal numbers proof ≡ command
    proof_of (At second) is = absurd is
    proof_of (As who) is = absurd is
    proof_of (Register None statement) is = absurd is
    proof_of (Register (Some signature) statement) is = absurd cc
    proof_of (Withdraw number None) is = absurd is
    proof_of (Withdraw number (Some signature)) is = absurd cc
    proof_of (Procap number) is = absurd cc
    proof_of Checkpoint is = let other = is.1 in absurd cc
    proof_of (Verify goal' numbers' proof') is = sym (same_proof goal goal' numbers numbers' proof proof' is)
    proof_of (Check goal' numbers' proof') is = absurd is
    proof_of (Do op given) is = let other = is.2 in absurd cc

    pub grant_comes : (command : Command) (cites : List Cite) (g : GrantView) → IsUserTask asker.caller command (tasks.Proof goal numbers proof) → AreFound (book_of state) numbers cites → verdict (statements_of cites) goal proof ≡ Ok g →
        Comes command (requests.Issue (checked_view cites goal proof g))
    grant_comes command cites g is found granted =
        subst (λ (c : Command). Comes c (requests.Issue (checked_view cites goal proof g))) (proof_of command is) (verifies goal numbers proof cites g (record { found = found; verdict_is = granted }))

    pub fault_comes : (command : Command) (cites : List Cite) (fault : CheckFault) → IsUserTask asker.caller command (tasks.Proof goal numbers proof) → AreFound (book_of state) numbers cites → verdict (statements_of cites) goal proof ≡ Err fault →
        ComesTo secrets state asker command (replied (replies.Unproved fault))
    fault_comes command cites fault is found refuted =
        subst (λ (c : Command). ComesTo secrets state asker c (replied (replies.Unproved fault))) (proof_of command is) (verifies_nothing goal numbers proof (replies.Unproved fault) (proves_none cites fault found refuted))

    pub absent_comes : (command : Command) (number : ℕ) → IsUserTask asker.caller command (tasks.Proof goal numbers proof) → IsAbsent (book_of state) numbers number → ComesTo secrets state asker command (replied (replies.Step (Absent number)))
    absent_comes command number is absent =
        subst (λ (c : Command). ComesTo secrets state asker c (replied (replies.Step (Absent number)))) (proof_of command is) (verifies_nothing goal numbers proof (replies.Step (Absent number)) (cites_none number absent))
