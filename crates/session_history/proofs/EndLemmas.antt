-- A line has an end, if the store is not stopped.
use Rattle.std.proofs.Common.{◌≡◌, ◌+◌, inl, inr, ℕ, List, [], ◌++◌, length, Option, Some, None, Result, Ok, Err, false, refl, sym, ap, subst, arith, append-nil}
use Rattle.std.specs.Prelude.{ℤ, ◌≢◌}
use Rattle.std.specs.List.{AllByRecursion}
use Rattle.bl_syntax.specs.Citable.{AreCitable}
use Rattle.bl_syntax.specs.declared.grant.Goal.{Goal}
use Rattle.bl_syntax.specs.Statement.{IsStatement}
use Rattle.bl_syntax.specs.Grant.{GrantView}
use Rattle.proof_term.specs.Proof.{ProofView}
use Rattle.proof_term.specs.Limits.{HasTimesInRange}
use Rattle.proof_verifier.specs.declared.cites.Cite.{Cite as CiteOf}
use Rattle.proof_verifier.specs.declared.fault.CheckFault.{CheckFault}
use Rattle.proof_verifier.specs.Cited.{statements_of}
use Rattle.proof_verifier.specs.CheckedView.{checked_view}
use Rattle.proof_verifier.specs.Verdict.{verdict}
use Rattle.access_history.specs.declared.request.StepRequest.TheVariants.{Issue}
use Rattle.access_history.specs.declared.reply.StepReply.TheVariants.{Absent}
use Rattle.policy_statement.specs.Registry.{sayings}
use Rattle.access_history.specs.Books.{book_of, statements_in}
use Rattle.access_history.specs.Base.{BaseView}
use Rattle.access_history.specs.Citing.{AreFound, IsAbsent}
use Rattle.access_history.specs.Lawful.{IsLawful}
use Rattle.access_history.proofs.CitingLemmas.{IsToldOfNumbers, all_standing, found_or_absent}
use Rattle.access_history.proofs.LawfulLemmas.{IsLawfulBase-lawful}
use Rattle.line_wire.specs.declared.reply.LineReply.{LineReply}
use Rattle.line_wire.specs.declared.reply.LineReply.TheVariants as replies
use Rattle.pcfs_store.specs.Entries.{Root, StoreEntry, events_among, state_of_entries}
use Rattle.session_history.specs.declared.request.TurnRequest.{TurnRequest}
use Rattle.session_history.specs.declared.request.TurnRequest.TheVariants.{Step, Cite}
use Rattle.session_history.specs.declared.reply.TurnReply.{TurnReply}
use Rattle.session_history.specs.declared.reply.TurnReply.TheVariants as turn_replies
use Rattle.session_history.specs.declared.task.LineTask.{LineTask}
use Rattle.session_history.specs.declared.task.LineTask.TheVariants as tasks
use Rattle.session_history.specs.Passes.{has_stop}
use Rattle.session_history.specs.Turn.{StorePass, authority_of_root, AnswersTurn, Turn, TurnPlaced, IsTurnFormed}
use Rattle.session_history.specs.Turn as turns
use Rattle.session_history.specs.SessionState.{SessionState}
use Rattle.session_history.specs.Tasks.{IsTaskOf, IsSingle, IsTaskFormed, IsNamed}
use Rattle.session_history.specs.Placed.{IsReplyOf, LinePlaced, at_once, in_a_turn, cites_none, proves_none, issues}
use Rattle.session_history.specs.Laws.{IsUndisturbed}
use Rattle.session_history.proofs.AskingLemmas.{task_formed}
use Rattle.session_history.proofs.FormedLemmas.{granted_may_be_issued}
use Rattle.session_history.proofs.StopLemmas.{said_at_once, not_stopped_at_once, had_memory_at_once}
use Rattle.session_history.proofs.TurnLemmas.{turn_ends}

-- ---- what a turn replies can be told, if it asks for no statements

answer_single : (root : Root) (state : BaseView) (pass : ℕ) (clock : ℤ) (request : TurnRequest) (answer : TurnReply) (entry : Option StoreEntry) → IsSingle request → AnswersTurn root state pass clock request answer entry → (cites : List CiteOf) → answer ≡ turn_replies.Cited cites → ⊥
answer_single root state pass clock _ _ _ single (turns.steps request reply event answers) cites same = cc
answer_single root state pass clock _ _ _ single turns.makes cites same = cc
answer_single root state pass clock _ _ _ single (turns.cites numbers cited found) cites same = single
answer_single root state pass clock _ _ _ single (turns.cites_none numbers number absent) cites same = single
answer_single root state pass clock _ _ _ single (turns.logs_in who nonce signature is) cites same = cc
answer_single root state pass clock _ _ _ single (turns.rejects who nonce signature is) cites same = cc

pub single_not_cited : (gives : List StoreEntry → ℤ → Type 0) (p : StorePass) (before : List StoreEntry) (request : TurnRequest) (reply : TurnReply) (given : List StoreEntry) → IsSingle request → Turn gives p before request reply given → (cites : List CiteOf) →
    reply ≡ turn_replies.Cited cites → ⊥
single_not_cited gives p before request _ _ single (turns.was_stopped is) cites same = cc
single_not_cited gives p before request _ _ single (turns.answered clock answer running shown answers) cites same = answer_single p.root (state_of_entries p.root before) p.number clock request answer None single answers cites same
single_not_cited gives p before request _ _ single (turns.full clock answer entry running shown answers is_full) cites same = cc
single_not_cited gives p before request _ _ single (turns.kept clock answer entry running shown answers room) cites same = answer_single p.root (state_of_entries p.root before) p.number clock request answer (Some entry) single answers cites same
single_not_cited gives p before request _ _ single (turns.failed clock answer entry running shown answers room) cites same = cc
single_not_cited gives p before request _ _ single turns.without_memory cites same = cc

-- what is told of an undisturbed turn
record IsCalmlyTold (replied : TurnReply) : Type 0 where
  reply : LineReply
  told : IsReplyOf replied reply
  had_memory : reply ≢ replies.NoMemory
  not_stopped : reply ≢ replies.Stopped

told_calmly : (replied : TurnReply) → ((cites : List CiteOf) → replied ≡ turn_replies.Cited cites → ⊥) → IsUndisturbed replied → IsCalmlyTold replied
told_calmly (turn_replies.Step reply) other calm = record { reply = replies.Step reply; told = refl; had_memory = λ is. cc; not_stopped = λ is. cc }
told_calmly (turn_replies.Cited cites) other calm = absurd (other cites refl)
told_calmly turn_replies.LoggedIn other calm = record { reply = replies.Done; told = refl; had_memory = λ is. cc; not_stopped = λ is. cc }
told_calmly turn_replies.Checkpointed other calm = record { reply = replies.Checkpointed; told = refl; had_memory = λ is. cc; not_stopped = λ is. cc }
told_calmly turn_replies.Full other calm = record { reply = replies.Full; told = refl; had_memory = λ is. cc; not_stopped = λ is. cc }
told_calmly turn_replies.Stopped other calm = absurd (calm.not_stopped refl)
told_calmly turn_replies.NoMemory other calm = absurd (calm.had_memory refl)

module _ (gives : List StoreEntry → ℤ → Type 0) (p : StorePass) (before : List StoreEntry) (clock : ℤ) (shown : gives before clock) (lawful : IsLawful (authority_of_root p.root) p.root.base (events_among before)) (running : has_stop before ≡ false) where
  abbrev Ends : LineTask → Type 0
  Ends task = (reply : LineReply) × (given : List StoreEntry) × LinePlaced gives p (before ++ given) (length before) task reply (length before + length given) given × (reply ≢ replies.NoMemory) × (reply ≢ replies.Stopped)

  -- a turn at the end
  placed_last : (request : TurnRequest) (reply : TurnReply) (given : List StoreEntry) → Turn gives p before request reply given → TurnPlaced gives p (before ++ given) (length before) request reply (length before + length given) given
  placed_last request reply given turn =
      record { before = before; after = []; parts = ap (λ (l : List StoreEntry). before ++ l) (sym (append-nil given)); not_earlier = omega arith; place = refl; turn = turn }

  -- a turn that adds nothing, before others
  placed_before : (request : TurnRequest) (reply : TurnReply) (given : List StoreEntry) → Turn gives p before request reply [] → TurnPlaced gives p (before ++ given) (length before) request reply (length before) []
  placed_before request reply given turn = record { before = before; after = given; parts = refl; not_earlier = omega arith; place = omega arith; turn = turn }

  reply_ends : (reply : LineReply) → (reply ≡ replies.NoMemory → ⊥) → (reply ≡ replies.Stopped → ⊥) → Ends (tasks.Reply reply)
  reply_ends reply had_memory not_stopped =
      let same : length before ≡ length before + length {A = StoreEntry} [] = omega arith in
      (reply, [], subst (λ (n : ℕ). LinePlaced gives p (before ++ []) (length before) (tasks.Reply reply) reply n []) same (at_once reply), had_memory, not_stopped)

  turn_line_ends : (request : TurnRequest) → IsTurnFormed request → IsSingle request → Ends (tasks.Turn request)
  turn_line_ends request formed single =
      let end = turn_ends gives p before request clock shown formed running in
      let told = told_calmly end.0 (single_not_cited gives p before request end.0 end.1 single end.2) end.3 in
      (told.reply, end.1, in_a_turn request end.0 told.reply (length before + length end.1) end.1 (placed_last request end.0 end.1 end.2) told.told, told.had_memory, told.not_stopped)

  module _ (goal : Goal) (numbers : List ℕ) (proof : ProofView) (citable : AreCitable numbers) (times : HasTimesInRange proof) where
    absent_ends : (number : ℕ) → IsAbsent (book_of (state_of_entries p.root before)) numbers number → Ends (tasks.Proof goal numbers proof)
    absent_ends number absent =
        let replied : TurnReply = turn_replies.Step (Absent number) in
        let turn : Turn gives p before (Cite numbers) replied [] = turns.answered clock replied running shown (turns.cites_none numbers number absent) in
        (replies.Step (Absent number), [], cites_none goal numbers proof replied (replies.Step (Absent number)) (length before + length {A = StoreEntry} []) [] (placed_last (Cite numbers) replied [] turn) refl, λ is. cc, λ is. cc)

    module _ (cites : List CiteOf) (found : AreFound (book_of (state_of_entries p.root before)) numbers cites) where
      cited : Turn gives p before (Cite numbers) (turn_replies.Cited cites) []
      cited = turns.answered clock (turn_replies.Cited cites) running shown (turns.cites numbers cites found)

      by_verdict : (r : Result GrantView CheckFault) → verdict (statements_of cites) goal proof ≡ r → Ends (tasks.Proof goal numbers proof)
      by_verdict (Err fault) is =
          (replies.Unproved fault, [], proves_none goal numbers proof cites fault (length before + length {A = StoreEntry} []) (placed_last (Cite numbers) (turn_replies.Cited cites) [] cited) is, λ same. cc, λ same. cc)
      by_verdict (Ok g) is =
          let request : TurnRequest = Step (Issue (checked_view cites goal proof g)) in
          let registered : AllByRecursion IsStatement (sayings (state_of_entries p.root before).statements) = (IsLawfulBase-lawful (authority_of_root p.root) p.root.base (events_among before) lawful).statements_formed in
          let statements : AllByRecursion IsStatement (statements_in (book_of (state_of_entries p.root before))) = all_standing IsStatement (state_of_entries p.root before) registered in
          let formed = granted_may_be_issued (book_of (state_of_entries p.root before)) goal numbers proof cites g statements citable times found is in
          let end = turn_ends gives p before request clock shown formed running in
          let told = told_calmly end.0 (single_not_cited gives p before request end.0 end.1 tt end.2) end.3 in (
            told.reply,
            end.1,
            issues goal numbers proof cites g (length before) end.0 told.reply (length before + length end.1) end.1 (placed_before (Cite numbers) (turn_replies.Cited cites) end.1 cited) is (placed_last request end.0 end.1 end.2) told.told,
            told.had_memory,
            told.not_stopped,
          )

    proof_ends : IsToldOfNumbers (book_of (state_of_entries p.root before)) numbers → Ends (tasks.Proof goal numbers proof)
    proof_ends (inl found) = by_verdict found.0 found.1 (verdict (statements_of found.0) goal proof) refl
    proof_ends (inr absent) = absent_ends absent.0 absent.1

  by_task : (s : SessionState) (line : List ℕ) (task : LineTask) → IsTaskFormed task → IsTaskOf s line task → Ends task
  by_task s line (tasks.Reply reply) formed is = let said = said_at_once s line (tasks.Reply reply) reply is refl in reply_ends reply (had_memory_at_once reply said) (not_stopped_at_once reply said)
  by_task s line (tasks.Turn request) formed is = turn_line_ends request formed.0 formed.1
  by_task s line (tasks.Proof goal numbers proof) formed is = proof_ends goal numbers proof formed.0 formed.1 (found_or_absent (book_of (state_of_entries p.root before)) numbers)

pub line_ends : (gives : List StoreEntry → ℤ → Type 0) (p : StorePass) (s : SessionState) (line : List ℕ) (task : LineTask) (before : List StoreEntry) (clock : ℤ) → gives before clock → IsNamed s.caller → IsLawful (authority_of_root p.root) p.root.base (events_among before) →
    has_stop before ≡ false → IsTaskOf s line task →
    (reply : LineReply) × (given : List StoreEntry) × LinePlaced gives p (before ++ given) (length before) task reply (length before + length given) given × (reply ≢ replies.NoMemory) × (reply ≢ replies.Stopped)
line_ends gives p s line task before clock shown named lawful running is = by_task gives p before clock shown lawful running s line task (task_formed s line task named is) is
