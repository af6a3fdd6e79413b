-- What an interpreter makes of requests, commands and lines.
use Rattle.std.proofs.Common.{◌≡◌, ◌∙◌, ℕ, ℤ, List, [], Option, Some, None, Err, ⊎_elim, refl, sym, ap, subst}
use Rattle.std.specs.Prelude.{◌≢◌}
use Rattle.bl_syntax.specs.declared.grant.Goal.{Goal}
use Rattle.bl_syntax.specs.Statement.{StatementView}
use Rattle.bl_syntax.specs.Grant.{GrantView}
use Rattle.procap.specs.declared.procap.Procap.{Procap as Sealed}
use Rattle.proof_term.specs.Proof.{ProofView}
use Rattle.proof_verifier.specs.declared.cites.Cite.{Cite}
use Rattle.proof_verifier.specs.declared.fault.CheckFault.{CheckFault}
use Rattle.proof_verifier.specs.declared.fault.CheckFault.TheVariants as check_faults
use Rattle.bl_syntax.specs.Citable.{AreCitable}
use Rattle.proof_verifier.specs.Cited.{AreCited, statements_of}
use Rattle.proof_verifier.specs.CheckedView.{CheckedView, checked_view, IsChecked, IsGranted}
use Rattle.proof_verifier.specs.Run.{IsFault}
use Rattle.proof_verifier.specs.Verdict.{verdict}
use Rattle.file_world.specs.declared.operation.Op.{Op}
use Rattle.access_history.specs.declared.request.StepRequest.{StepRequest}
use Rattle.access_history.specs.declared.request.StepRequest.TheVariants as requests
use Rattle.access_history.specs.declared.reply.StepReply.TheVariants.{Absent}
use Rattle.access_history.specs.Books.{Book, book_of}
use Rattle.access_history.specs.Citing.{AreFound}
use Rattle.op_gate.specs.declared.cite.Citation.{Citation}
use Rattle.op_gate.specs.declared.cite.Citation.TheVariants as citations
use Rattle.op_gate.specs.Citations.{GivesCitation}
use Rattle.op_gate.specs.Decision.{GateView}
use Rattle.journal_records.specs.declared.event.Event.{Event}
use Rattle.access_history.specs.Base.{BaseView}
use Rattle.access_history.specs.History.{HistoryView, state_of}
use Rattle.access_history.specs.Replay.{replay}
use Rattle.policy_statement.specs.Ring.{KeyView}
use Rattle.pcfs_store.specs.StoreView.{StoreView}
use Rattle.line_words.specs.declared.procap_word.ProcapWord.{ProcapWord}
use Rattle.line_forms.specs.declared.command.Command.{Command}
use Rattle.line_forms.specs.declared.command.Command.TheVariants as commands
use Rattle.line_forms.specs.declared.fault.LineFault.{LineFault}
use Rattle.line_forms.specs.declared.fault.LineFault.TheVariants as line_faults
use Rattle.line_forms.specs.Lines.{IsLine, IsLineFault, IsUnread}
use Rattle.line_wire.specs.declared.reply.LineReply.{LineReply}
use Rattle.line_wire.specs.declared.reply.LineReply.TheVariants as replies
use Rattle.std.specs.Option.{option_map}
use Rattle.pcfs_store.specs.Entries.{happened}
use Rattle.pcfs_session.specs.ScriptContext.{ScriptContext, asker_after}
use Rattle.pcfs_session.specs.Brought.{AreProcapsAdded}
use Rattle.pcfs_session.specs.Procaps.{AreBrought, IsFirstUnissued}
use Rattle.pcfs_session.specs.Proved.{IsUnproved, cites_none, proves_none, IsProved}
use Rattle.pcfs_session.specs.InterpreterView.{InterpreterView, standing_of}
use Rattle.pcfs_session.specs.LineAnswer.{signature_under, withdrawal_under, replied, requested, ComesTo, at_once, decided, faulty, asks}
use Rattle.pcfs_session.specs.LineAnswer as line_answer
use Rattle.pcfs_session.specs.ScriptRun.{ScriptState, state_of_standing, Becomes, kept, IsReplied, answered, without_memory}
use Rattle.pcfs_session.specs.Interpreter.{IsDecidedAs, IsFollowed, unread_reply}
use Rattle.access_history.proofs.CitingLemmas.{AreCited-found}
use Rattle.pcfs_session.proofs.BroughtLemmas.{unissued_seated, brought_seated}

-- ---- commands

-- a command that is answered at once leaves all as it was
followed_at_once : (s : ScriptState) (command : Command) (reply : LineReply) → asker_after s.asker command ≡ s.asker → ComesTo s.secrets (state_of_standing s) s.asker command (replied reply) → IsFollowed command s reply s
followed_at_once s command reply stays look =
    record { told = reply; entry = None; answer = at_once reply look; becomes = subst (λ (k : ScriptContext). Becomes s reply k None reply s) (sym stays) (kept None tt) }

-- a command that leads to a request gets its answer
followed_by : (before after : ScriptState) (command : Command) (request : StepRequest) (reply : LineReply) → asker_after before.asker command ≡ before.asker → ComesTo before.secrets (state_of_standing before) before.asker command (requested request) → IsDecidedAs request before reply after →
    IsFollowed command before reply after
followed_by before after command request reply stays look asked = record {
  told = replies.Step asked.told;
  entry = option_map happened asked.event;
  answer = decided request asked.told asked.event look asked.answer;
  becomes = subst (λ (k : ScriptContext). Becomes before (replies.Step asked.told) k (option_map happened asked.event) reply after) (sym stays) asked.becomes;
}

pub IsFollowed-same : (before after : ScriptState) (command other : Command) (reply : LineReply) → command ≡ other → IsFollowed other before reply after → IsFollowed command before reply after
IsFollowed-same before after command other reply same followed = subst (λ (c : Command). IsFollowed c before reply after) (sym same) followed

abbrev viewed : {D : Type 0} → StoreView D → ℕ → ℤ → List ℕ → Option (List ℕ) → InterpreterView D
viewed store pass clock caller sees = record { store = store; asker = record { pass = pass; clock = clock; caller = caller; sees = sees } }

-- the clock is set
pub IsFollowed-at : {D : Type 0} (seated : InterpreterView D) (store : StoreView D) (pass : ℕ) (clock : ℤ) (caller : List ℕ) (sees : Option (List ℕ)) (command : Command) (second shown : ℤ) → seated ≡ viewed store pass clock caller sees → command ≡ commands.At second →
    shown ≡ second → IsFollowed command (standing_of seated None) replies.Done (standing_of (viewed store pass shown caller sees) None)
IsFollowed-at {D} seated store pass clock caller sees command second shown is asked same =
    subst (λ (v : InterpreterView D). IsFollowed command (standing_of v None) replies.Done (standing_of (viewed store pass shown caller sees) None)) (sym is)
    (subst (λ (c : Command). IsFollowed c (standing_of (viewed store pass clock caller sees) None) replies.Done (standing_of (viewed store pass shown caller sees) None)) (sym asked)
    (subst (λ (z : ℤ). IsFollowed (commands.At second) (standing_of (viewed store pass clock caller sees) None) replies.Done (standing_of (viewed store pass z caller sees) None)) (sym same)
    (record { told = replies.Done; entry = None; answer = at_once replies.Done (line_answer.sets_clock second); becomes = kept None tt })))

-- the caller is set
pub IsFollowed-as : {D : Type 0} (seated : InterpreterView D) (store : StoreView D) (pass : ℕ) (clock : ℤ) (caller : List ℕ) (sees : Option (List ℕ)) (command : Command) (who : List ℕ) → seated ≡ viewed store pass clock caller sees → command ≡ commands.As who →
    IsFollowed command (standing_of seated None) replies.Done (standing_of (viewed store pass clock who sees) None)
IsFollowed-as {D} seated store pass clock caller sees command who is asked =
    subst (λ (v : InterpreterView D). IsFollowed command (standing_of v None) replies.Done (standing_of (viewed store pass clock who sees) None)) (sym is)
    (subst (λ (c : Command). IsFollowed c (standing_of (viewed store pass clock caller sees) None) replies.Done (standing_of (viewed store pass clock who sees) None)) (sym asked)
    (record { told = replies.Done; entry = None; answer = at_once replies.Done (line_answer.sets_caller who); becomes = kept None tt }))

pub IsFollowed-register : (before after : ScriptState) (signature : Option (List ℕ)) (statement : StatementView) (given : List ℕ) (reply : LineReply) → given ≡ signature_under before.secrets.ring statement signature →
    IsDecidedAs (requests.Register statement given) before reply after → IsFollowed (commands.Register signature statement) before reply after
IsFollowed-register before after signature statement given reply given_is asked =
    followed_by before after (commands.Register signature statement) (requests.Register statement (signature_under before.secrets.ring statement signature)) reply refl (line_answer.registers signature statement)
    (subst (λ (bytes : List ℕ). IsDecidedAs (requests.Register statement bytes) before reply after) given_is asked)

pub IsFollowed-withdraw : (before after : ScriptState) (number : ℕ) (signature : Option (List ℕ)) (given : List ℕ) (reply : LineReply) → given ≡ withdrawal_under before.secrets.ring (state_of_standing before) number signature →
    IsDecidedAs (requests.Withdraw number given) before reply after → IsFollowed (commands.Withdraw number signature) before reply after
IsFollowed-withdraw before after number signature given reply given_is asked =
    followed_by before after (commands.Withdraw number signature) (requests.Withdraw number (withdrawal_under before.secrets.ring (state_of_standing before) number signature)) reply refl (line_answer.withdraws number signature)
    (subst (λ (bytes : List ℕ). IsDecidedAs (requests.Withdraw number bytes) before reply after) given_is asked)

pub IsFollowed-show : (before after : ScriptState) (number : ℕ) (sees : Option (List ℕ)) (reply : LineReply) → sees ≡ before.asker.sees → IsDecidedAs (requests.ShowProcap number sees) before reply after → IsFollowed (commands.Procap number) before reply after
IsFollowed-show before after number sees reply sees_is asked =
    followed_by before after (commands.Procap number) (requests.ShowProcap number before.asker.sees) reply refl (line_answer.shows number) (subst (λ (who : Option (List ℕ)). IsDecidedAs (requests.ShowProcap number who) before reply after) sees_is asked)

-- ---- proofs

-- the gate of a store
abbrev gate_of : {D : Type 0} → StoreView D → GateView
gate_of s = record { key = s.key; ring = s.ring; base = s.base; events = s.events; pending = s.met }

-- the signature of a withdrawal where an interpreter stands, by the history that its gate shows
pub withdrawal_here : {D : Type 0} (history : HistoryView) (gate : GateView) (inside seated : InterpreterView D) (number : ℕ) (given : Option (List ℕ)) (signature : List ℕ) → history.ring ≡ gate.ring → history.base ≡ gate.base → history.events ≡ gate.events →
    gate ≡ gate_of inside.store → inside ≡ seated → signature ≡ withdrawal_under history.ring (state_of history) number given →
    signature ≡ withdrawal_under (standing_of seated None).secrets.ring (state_of_standing (standing_of seated None)) number given
withdrawal_here {D} history gate inside seated number given signature ring base events is same made =
    made ∙ ap (λ (r : List KeyView). withdrawal_under r (state_of history) number given) ring
    ∙ ap (λ (b : BaseView). withdrawal_under gate.ring (replay b history.events) number given) base
    ∙ ap (λ (es : List Event). withdrawal_under gate.ring (replay gate.base es) number given) events
    ∙ ap (λ (g : GateView). withdrawal_under g.ring (replay g.base g.events) number given) is
    ∙ ap (λ (i : InterpreterView D). withdrawal_under i.store.ring (replay i.store.base i.store.events) number given) same

-- the statements that an interpreter cites
pub Cites-seated : {D : Type 0} (gate : GateView) (inside seated : InterpreterView D) (shown numbers : List ℕ) (citation : Citation) → gate ≡ gate_of inside.store → inside ≡ seated → shown ≡ numbers → GivesCitation (book_of (replay gate.base gate.events)) shown citation →
    GivesCitation (book_of (state_of_standing (standing_of seated None))) numbers citation
Cites-seated {D} gate inside seated shown numbers citation is same numbers_are found =
    subst (λ (i : InterpreterView D). GivesCitation (book_of (state_of_standing (standing_of i None))) numbers citation) same
    (subst (λ (ns : List ℕ). GivesCitation (book_of (state_of_standing (standing_of inside None))) ns citation) numbers_are
    (subst (λ (h : GateView). GivesCitation (book_of (replay h.base h.events)) shown citation) is found))

-- what is found of numbers that can be cited can be cited
pub AreCited-given : (book : Book) (numbers shown : List ℕ) (citation : Citation) (cites : List Cite) → citation ≡ citations.Cited cites → shown ≡ numbers → GivesCitation book shown citation → AreCitable numbers → AreCited cites
AreCited-given book numbers shown citation cites is numbers_are found citable = AreCited-found book shown cites (subst (GivesCitation book shown) is found) (subst AreCitable (sym numbers_are) citable)

-- what the words of a line bring where an interpreter stands
pub unissued_here : {D : Type 0} (gate : GateView) (inside seated : InterpreterView D) (shown words : List ProcapWord) (none added : List Sealed) (told : Option ℕ) (number : ℕ) → gate ≡ gate_of inside.store → inside ≡ seated → shown ≡ words → told ≡ Some number →
    AreProcapsAdded gate.key (replay gate.base gate.events).issues shown none added told → IsFirstUnissued (state_of_standing (standing_of seated None)).issues words number
unissued_here {D} gate inside seated shown words none added told number is same words_are told_is all =
    unissued_seated (standing_of inside None) (standing_of seated None) shown words none added told number (ap (λ (i : InterpreterView D). standing_of i None) same) words_are told_is
    (subst (λ (h : GateView). AreProcapsAdded h.key (replay h.base h.events).issues shown none added told) is all)

pub brought_here : {D : Type 0} (gate : GateView) (inside seated : InterpreterView D) (shown words : List ProcapWord) (none added : List Sealed) (told : Option ℕ) → gate ≡ gate_of inside.store → inside ≡ seated → shown ≡ words → told ≡ None → none ≡ [] →
    AreProcapsAdded gate.key (replay gate.base gate.events).issues shown none added told → AreBrought (standing_of seated None).secrets.seal_key (state_of_standing (standing_of seated None)).issues words added
brought_here {D} gate inside seated shown words none added told is same words_are told_is empty all =
    brought_seated (standing_of inside None) (standing_of seated None) shown words none added told (ap (λ (i : InterpreterView D). standing_of i None) same) words_are told_is empty
    (subst (λ (h : GateView). AreProcapsAdded h.key (replay h.base h.events).issues shown none added told) is all)

absent : (book : Book) (goal : Goal) (numbers : List ℕ) (proof : ProofView) (citation : Citation) (number : ℕ) → citation ≡ citations.Absent number → GivesCitation book numbers citation → IsUnproved book goal numbers proof (replies.Step (Absent number))
absent book goal numbers proof citation number is found = cites_none number (subst (GivesCitation book numbers) is found)

-- the statements that were found
AreFound-cited : (book : Book) (numbers : List ℕ) (citation : Citation) (cites : List Cite) → citation ≡ citations.Cited cites → GivesCitation book numbers citation → AreFound book numbers cites
AreFound-cited book numbers citation cites is found = subst (GivesCitation book numbers) is found

refused : (book : Book) (goal : Goal) (numbers : List ℕ) (proof : ProofView) (citation : Citation) (cites : List Cite) (fault : CheckFault) (reply : LineReply) → citation ≡ citations.Cited cites → GivesCitation book numbers citation →
    (reply ≡ replies.Unproved fault) × (fault ≢ check_faults.NoMemory) → IsFault fault (verdict (statements_of cites) goal proof) → IsUnproved book goal numbers proof reply
refused book goal numbers proof citation cites fault reply is found told refusal =
    subst (IsUnproved book goal numbers proof) (sym told.0)
    (⊎_elim (λ (none : fault ≡ check_faults.NoMemory). absurd (told.1 none)) (λ (same : verdict (statements_of cites) goal proof ≡ Err fault). proves_none cites fault (AreFound-cited book numbers citation cites is found) same) refusal)

granted : (book : Book) (goal : Goal) (numbers : List ℕ) (proof : ProofView) (citation : Citation) (cites : List Cite) (g : GrantView) → citation ≡ citations.Cited cites → GivesCitation book numbers citation → IsGranted (statements_of cites) goal proof g →
    IsProved book goal numbers proof cites g
granted book goal numbers proof citation cites g is found grant = record { found = AreFound-cited book numbers citation cites is found; verdict_is = grant.verdict_is }

pub IsFollowed-verify_absent : (s : ScriptState) (goal : Goal) (numbers : List ℕ) (proof : ProofView) (citation : Citation) (number : ℕ) → citation ≡ citations.Absent number → GivesCitation (book_of (state_of_standing s)) numbers citation →
    IsFollowed (commands.Verify goal numbers proof) s (replies.Step (Absent number)) s
IsFollowed-verify_absent s goal numbers proof citation number is found =
    followed_at_once s (commands.Verify goal numbers proof) (replies.Step (Absent number)) refl (line_answer.verifies_nothing goal numbers proof (replies.Step (Absent number)) (absent (book_of (state_of_standing s)) goal numbers proof citation number is found))

pub IsFollowed-verify_refused : (s : ScriptState) (goal : Goal) (numbers : List ℕ) (proof : ProofView) (citation : Citation) (cites : List Cite) (fault : CheckFault) (reply : LineReply) → citation ≡ citations.Cited cites → GivesCitation (book_of (state_of_standing s)) numbers citation →
    IsFault fault (verdict (statements_of cites) goal proof) → (reply ≡ replies.Unproved fault) × (fault ≢ check_faults.NoMemory) → IsFollowed (commands.Verify goal numbers proof) s reply s
IsFollowed-verify_refused s goal numbers proof citation cites fault reply is found refusal told =
    followed_at_once s (commands.Verify goal numbers proof) reply refl (line_answer.verifies_nothing goal numbers proof reply (refused (book_of (state_of_standing s)) goal numbers proof citation cites fault reply is found told refusal))

pub IsFollowed-verify : (before after : ScriptState) (goal : Goal) (numbers : List ℕ) (proof : ProofView) (citation : Citation) (cites : List Cite) (checked : CheckedView) (reply : LineReply) → citation ≡ citations.Cited cites → GivesCitation (book_of (state_of_standing before)) numbers citation →
    checked ≡ checked_view cites goal proof checked.grant → IsChecked checked → IsDecidedAs (requests.Issue checked) before reply after → IsFollowed (commands.Verify goal numbers proof) before reply after
IsFollowed-verify before after goal numbers proof citation cites checked reply is found same grant asked =
    followed_by before after (commands.Verify goal numbers proof) (requests.Issue (checked_view cites goal proof checked.grant)) reply refl
    (line_answer.verifies goal numbers proof cites checked.grant (granted (book_of (state_of_standing before)) goal numbers proof citation cites checked.grant is found (subst IsChecked same grant)))
    (subst (λ (c : CheckedView). IsDecidedAs (requests.Issue c) before reply after) same asked)

pub IsFollowed-check_absent : (s : ScriptState) (goal : Goal) (numbers : List ℕ) (proof : ProofView) (citation : Citation) (number : ℕ) → citation ≡ citations.Absent number → GivesCitation (book_of (state_of_standing s)) numbers citation →
    IsFollowed (commands.Check goal numbers proof) s (replies.Step (Absent number)) s
IsFollowed-check_absent s goal numbers proof citation number is found =
    followed_at_once s (commands.Check goal numbers proof) (replies.Step (Absent number)) refl (line_answer.checks_nothing goal numbers proof (replies.Step (Absent number)) (absent (book_of (state_of_standing s)) goal numbers proof citation number is found))

pub IsFollowed-check_refused : (s : ScriptState) (goal : Goal) (numbers : List ℕ) (proof : ProofView) (citation : Citation) (cites : List Cite) (fault : CheckFault) (reply : LineReply) → citation ≡ citations.Cited cites → GivesCitation (book_of (state_of_standing s)) numbers citation →
    IsFault fault (verdict (statements_of cites) goal proof) → (reply ≡ replies.Unproved fault) × (fault ≢ check_faults.NoMemory) → IsFollowed (commands.Check goal numbers proof) s reply s
IsFollowed-check_refused s goal numbers proof citation cites fault reply is found refusal told =
    followed_at_once s (commands.Check goal numbers proof) reply refl (line_answer.checks_nothing goal numbers proof reply (refused (book_of (state_of_standing s)) goal numbers proof citation cites fault reply is found told refusal))

pub IsFollowed-check : (s : ScriptState) (goal : Goal) (numbers : List ℕ) (proof : ProofView) (citation : Citation) (cites : List Cite) (g : GrantView) → citation ≡ citations.Cited cites → GivesCitation (book_of (state_of_standing s)) numbers citation →
    IsGranted (statements_of cites) goal proof g → IsFollowed (commands.Check goal numbers proof) s (replies.Checked g) s
IsFollowed-check s goal numbers proof citation cites g is found grant =
    followed_at_once s (commands.Check goal numbers proof) (replies.Checked g) refl (line_answer.checks goal numbers proof cites g (granted (book_of (state_of_standing s)) goal numbers proof citation cites g is found grant))

-- ---- operations

pub IsFollowed-do_absent : (s : ScriptState) (op : Op) (words : List ProcapWord) (number : ℕ) → IsFirstUnissued (state_of_standing s).issues words number → IsFollowed (commands.Do op words) s (replies.Step (Absent number)) s
IsFollowed-do_absent s op words number first = followed_at_once s (commands.Do op words) (replies.Step (Absent number)) refl (line_answer.acts_under_none op words number first)

pub IsFollowed-do : (before after : ScriptState) (op : Op) (words : List ProcapWord) (procaps : List Sealed) (caller : List ℕ) (reply : LineReply) → caller ≡ before.asker.caller → AreBrought before.secrets.seal_key (state_of_standing before).issues words procaps →
    IsDecidedAs (requests.Act caller op procaps) before reply after → IsFollowed (commands.Do op words) before reply after
IsFollowed-do before after op words procaps caller reply caller_is brought asked =
    followed_by before after (commands.Do op words) (requests.Act before.asker.caller op procaps) reply refl (line_answer.acts op words procaps brought)
    (subst (λ (who : List ℕ). IsDecidedAs (requests.Act who op procaps) before reply after) caller_is asked)

-- ---- lines

-- what a line asks for was done
pub IsReplied-followed : (before after : ScriptState) (line : List ℕ) (command : Command) (reply : LineReply) → IsLine line command → IsFollowed command before reply after → IsReplied line before reply after
IsReplied-followed before after line command reply is followed =
    answered followed.told followed.entry (asker_after before.asker command) reply after (asks command followed.told followed.entry is followed.answer) followed.becomes

-- memory ran out, and nothing changed
pub IsReplied-without_memory : (before after : ScriptState) (line : List ℕ) → after ≡ before → IsReplied line before replies.NoMemory after
IsReplied-without_memory before after line same = subst (IsReplied line before replies.NoMemory) (sym same) without_memory

-- a line with a fault
faulty_line : (s : ScriptState) (line : List ℕ) (fault : LineFault) → IsLineFault line fault → IsReplied line s (replies.Faulty fault) s
faulty_line s line fault bad = answered (replies.Faulty fault) None s.asker (replies.Faulty fault) s (faulty fault bad) (kept None tt)

unread_line : (s : ScriptState) (line : List ℕ) (fault : LineFault) → IsUnread line fault → IsReplied line s (unread_reply fault) s
unread_line s line (line_faults.BadWord place) bad = faulty_line s line (line_faults.BadWord place) bad
unread_line s line line_faults.BadCount bad = faulty_line s line line_faults.BadCount bad
unread_line s line (line_faults.BadText fault) bad = faulty_line s line (line_faults.BadText fault) bad
unread_line s line line_faults.NoMemory bad = without_memory

-- what is returned to a line that was not read
pub IsReplied-unread : (s : ScriptState) (line : List ℕ) (fault : LineFault) (reply : LineReply) → reply ≡ unread_reply fault → IsUnread line fault → IsReplied line s reply s
IsReplied-unread s line fault reply is bad = subst (λ (r : LineReply). IsReplied line s r s) (sym is) (unread_line s line fault bad)
