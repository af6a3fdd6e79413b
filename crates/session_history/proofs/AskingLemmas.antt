-- Each line of a session asks for exactly one thing.
use Rattle.std.proofs.Common.{◌≡◌, ◌∙◌, ◌⊎◌, inl, inr, ℕ, List, [], ◌∷◌, map, length, Option, Some, None, refl, sym, ap, subst}
use Rattle.std.specs.Prelude.{IsTrue}
use Rattle.std.specs.List.{AllByRecursion}
use Rattle.std.proofs.lemmas.Bool.{false≢true}
use Rattle.std.proofs.lemmas.List.{length-map}
use Rattle.procap.specs.declared.procap.Procap.{Procap as Sealed}
use Rattle.access_history.specs.declared.request.StepRequest.TheVariants as requests
use Rattle.access_history.specs.WellFormed.{IsWellFormedAct}
use Rattle.file_world.specs.declared.operation.Op.{Op}
use Rattle.bl_syntax.specs.Names.{is_principal_name}
use Rattle.line_words.specs.declared.procap_word.ProcapWord.{ProcapWord}
use Rattle.line_words.specs.declared.procap_word.ProcapWord.TheVariants as words
use Rattle.line_forms.specs.declared.asked.Line.{Line}
use Rattle.line_forms.specs.declared.asked.Line.TheVariants as lines
use Rattle.line_forms.specs.declared.command.Command.{Command}
use Rattle.line_forms.specs.declared.command.Command.TheVariants.{At, As, Register, Withdraw, Procap, Checkpoint, Verify, Check, Do}
use Rattle.line_forms.specs.declared.fault.LineFault.{LineFault}
use Rattle.line_forms.specs.Lines.{IsLineIn, IsLineFaultIn}
use Rattle.line_forms.specs.Said.{IsOperationAsked, IsWithin, IsLineWithin, IsWrittenOut, IsOfSession, IsOfUser, IsSaidIn}
use Rattle.line_forms.proofs.LimitLemmas.{line_within}
use Rattle.line_forms.proofs.LineLemmas.{one_line, line_or_fault, one_fault}
use Rattle.line_forms.proofs.SaidLemmas.{said_in_mode}
use Rattle.line_forms.proofs.TotalLemmas.{line_or_a_fault}
use Rattle.bl_syntax.specs.Statement.{StatementView}
use Rattle.bl_syntax.specs.declared.grant.Goal.{Goal}
use Rattle.proof_term.specs.Proof.{ProofView}
use Rattle.session_history.specs.declared.request.TurnRequest.TheVariants as turn_requests
use Rattle.line_wire.specs.declared.reply.LineReply.TheVariants as replies
use Rattle.session_history.specs.declared.request.TurnRequest.TheVariants.{Step, Login}
use Rattle.session_history.specs.SessionState.{SessionState, mode_for, mode_of}
use Rattle.session_history.specs.declared.task.LineTask.{LineTask}
use Rattle.session_history.specs.declared.task.LineTask.TheVariants as tasks
use Rattle.session_history.specs.Tasks.{IsUserTask, IsCommandTask, IsReadTask, IsTaskOf, faulty, read, IsTaskFormed, IsNamed}

-- ---- one thing

held_once : (xs ys : List Sealed) → map words.Procap xs ≡ map words.Procap ys → xs ≡ ys
held_once [] [] same = refl
held_once [] (y ∷ ys) same = absurd cc
held_once (x ∷ xs) [] same = absurd cc
held_once (x ∷ xs) (y ∷ ys) same =
    let first : x ≡ y = cc in
    let others : map words.Procap xs ≡ map words.Procap ys = cc in
    ap (λ (p : Sealed). p ∷ xs) first ∙ ap (λ (ps : List Sealed). y ∷ ps) (held_once xs ys others)

user_once : (who : List ℕ) (command : Command) (first second : LineTask) → IsUserTask who command first → IsUserTask who command second → first ≡ second
user_once who (At second) a b one other = absurd one
user_once who (As person) a b one other = absurd one
user_once who (Register None statement) a b one other = absurd one
user_once who (Register (Some signature) statement) a b one other = one ∙ sym other
user_once who (Withdraw number None) a b one other = absurd one
user_once who (Withdraw number (Some signature)) a b one other = one ∙ sym other
user_once who (Procap number) a b one other = one ∙ sym other
user_once who Checkpoint a b one other = one.1 ∙ sym other.1
user_once who (Verify goal numbers proof) a b one other = one ∙ sym other
user_once who (Check goal numbers proof) a b one other = absurd one
user_once who (Do op procap_words) a b one other =
    let same : one.0 ≡ other.0 = held_once one.0 other.0 (sym one.1 ∙ other.1) in
    one.2 ∙ ap (λ (ps : List Sealed). tasks.Turn (Step (requests.Act who op ps))) same ∙ sym other.2

command_once : (caller : Option (List ℕ)) (command : Command) (first second : LineTask) → IsCommandTask caller command first → IsCommandTask caller command second → first ≡ second
command_once None command a b one other = one ∙ sym other
command_once (Some who) command a b one other = user_once who command a b one other

read_once : (s : SessionState) (said : Line) (first second : LineTask) → IsReadTask s said first → IsReadTask s said second → first ≡ second
read_once s (lines.Command command) a b one other = command_once s.caller command a b one other
read_once s (lines.Login who signature) a b one other = one ∙ sym other
read_once s (lines.Statement statement) a b one other = absurd one
read_once s (lines.Goal goal proof) a b one other = absurd one

pub asks_once : (s : SessionState) (line : List ℕ) (first second : LineTask) → IsTaskOf s line first → IsTaskOf s line second → first ≡ second
asks_once s line _ _ (faulty fault bad) (faulty other worse) = ap (λ (f : LineFault). tasks.Reply (replies.Faulty f)) (one_fault bad other worse)
asks_once s line _ _ (faulty fault bad) (read said task is reads) = absurd (line_or_fault is bad)
asks_once s line _ _ (read said task is reads) (faulty fault bad) = absurd (line_or_fault is bad)
asks_once s line _ _ (read said task is reads) (read said' task' is' reads') =
    let same : said' ≡ said = one_line is' is in
    read_once s said task task' reads (subst (λ (l : Line). IsReadTask s l task') same reads')

-- ---- something

held_of : (given : List ProcapWord) → AllByRecursion IsWrittenOut given → (procaps : List Sealed) × (given ≡ map words.Procap procaps)
held_of [] all = ([], refl)
held_of (words.Procap p ∷ given) all = let others = held_of given all.1 in (p ∷ others.0, ap (λ (ws : List ProcapWord). words.Procap p ∷ ws) others.1)
held_of (words.Issue number ∷ given) all = absurd all.0

user_asks : (who : List ℕ) (command : Command) → IsOfSession command → IsOfUser who command → (task : LineTask) × IsUserTask who command task
user_asks who (At second) said mine = absurd said
user_asks who (As other) said mine = absurd said
user_asks who (Register None statement) said mine = absurd (false≢true said)
user_asks who (Register (Some signature) statement) said mine = (tasks.Turn (Step (requests.Register statement signature)), refl)
user_asks who (Withdraw number None) said mine = absurd (false≢true said)
user_asks who (Withdraw number (Some signature)) said mine = (tasks.Turn (Step (requests.Withdraw number signature)), refl)
user_asks who (Procap number) said mine = (tasks.Turn (Step (requests.ShowProcap number (Some who))), refl)
user_asks who Checkpoint said mine = (tasks.Turn turn_requests.Checkpoint, (mine, refl))
user_asks who (Verify goal numbers proof) said mine = (tasks.Proof goal numbers proof, refl)
user_asks who (Check goal numbers proof) said mine = absurd said
user_asks who (Do op given) said mine = let held = held_of given said in (tasks.Turn (Step (requests.Act who op held.0)), (held.0, held.1, refl))

command_asks : (caller : Option (List ℕ)) (command : Command) → IsSaidIn (mode_for caller) (lines.Command command) → (task : LineTask) × IsCommandTask caller command task
command_asks None command said = (tasks.Reply replies.NotLoggedIn, refl)
command_asks (Some who) command said = user_asks who command said.0 said.1

no_statement : (caller : Option (List ℕ)) (statement : StatementView) → IsSaidIn (mode_for caller) (lines.Statement statement) → ⊥
no_statement None statement said = said
no_statement (Some who) statement said = said

no_goal : (caller : Option (List ℕ)) (goal : Goal) (proof : ProofView) → IsSaidIn (mode_for caller) (lines.Goal goal proof) → ⊥
no_goal None goal proof said = said
no_goal (Some who) goal proof said = said

read_asks : (s : SessionState) (line : Line) → IsSaidIn (mode_of s) line → (task : LineTask) × IsReadTask s line task
read_asks s (lines.Command command) said = command_asks s.caller command said
read_asks s (lines.Login who signature) said = (tasks.Turn (Login who s.nonce signature), refl)
read_asks s (lines.Statement statement) said = absurd (no_statement s.caller statement said)
read_asks s (lines.Goal goal proof) said = absurd (no_goal s.caller goal proof said)

by_reading : (s : SessionState) (line : List ℕ) → ((said : Line) × IsLineIn (mode_of s) line said) ⊎ ((fault : LineFault) × IsLineFaultIn (mode_of s) line fault) → (task : LineTask) × IsTaskOf s line task
by_reading s line (inl one) =
    let task = read_asks s one.0 (said_in_mode one.1) in (task.0, read one.0 task.0 one.1 task.1)
by_reading s line (inr bad) = (tasks.Reply (replies.Faulty bad.0), faulty bad.0 bad.1)

pub asks_something : (s : SessionState) (line : List ℕ) → (task : LineTask) × IsTaskOf s line task
asks_something s line = by_reading s line (line_or_a_fault (mode_of s) line)

-- ---- what is asked may be asked

-- an operation of a line, with the procaps that it brings
pub formed_act : (who : List ℕ) (op : Op) (given : List ProcapWord) (procaps : List Sealed) → IsTrue (is_principal_name who) → IsOperationAsked op given → given ≡ map words.Procap procaps → IsWellFormedAct who op procaps
formed_act who op given procaps named within is = record {
  named = named;
  operation = within.operation;
  brought = record { slots = sym (length-map procaps words.Procap) ∙ sym (ap length is) ∙ within.one_each; few_bytes = within.few_bytes };
}

user_formed : (who : List ℕ) (command : Command) (task : LineTask) → IsTrue (is_principal_name who) → IsWithin command → IsUserTask who command task → IsTaskFormed task
user_formed who (At second) task named within is = absurd is
user_formed who (As other) task named within is = absurd is
user_formed who (Register None statement) task named within is = absurd is
user_formed who (Register (Some signature) statement) task named within is = subst IsTaskFormed (sym is) (within, tt)
user_formed who (Withdraw number None) task named within is = absurd is
user_formed who (Withdraw number (Some signature)) task named within is = subst IsTaskFormed (sym is) (tt, tt)
user_formed who (Procap number) task named within is = subst IsTaskFormed (sym is) (tt, tt)
user_formed who Checkpoint task named within is = subst IsTaskFormed (sym is.1) (tt, tt)
user_formed who (Verify goal numbers proof) task named within is = subst IsTaskFormed (sym is) within
user_formed who (Check goal numbers proof) task named within is = absurd is
user_formed who (Do op given) task named within is = subst IsTaskFormed (sym is.2) (formed_act who op given is.0 named within is.1, tt)

command_formed : (caller : Option (List ℕ)) (command : Command) (task : LineTask) → IsNamed caller → IsWithin command → IsCommandTask caller command task → IsTaskFormed task
command_formed None command task named within is = subst IsTaskFormed (sym is) tt
command_formed (Some who) command task named within is = user_formed who command task named within is

read_formed : (s : SessionState) (said : Line) (task : LineTask) → IsNamed s.caller → IsLineWithin said → IsReadTask s said task → IsTaskFormed task
read_formed s (lines.Command command) task named within is = command_formed s.caller command task named within is
read_formed s (lines.Login who signature) task named within is = subst IsTaskFormed (sym is) (tt, tt)
read_formed s (lines.Statement statement) task named within is = absurd is
read_formed s (lines.Goal goal proof) task named within is = absurd is

pub task_formed : (s : SessionState) (line : List ℕ) (task : LineTask) → IsNamed s.caller → IsTaskOf s line task → IsTaskFormed task
task_formed s line _ named (faulty fault bad) = tt
task_formed s line _ named (read said task is reads) = read_formed s said task named (line_within is) reads
