-- No answer to a line says that memory ran out.
use Rattle.std.proofs.Common.{◌≡◌, ℕ, List, get_or, Option, Err, refl, ap, subst, arith}
use Rattle.std.specs.Prelude.{codes, ◌≢◌}
use Rattle.bl_syntax.specs.declared.grant.Goal.{Goal}
use Rattle.bl_tokens.specs.declared.faults.TextFault.{TextFault}
use Rattle.bl_tokens.specs.declared.faults.TextFault.TheVariants as texts
use Rattle.proof_term.specs.Proof.{ProofView}
use Rattle.proof_verifier.specs.declared.fault.CheckFault.{CheckFault}
use Rattle.proof_verifier.specs.declared.fault.CheckFault.TheVariants as faults
use Rattle.proof_verifier.specs.Cited.{statements_of}
use Rattle.proof_verifier.specs.Verdict.{verdict}
use Rattle.proof_verifier.proofs.MemoryLemmas.{verdict-memoryless}
use Rattle.pcfs_secrets.specs.declared.secrets.Secrets.{Secrets}
use Rattle.access_history.specs.declared.reply.StepReply.{StepReply}
use Rattle.access_history.specs.declared.reply.StepReply.TheVariants as steps
use Rattle.access_history.specs.Books.{Book, book_of}
use Rattle.access_history.specs.Base.{BaseView}
use Rattle.line_forms.specs.declared.command.Command.{Command}
use Rattle.line_forms.specs.declared.fault.LineFault.{LineFault}
use Rattle.line_forms.specs.declared.fault.LineFault.TheVariants as lines
use Rattle.line_forms.specs.Lines.{IsLineFault}
use Rattle.line_forms.proofs.FaultLemmas.{IsReported, reported}
use Rattle.line_wire.specs.declared.reply.LineReply.{LineReply}
use Rattle.line_wire.specs.FirstWord.{step_word, unproved_word, text_word, fault_word, reply_word}
use Rattle.pcfs_store.specs.Entries.{StoreEntry}
use Rattle.pcfs_session.specs.ScriptContext.{ScriptContext}
use Rattle.pcfs_session.specs.Proved.{IsUnproved, cites_none, proves_none}
use Rattle.pcfs_session.specs.LineAnswer.{Look, replied, requested, ComesTo, AnswersCommand, at_once, decided, AnswersLine, faulty, asks}
use Rattle.pcfs_session.specs.LineAnswer as line_answer

-- ---- words that begin with another letter

-- the first letter of a word
abbrev letter : List ℕ → ℕ
letter word = get_or word 0 0

other_letter : (word : List ℕ) (first : ℕ) → letter word ≡ first → first ≢ 110 → word ≡ codes "nomemory" → ⊥
other_letter word first is other same = other (subst (λ (n : ℕ). n ≡ 110) is (ap letter same))

not_ok : codes "ok" ≡ codes "nomemory" → ⊥
not_ok = other_letter (codes "ok") 111 refl (λ (e : 111 ≡ 110). omega (arith, e))

not_bad : codes "bad" ≡ codes "nomemory" → ⊥
not_bad = other_letter (codes "bad") 98 refl (λ (e : 98 ≡ 110). omega (arith, e))

not_unproved : codes "unproved" ≡ codes "nomemory" → ⊥
not_unproved = other_letter (codes "unproved") 117 refl (λ (e : 117 ≡ 110). omega (arith, e))

not_refused : codes "refused" ≡ codes "nomemory" → ⊥
not_refused = other_letter (codes "refused") 114 refl (λ (e : 114 ≡ 110). omega (arith, e))

step_memory : (reply : StepReply) → step_word reply ≡ codes "nomemory" → ⊥
step_memory (steps.Statement number) is = not_ok is
step_memory steps.Withdrawn is = not_ok is
step_memory (steps.Issue number times states) is = not_ok is
step_memory (steps.Procap p) is = not_ok is
step_memory (steps.Operation reply) is = not_ok is
step_memory (steps.Denied denial) is = other_letter (codes "denied") 100 refl (λ (e : 100 ≡ 110). omega (arith, e)) is
step_memory (steps.Refused refusal at) is = not_refused is
step_memory (steps.Rejected rejection) is = other_letter (codes "rejected") 114 refl (λ (e : 114 ≡ 110). omega (arith, e)) is
step_memory (steps.Absent number) is = other_letter (codes "absent") 97 refl (λ (e : 97 ≡ 110). omega (arith, e)) is

-- ---- faults of lines

text_memory : (fault : TextFault) → fault ≢ texts.NoMemory → text_word fault ≡ codes "nomemory" → ⊥
text_memory (texts.Unexpected at) some is = not_bad is
text_memory (texts.UnknownName at) some is = not_bad is
text_memory (texts.BadDate at) some is = not_bad is
text_memory (texts.Sort at) some is = not_bad is
text_memory (texts.TooLarge at) some is = not_bad is
text_memory texts.NoMemory some is = some refl

reported_memory : (fault : LineFault) → IsReported fault → fault_word fault ≡ codes "nomemory" → ⊥
reported_memory (lines.BadWord place) some is = not_bad is
reported_memory lines.BadCount some is = not_bad is
reported_memory (lines.BadText fault) some is = text_memory fault some is
reported_memory lines.NoMemory some is = some

fault_memory : (line : List ℕ) (fault : LineFault) → IsLineFault line fault → fault_word fault ≡ codes "nomemory" → ⊥
fault_memory line fault bad is = reported_memory fault (reported bad) is

-- ---- answers

check_memory : (fault : CheckFault) → fault ≢ faults.NoMemory → unproved_word fault ≡ codes "nomemory" → ⊥
check_memory (faults.NoHypothesis node) some is = not_unproved is
check_memory (faults.WrongShape node) some is = not_unproved is
check_memory (faults.NotEntailed node) some is = not_unproved is
check_memory (faults.NotInState node) some is = not_unproved is
check_memory (faults.ViewTooWeak node) some is = not_unproved is
check_memory (faults.BadTerm node) some is = not_unproved is
check_memory (faults.TooManyConditions node) some is = not_unproved is
check_memory faults.NoMemory some is = some refl

unproved_memory : (book : Book) (goal : Goal) (numbers : List ℕ) (proof : ProofView) (reply : LineReply) → IsUnproved book goal numbers proof reply → reply_word reply ≡ codes "nomemory" → ⊥
unproved_memory book goal numbers proof _ (cites_none number absent) is = step_memory (steps.Absent number) is
unproved_memory book goal numbers proof _ (proves_none cites fault found verdict_is) is =
    check_memory fault (λ (none : fault ≡ faults.NoMemory). verdict-memoryless (statements_of cites) goal proof (subst (λ (f : CheckFault). verdict (statements_of cites) goal proof ≡ Err f) none verdict_is)) is

-- a look at the state says so of nothing
abbrev IsOutOfMemory : Look → Type 0
IsOutOfMemory (replied reply) = reply_word reply ≡ codes "nomemory"
IsOutOfMemory (requested request) = ⊥
IsOutOfMemory line_answer.checkpoint = ⊥

look_memory : (secrets : Secrets) (state : BaseView) (asker : ScriptContext) (command : Command) (look : Look) → ComesTo secrets state asker command look → IsOutOfMemory look → ⊥
look_memory secrets state asker _ _ (line_answer.sets_clock second) is = not_ok is
look_memory secrets state asker _ _ (line_answer.sets_caller who) is = not_ok is
look_memory secrets state asker _ _ (line_answer.registers signature statement) is = is
look_memory secrets state asker _ _ (line_answer.withdraws number signature) is = is
look_memory secrets state asker _ _ (line_answer.shows number) is = is
look_memory secrets state asker _ _ line_answer.makes_checkpoint is = is
look_memory secrets state asker _ _ (line_answer.verifies_nothing goal numbers proof reply refused) is = unproved_memory (book_of state) goal numbers proof reply refused is
look_memory secrets state asker _ _ (line_answer.verifies goal numbers proof cites g proved) is = is
look_memory secrets state asker _ _ (line_answer.checks_nothing goal numbers proof reply refused) is = unproved_memory (book_of state) goal numbers proof reply refused is
look_memory secrets state asker _ _ (line_answer.checks goal numbers proof cites g proved) is = not_ok is
look_memory secrets state asker _ _ (line_answer.acts_under_none op words number none) is = step_memory (steps.Absent number) is
look_memory secrets state asker _ _ (line_answer.acts op words procaps brought) is = is

command_memory : (secrets : Secrets) (state : BaseView) (asker : ScriptContext) (command : Command) (reply : LineReply) (entry : Option StoreEntry) → AnswersCommand secrets state asker command reply entry → reply_word reply ≡ codes "nomemory" → ⊥
command_memory secrets state asker command _ _ (at_once reply look) is = look_memory secrets state asker command (replied reply) look is
command_memory secrets state asker command _ _ (decided request reply event look answer) is = step_memory reply is
command_memory secrets state asker command _ _ (line_answer.made look) is = not_ok is

-- no answer to a line is written as `nomemory`
pub answer_memory : (secrets : Secrets) (state : BaseView) (asker : ScriptContext) (line : List ℕ) (reply : LineReply) (entry : Option StoreEntry) (after : ScriptContext) → AnswersLine secrets state asker line reply entry after → reply_word reply ≡ codes "nomemory" → ⊥
answer_memory secrets state asker line _ _ _ (faulty fault bad) is = fault_memory line fault bad is
answer_memory secrets state asker line _ _ _ (asks command reply entry is_line answer) is = command_memory secrets state asker command reply entry answer is
