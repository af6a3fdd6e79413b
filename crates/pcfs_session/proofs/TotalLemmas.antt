-- Each line has an answer, and the lines of a script have an outcome.
use Rattle.std.proofs.Common.{◌≡◌, ◌⊎◌, inl, inr, ◌+◌, ◌-◌, ◌^◌, ◌≤◌, ◌<◌, ℕ, List, [], ◌∷◌, Option, Some, None, length, Result, Ok, Err, refl, arith}
use Rattle.std.proofs.lemmas.Bool.{cases_lt}
use Rattle.journal_core.specs.Area.{area_limit}
use Rattle.std.specs.List.{AllByRecursion}
use Rattle.bl_syntax.specs.declared.grant.Goal.{Goal}
use Rattle.bl_syntax.specs.FirstFailing.{IsFirstFailing}
use Rattle.bl_syntax.specs.Statement.{IsStatement}
use Rattle.bl_syntax.specs.Grant.{GrantView}
use Rattle.procap.specs.declared.procap.Procap.{Procap as Sealed}
use Rattle.proof_term.specs.Proof.{ProofView}
use Rattle.proof_verifier.specs.declared.cites.Cite.{Cite}
use Rattle.proof_verifier.specs.declared.fault.CheckFault.{CheckFault}
use Rattle.proof_verifier.specs.Cited.{statements_of}
use Rattle.proof_verifier.specs.CheckedView.{checked_view}
use Rattle.proof_verifier.specs.Verdict.{verdict}
use Rattle.pcfs_secrets.specs.declared.secrets.Secrets.{Secrets}
use Rattle.file_world.specs.declared.operation.Op.{Op}
use Rattle.access_history.specs.declared.event.Issue.{Issue}
use Rattle.access_history.specs.declared.request.StepRequest.TheVariants as requests
use Rattle.access_history.specs.declared.reply.StepReply.TheVariants.{Absent}
use Rattle.access_history.specs.Authority.{procap_of}
use Rattle.policy_statement.specs.Registry.{sayings}
use Rattle.access_history.specs.Books.{Book, book_of}
use Rattle.access_history.specs.Base.{BaseView}
use Rattle.access_history.specs.Citing.{AreFound}
use Rattle.access_history.specs.Numbered.{IsNumbered}
use Rattle.access_history.proofs.AnswerableLemmas.{has_answer}
use Rattle.access_history.proofs.CitingLemmas.{IsToldOfNumbers, found_or_absent}
use Rattle.access_history.proofs.EitherLemmas.{OrNot, HasFailing, all_or_failing, HasItem, item_or_none}
use Rattle.access_history.proofs.LawfulLemmas.{IsLawfulBase-lawful}
use Rattle.line_words.specs.declared.procap_word.ProcapWord.{ProcapWord}
use Rattle.line_words.specs.declared.procap_word.ProcapWord.TheVariants as words
use Rattle.line_forms.specs.declared.command.Command.{Command}
use Rattle.line_forms.specs.declared.command.Command.TheVariants.{At, As, Register, Withdraw, Procap, Checkpoint, Verify, Check, Do}
use Rattle.line_forms.specs.declared.fault.LineFault.{LineFault}
use Rattle.line_forms.specs.Lines.{IsLine, IsLineFault}
use Rattle.line_forms.proofs.TotalLemmas.{command_or_a_fault}
use Rattle.line_wire.specs.declared.reply.LineReply.{LineReply}
use Rattle.line_wire.specs.declared.reply.LineReply.TheVariants as replies
use Rattle.std.specs.Option.{option_map}
use Rattle.pcfs_store.specs.Entries.{StoreEntry, happened, checkpointed, stopped as stop_mark}
use Rattle.checkpoint_image.specs.ImageSpelling.{image_spelling}
use Rattle.pcfs_session.specs.ScriptContext.{ScriptContext, IsAsker, asker_after}
use Rattle.pcfs_session.specs.Procaps.{BringsProcap, held, issued, NamesIssue, AreBrought, IsFirstUnissued}
use Rattle.pcfs_session.specs.Proved.{IsUnproved, cites_none, proves_none, IsProved}
use Rattle.pcfs_session.specs.LineAnswer.{authority_under, signature_under, withdrawal_under, Look, replied, requested, ComesTo, AnswersCommand, at_once, decided, AnswersLine, faulty, asks}
use Rattle.pcfs_session.specs.LineAnswer as line_answer
use Rattle.journal_records.specs.EventSpelling.{event_spelling}
use Rattle.pcfs_session.specs.ScriptRun.{ScriptState, state_of_standing, standing_after, IsLawfulStanding, HasRoom, IsFullIn, Becomes, kept, full, IsReplied, answered, ScriptRun, ended, one_more, IsUndisturbed, AreUndisturbed}
use Rattle.pcfs_session.proofs.FormedLemmas.{IsWellFormed-line}
use Rattle.pcfs_session.proofs.LawfulRunLemmas.{IsLawfulStanding-replied}

-- ---- a proof from the statements of numbers

-- what it proves, or why it proves nothing
abbrev IsToldOfProof : Book → Goal → List ℕ → ProofView → Type 0
IsToldOfProof book goal numbers proof = ((cites : List Cite) × (g : GrantView) × IsProved book goal numbers proof cites g) ⊎ ((reply : LineReply) × IsUnproved book goal numbers proof reply)

by_verdict : (book : Book) (goal : Goal) (numbers : List ℕ) (proof : ProofView) (cites : List Cite) → AreFound book numbers cites → (r : Result GrantView CheckFault) → verdict (statements_of cites) goal proof ≡ r → IsToldOfProof book goal numbers proof
by_verdict book goal numbers proof cites found (Ok g) is = inl (cites, g, record { found = found; verdict_is = is })
by_verdict book goal numbers proof cites found (Err fault) is = inr (replies.Unproved fault, proves_none cites fault found is)

by_numbers : (book : Book) (goal : Goal) (numbers : List ℕ) (proof : ProofView) → IsToldOfNumbers book numbers → IsToldOfProof book goal numbers proof
by_numbers book goal numbers proof (inl found) = by_verdict book goal numbers proof found.0 found.1 (verdict (statements_of found.0) goal proof) refl
by_numbers book goal numbers proof (inr absent) = inr (replies.Step (Absent absent.0), cites_none absent.0 absent.1)

told_of_proof : (book : Book) (goal : Goal) (numbers : List ℕ) (proof : ProofView) → IsToldOfProof book goal numbers proof
told_of_proof book goal numbers proof = by_numbers book goal numbers proof (found_or_absent book numbers)

-- ---- the procaps that words bring

named_of_item : (issues : List Issue) (number : ℕ) → HasItem issues number ⊎ ((issue : Issue) → IsNumbered issues number issue → ⊥) → OrNot (NamesIssue issues (words.Issue number))
named_of_item issues number (inl found) = inl (found.item, found.numbered)
named_of_item issues number (inr none) = inr (λ names. none names.0 names.1)

named_or_not : (issues : List Issue) (word : ProcapWord) → OrNot (NamesIssue issues word)
named_or_not issues (words.Procap p) = inl tt
named_or_not issues (words.Issue number) = named_of_item issues number (item_or_none issues number)

bring : (key : List ℕ) (issues : List Issue) (word : ProcapWord) → NamesIssue issues word → (p : Sealed) × BringsProcap key issues word p
bring key issues (words.Procap p) names = (p, held p)
bring key issues (words.Issue number) names = (procap_of key names.0.grant, issued number names.0 names.1)

bring_all : (key : List ℕ) (issues : List Issue) (given : List ProcapWord) → AllByRecursion (NamesIssue issues) given → (procaps : List Sealed) × AreBrought key issues given procaps
bring_all key issues [] all = ([], tt)
bring_all key issues (word ∷ given) all =
    let first = bring key issues word all.0 in
    let rest = bring_all key issues given all.1 in
    (first.0 ∷ rest.0, (first.1, rest.1))

-- the procaps of the words, or the first issue that is not there
abbrev IsToldOfWords : List ℕ → List Issue → List ProcapWord → Type 0
IsToldOfWords key issues given = ((procaps : List Sealed) × AreBrought key issues given procaps) ⊎ ((number : ℕ) × IsFirstUnissued issues given number)

unissued : (issues : List Issue) (given : List ProcapWord) (place : ℕ) (word : ProcapWord) → IsFirstFailing (NamesIssue issues) given place word → (number : ℕ) × IsFirstUnissued issues given number
unissued issues given place (words.Procap p) first = absurd (first.fails tt)
unissued issues given place (words.Issue number) first = (number, record { place = place; first = first })

by_words : (key : List ℕ) (issues : List Issue) (given : List ProcapWord) → AllByRecursion (NamesIssue issues) given ⊎ HasFailing (NamesIssue issues) given → IsToldOfWords key issues given
by_words key issues given (inl all) = inl (bring_all key issues given all)
by_words key issues given (inr failing) = inr (unissued issues given failing.place failing.item failing.first)

told_of_words : (key : List ℕ) (issues : List Issue) (given : List ProcapWord) → IsToldOfWords key issues given
told_of_words key issues given = by_words key issues given (all_or_failing (NamesIssue issues) (named_or_not issues) given)

-- ---- a command

-- something is made of it
abbrev IsLooked : Secrets → BaseView → ScriptContext → Command → Type 0
IsLooked secrets state asker command = (look : Look) × ComesTo secrets state asker command look

module _ (secrets : Secrets) (state : BaseView) (asker : ScriptContext) where
  verified : (goal : Goal) (numbers : List ℕ) (proof : ProofView) → IsToldOfProof (book_of state) goal numbers proof → IsLooked secrets state asker (Verify goal numbers proof)
  verified goal numbers proof (inl proved) = (requested (requests.Issue (checked_view proved.0 goal proof proved.1)), line_answer.verifies goal numbers proof proved.0 proved.1 proved.2)
  verified goal numbers proof (inr refused) = (replied refused.0, line_answer.verifies_nothing goal numbers proof refused.0 refused.1)

  checked : (goal : Goal) (numbers : List ℕ) (proof : ProofView) → IsToldOfProof (book_of state) goal numbers proof → IsLooked secrets state asker (Check goal numbers proof)
  checked goal numbers proof (inl proved) = (replied (replies.Checked proved.1), line_answer.checks goal numbers proof proved.0 proved.1 proved.2)
  checked goal numbers proof (inr refused) = (replied refused.0, line_answer.checks_nothing goal numbers proof refused.0 refused.1)

  done : (op : Op) (given : List ProcapWord) → IsToldOfWords secrets.seal_key state.issues given → IsLooked secrets state asker (Do op given)
  done op given (inl brought) = (requested (requests.Act asker.caller op brought.0), line_answer.acts op given brought.0 brought.1)
  done op given (inr none) = (replied (replies.Step (Absent none.0)), line_answer.acts_under_none op given none.0 none.1)

  look_at : (command : Command) → IsLooked secrets state asker command
  look_at (At second) = (replied replies.Done, line_answer.sets_clock second)
  look_at (As who) = (replied replies.Done, line_answer.sets_caller who)
  look_at (Register signature statement) = (requested (requests.Register statement (signature_under secrets.ring statement signature)), line_answer.registers signature statement)
  look_at (Withdraw number signature) = (requested (requests.Withdraw number (withdrawal_under secrets.ring state number signature)), line_answer.withdraws number signature)
  look_at (Verify goal numbers proof) = verified goal numbers proof (told_of_proof (book_of state) goal numbers proof)
  look_at (Check goal numbers proof) = checked goal numbers proof (told_of_proof (book_of state) goal numbers proof)
  look_at (Procap number) = (requested (requests.ShowProcap number asker.sees), line_answer.shows number)
  look_at Checkpoint = (line_answer.checkpoint, line_answer.makes_checkpoint)
  look_at (Do op given) = done op given (told_of_words secrets.seal_key state.issues given)

  module _ (is_asker : IsAsker asker) (are : AllByRecursion IsStatement (sayings state.statements)) (line : List ℕ) where
    answer_after : (command : Command) → IsLine line command → (look : Look) → ComesTo secrets state asker command look → (reply : LineReply) × (entry : Option StoreEntry) × AnswersCommand secrets state asker command reply entry
    answer_after command is (replied reply) comes = (reply, None, at_once reply comes)
    answer_after command is line_answer.checkpoint comes = (replies.Checkpointed, Some (checkpointed asker.pass), line_answer.made comes)
    answer_after command is (requested request) comes =
        let answer = has_answer (authority_under secrets) state asker.pass asker.clock request (IsWellFormed-line secrets state asker line command request is_asker are is comes) in
        (replies.Step answer.0, option_map happened answer.1, decided request answer.0 answer.1 comes answer.2)

    line_answered : ((command : Command) × IsLine line command) ⊎ ((fault : LineFault) × IsLineFault line fault) → (reply : LineReply) × (entry : Option StoreEntry) × (after : ScriptContext) × AnswersLine secrets state asker line reply entry after
    line_answered (inl one) =
        let look = look_at one.0 in
        let answer = answer_after one.0 one.1 look.0 look.1 in
        (answer.0, answer.1, asker_after asker one.0, asks one.0 answer.0 answer.1 one.1 answer.2)
    line_answered (inr bad) = (replies.Faulty bad.0, None, asker, faulty bad.0 bad.1)

    -- each line has an answer
    answer_of_line : (reply : LineReply) × (entry : Option StoreEntry) × (after : ScriptContext) × AnswersLine secrets state asker line reply entry after
    answer_of_line = line_answered (command_or_a_fault line)

-- over the state of a lawful history each line has an answer
pub line_has_answer : (s : ScriptState) (line : List ℕ) → IsLawfulStanding s → (reply : LineReply) × (entry : Option StoreEntry) × (after : ScriptContext) × AnswersLine s.secrets (state_of_standing s) s.asker line reply entry after
line_has_answer s line stands = answer_of_line s.secrets (state_of_standing s) s.asker stands.asker (IsLawfulBase-lawful (authority_under s.secrets) s.base s.events stands.lawful).statements_formed line

-- ---- a run

-- a reply at once is not that memory ran out, or that a disk failed
abbrev IsCalm : Look → Type 0
IsCalm (replied reply) = IsUndisturbed reply
IsCalm (requested request) = Unit {0}
IsCalm line_answer.checkpoint = Unit {0}

unproved_calm : (book : Book) (goal : Goal) (numbers : List ℕ) (proof : ProofView) (reply : LineReply) → IsUnproved book goal numbers proof reply → IsUndisturbed reply
unproved_calm book goal numbers proof _ (cites_none number absent) = record { had_memory = λ is. absurd cc; not_stopped = λ is. absurd cc }
unproved_calm book goal numbers proof _ (proves_none cites fault found verdict_is) = record { had_memory = λ is. absurd cc; not_stopped = λ is. absurd cc }

looked_calm : (secrets : Secrets) (state : BaseView) (asker : ScriptContext) (command : Command) (look : Look) → ComesTo secrets state asker command look → IsCalm look
looked_calm secrets state asker _ _ (line_answer.sets_clock second) = record { had_memory = λ is. absurd cc; not_stopped = λ is. absurd cc }
looked_calm secrets state asker _ _ (line_answer.sets_caller who) = record { had_memory = λ is. absurd cc; not_stopped = λ is. absurd cc }
looked_calm secrets state asker _ _ (line_answer.registers signature statement) = tt
looked_calm secrets state asker _ _ (line_answer.withdraws number signature) = tt
looked_calm secrets state asker _ _ (line_answer.shows number) = tt
looked_calm secrets state asker _ _ line_answer.makes_checkpoint = tt
looked_calm secrets state asker _ _ (line_answer.verifies_nothing goal numbers proof reply refused) = unproved_calm (book_of state) goal numbers proof reply refused
looked_calm secrets state asker _ _ (line_answer.verifies goal numbers proof cites g proved) = tt
looked_calm secrets state asker _ _ (line_answer.checks_nothing goal numbers proof reply refused) = unproved_calm (book_of state) goal numbers proof reply refused
looked_calm secrets state asker _ _ (line_answer.checks goal numbers proof cites g proved) = record { had_memory = λ is. absurd cc; not_stopped = λ is. absurd cc }
looked_calm secrets state asker _ _ (line_answer.acts_under_none op given number none) = record { had_memory = λ is. absurd cc; not_stopped = λ is. absurd cc }
looked_calm secrets state asker _ _ (line_answer.acts op given procaps brought) = tt

at_once_calm : (secrets : Secrets) (state : BaseView) (asker : ScriptContext) (command : Command) (reply : LineReply) → ComesTo secrets state asker command (replied reply) → IsUndisturbed reply
at_once_calm secrets state asker command reply comes = looked_calm secrets state asker command (replied reply) comes

-- no answer is that memory ran out, or that a disk failed
calm_reply : (s : ScriptState) (line : List ℕ) (reply : LineReply) (entry : Option StoreEntry) (after : ScriptContext) → AnswersLine s.secrets (state_of_standing s) s.asker line reply entry after → IsUndisturbed reply
calm_reply s line _ _ _ (faulty fault bad) = record { had_memory = λ is. absurd cc; not_stopped = λ is. absurd cc }
calm_reply s line _ _ _ (asks command _ _ is_line (decided request reply event look answer)) = record { had_memory = λ is. absurd cc; not_stopped = λ is. absurd cc }
calm_reply s line _ _ _ (asks command _ _ is_line (line_answer.made look)) = record { had_memory = λ is. absurd cc; not_stopped = λ is. absurd cc }
calm_reply s line _ _ _ (asks command _ _ is_line (at_once reply look)) = at_once_calm s.secrets (state_of_standing s) s.asker command reply look

-- ---- what becomes of it

-- something becomes of an answer, and no disk fails
record GoesWell (s : ScriptState) (told : LineReply) (asker : ScriptContext) (entry : Option StoreEntry) : Type 0 where
  reply : LineReply
  after : ScriptState
  becomes : Becomes s told asker entry reply after
  calm : IsUndisturbed reply
  going : after.met ≡ None

-- one of two bounds is passed, or neither
bounds : (used most number last : ℕ) → ((most < used) ⊎ (used ≤ most)) → ((number < last) ⊎ (last ≤ number)) → ((most < used) ⊎ (last ≤ number)) ⊎ ((most < used) ⊎ (last ≤ number) → ⊥)
bounds used most number last (inl long) numbers = inl (inl long)
bounds used most number last (inr short) (inr many) = inl (inr many)
bounds used most number last (inr short) (inl few) = inr both
  where
    both : (most < used) ⊎ (last ≤ number) → ⊥
    both (inl long) = absurd (omega (arith, long, short))
    both (inr many) = absurd (omega (arith, few, many))

full_or_not : (s : ScriptState) (entry : StoreEntry) → IsFullIn s entry ⊎ HasRoom s (Some entry)
full_or_not s (happened event) =
    bounds (s.used + length (event_spelling event) + 6) area_limit (state_of_standing s).count (2 ^ 48 - 1)
    (cases_lt area_limit (s.used + length (event_spelling event) + 6)) (cases_lt (state_of_standing s).count (2 ^ 48 - 1))
full_or_not s (checkpointed pass) =
    bounds (length (image_spelling (state_of_standing s)) + 25) area_limit s.generation (2 ^ 48 - 1)
    (cases_lt area_limit (length (image_spelling (state_of_standing s)) + 25)) (cases_lt s.generation (2 ^ 48 - 1))
full_or_not s (stop_mark pass met) = inr (λ no. no)

full_calm : IsUndisturbed replies.Full
full_calm = record { had_memory = λ is. absurd cc; not_stopped = λ is. absurd cc }

-- what an entry leaves met no fault
no_fault : (s : ScriptState) (entry : StoreEntry) (asker : ScriptContext) → s.met ≡ None → (standing_after s (Some entry) asker).met ≡ None
no_fault s (happened event) asker going = going
no_fault s (checkpointed pass) asker going = going
no_fault s (stop_mark pass met) asker going = going

entry_goes : (s : ScriptState) (told : LineReply) (asker : ScriptContext) (entry : StoreEntry) → s.met ≡ None → IsUndisturbed told → IsFullIn s entry ⊎ HasRoom s (Some entry) → GoesWell s told asker (Some entry)
entry_goes s told asker entry going calm (inl is_full) = record { reply = replies.Full; after = s; becomes = full entry is_full; calm = full_calm; going = going }
entry_goes s told asker entry going calm (inr room) = record { reply = told; after = standing_after s (Some entry) asker; becomes = kept (Some entry) room; calm = calm; going = no_fault s entry asker going }

goes_well : (s : ScriptState) (told : LineReply) (asker : ScriptContext) (entry : Option StoreEntry) → s.met ≡ None → IsUndisturbed told → GoesWell s told asker entry
goes_well s told asker None going calm = record { reply = told; after = standing_after s None asker; becomes = kept None tt; calm = calm; going = going }
goes_well s told asker (Some entry) going calm = entry_goes s told asker entry going calm (full_or_not s entry)

-- a run that does not run out of memory, and meets no fault of a disk
pub has_outcome : (start : ScriptState) (lines : List (List ℕ)) → IsLawfulStanding start → start.met ≡ None → (told : List LineReply) × (end : ScriptState) × ScriptRun start lines told end × AreUndisturbed told
has_outcome start [] stands going = ([], start, ended start, tt)
has_outcome start (line ∷ lines) stands going =
    let first = line_has_answer start line stands in
    let goes = goes_well start first.0 first.2 first.1 going (calm_reply start line first.0 first.1 first.2 first.3) in
    let step : IsReplied line start goes.reply goes.after = answered first.0 first.1 first.2 goes.reply goes.after first.3 goes.becomes in
    let rest = has_outcome goes.after lines (IsLawfulStanding-replied start goes.after line goes.reply stands step) goes.going in
    (goes.reply ∷ rest.0, rest.1, one_more start line lines goes.reply rest.0 goes.after rest.1 going step rest.2, (goes.calm, rest.3))
