-- A line has one answer at most, and so have the lines of a script.
use Rattle.std.proofs.Common.{◌≡◌, ℕ, List, [], ◌∷◌, Option, Ok, Err, refl, sym, ap, subst, ◌∙◌}
use Rattle.std.specs.List.{AllByRecursion}
use Rattle.bl_syntax.specs.declared.grant.Goal.{Goal}
use Rattle.bl_syntax.specs.Grant.{GrantView}
use Rattle.procap.specs.declared.procap.Procap.{Procap as Sealed}
use Rattle.proof_term.specs.Proof.{ProofView}
use Rattle.proof_verifier.specs.declared.cites.Cite.{Cite}
use Rattle.proof_verifier.specs.Cited.{statements_of}
use Rattle.proof_verifier.specs.CheckedView.{checked_view}
use Rattle.proof_verifier.specs.Verdict.{verdict}
use Rattle.pcfs_secrets.specs.declared.secrets.Secrets.{Secrets}
use Rattle.journal_records.specs.declared.event.Event.{Event}
use Rattle.access_history.specs.declared.event.Issue.{Issue}
use Rattle.access_history.specs.declared.request.StepRequest.{StepRequest}
use Rattle.access_history.specs.declared.request.StepRequest.TheVariants as requests
use Rattle.access_history.specs.declared.reply.StepReply.{StepReply}
use Rattle.access_history.specs.declared.reply.StepReply.TheVariants.{Absent}
use Rattle.access_history.specs.Base.{BaseView}
use Rattle.access_history.specs.Answer.{Answers}
use Rattle.access_history.specs.Authority.{procap_of}
use Rattle.access_history.specs.Books.{Book, book_of}
use Rattle.access_history.specs.Lawful.{IsLawful}
use Rattle.access_history.proofs.AnswerLemmas.{one_answer}
use Rattle.access_history.proofs.CitingLemmas.{absent_not_found, absent_once, found_once}
use Rattle.access_history.proofs.NumberedLemmas.{numbered_item, none_fails, first_failing}
use Rattle.line_words.specs.declared.procap_word.ProcapWord.{ProcapWord}
use Rattle.line_words.specs.declared.procap_word.ProcapWord.TheVariants as words
use Rattle.line_forms.specs.declared.command.Command.{Command}
use Rattle.line_forms.proofs.LineLemmas.{IsLine-unique, command_or_fault, one_fault}
use Rattle.line_wire.specs.declared.reply.LineReply.{LineReply}
use Rattle.line_wire.specs.declared.reply.LineReply.TheVariants as replies
use Rattle.pcfs_store.specs.Entries.{StoreEntry, happened}
use Rattle.std.specs.Option.{option_map}
use Rattle.pcfs_session.specs.ScriptContext.{ScriptContext, asker_after}
use Rattle.pcfs_session.specs.Procaps.{BringsProcap, held, issued, NamesIssue, AreBrought, IsFirstUnissued}
use Rattle.pcfs_session.specs.Proved.{IsUnproved, cites_none, proves_none, IsProved}
use Rattle.pcfs_session.specs.LineAnswer.{authority_under, Look, replied, requested, ComesTo, AnswersCommand, at_once, decided, AnswersLine, faulty, asks}
use Rattle.pcfs_session.specs.LineAnswer as line_answer
use Rattle.pcfs_session.specs.ScriptRun.{ScriptState, state_of_standing}
use Rattle.pcfs_session.proofs.BroughtLemmas.{NamesIssue-brought}

-- ---- the statements of numbers, and what a proof from them comes to

module _ (book : Book) (goal : Goal) (numbers : List ℕ) (proof : ProofView) where
  one_refusal : (first second : LineReply) → IsUnproved book goal numbers proof first → IsUnproved book goal numbers proof second → first ≡ second
  one_refusal _ _ (cites_none number absent) (cites_none other absent') =
      ap (λ (n : ℕ). replies.Step (Absent n)) (absent_once book numbers number other absent absent')
  one_refusal _ _ (cites_none number absent) (proves_none cites fault found is) = absurd (absent_not_found book numbers number cites absent found)
  one_refusal _ _ (proves_none cites fault found is) (cites_none number absent) = absurd (absent_not_found book numbers number cites absent found)
  one_refusal _ _ (proves_none cites fault found is) (proves_none others other found' is') =
      let same : cites ≡ others = found_once book numbers cites others found found' in
      let faults : Err fault ≡ Err other = sym is ∙ (ap (λ (cs : List Cite). verdict (statements_of cs) goal proof) same ∙ is') in
      let fault_is : fault ≡ other = cc in
      ap replies.Unproved fault_is

  refused_or_proved : (reply : LineReply) (cites : List Cite) (g : GrantView) → IsUnproved book goal numbers proof reply → IsProved book goal numbers proof cites g → ⊥
  refused_or_proved _ cites g (cites_none number absent) proved = absent_not_found book numbers number cites absent proved.found
  refused_or_proved _ cites g (proves_none others fault found is) proved =
      let same : others ≡ cites = found_once book numbers others cites found proved.found in
      let both : Err fault ≡ Ok g = sym is ∙ (ap (λ (cs : List Cite). verdict (statements_of cs) goal proof) same ∙ proved.verdict_is) in
      cc

  one_grant : (cites others : List Cite) (g h : GrantView) → IsProved book goal numbers proof cites g → IsProved book goal numbers proof others h → (cites ≡ others) × (g ≡ h)
  one_grant cites others g h one other =
      let same : cites ≡ others = found_once book numbers cites others one.found other.found in
      let both : Ok g ≡ Ok h = sym one.verdict_is ∙ (ap (λ (cs : List Cite). verdict (statements_of cs) goal proof) same ∙ other.verdict_is) in
      let grant : g ≡ h = cc in
      (same, grant)

-- ---- the procaps that words bring

all_named : (key : List ℕ) (issues : List Issue) (ws : List ProcapWord) (ps : List Sealed) → AreBrought key issues ws ps → AllByRecursion (NamesIssue issues) ws
all_named key issues [] [] all = tt
all_named key issues [] (p ∷ ps) all = absurd all
all_named key issues (w ∷ ws) [] all = absurd all
all_named key issues (w ∷ ws) (p ∷ ps) all = (NamesIssue-brought key issues w p all.0, all_named key issues ws ps all.1)

one_procap : (key : List ℕ) (issues : List Issue) (w : ProcapWord) (p q : Sealed) → BringsProcap key issues w p → BringsProcap key issues w q → p ≡ q
one_procap key issues _ _ _ (held p) (held _) = refl
one_procap key issues _ _ _ (issued number issue numbered) (issued _ other numbered') =
    ap (λ (i : Issue). procap_of key i.grant) (numbered_item issues number issue other numbered numbered')

one_list : (key : List ℕ) (issues : List Issue) (ws : List ProcapWord) (ps qs : List Sealed) → AreBrought key issues ws ps → AreBrought key issues ws qs → ps ≡ qs
one_list key issues [] [] [] one other = refl
one_list key issues [] [] (q ∷ qs) one other = absurd other
one_list key issues [] (p ∷ ps) qs one other = absurd one
one_list key issues (w ∷ ws) [] qs one other = absurd one
one_list key issues (w ∷ ws) (p ∷ ps) [] one other = absurd other
one_list key issues (w ∷ ws) (p ∷ ps) (q ∷ qs) one other =
    ap (λ (x : Sealed). x ∷ ps) (one_procap key issues w p q one.0 other.0) ∙ ap (λ (xs : List Sealed). q ∷ xs) (one_list key issues ws ps qs one.1 other.1)

unissued_or_brought : (key : List ℕ) (issues : List Issue) (ws : List ProcapWord) (number : ℕ) (ps : List Sealed) → IsFirstUnissued issues ws number → AreBrought key issues ws ps → ⊥
unissued_or_brought key issues ws number ps first all = none_fails (NamesIssue issues) ws first.place (words.Issue number) (all_named key issues ws ps all) first.first

one_unissued : (issues : List Issue) (ws : List ProcapWord) (number other : ℕ) → IsFirstUnissued issues ws number → IsFirstUnissued issues ws other → number ≡ other
one_unissued issues ws number other one two =
    let same : words.Issue number ≡ words.Issue other = (first_failing (NamesIssue issues) ws one.place two.place (words.Issue number) (words.Issue other) one.first two.first).1 in
    cc

-- ---- what a command comes to

module _ (secrets : Secrets) (state : BaseView) (asker : ScriptContext) where
  -- a look at the state makes one thing of a command
  one_look : (command : Command) (first second : Look) → ComesTo secrets state asker command first → ComesTo secrets state asker command second → first ≡ second
  one_look _ _ _ (line_answer.sets_clock second) (line_answer.sets_clock _) = refl
  one_look _ _ _ (line_answer.sets_caller who) (line_answer.sets_caller _) = refl
  one_look _ _ _ (line_answer.registers signature statement) (line_answer.registers _ _) = refl
  one_look _ _ _ (line_answer.withdraws number signature) (line_answer.withdraws _ _) = refl
  one_look _ _ _ (line_answer.shows number) (line_answer.shows _) = refl
  one_look _ _ _ line_answer.makes_checkpoint line_answer.makes_checkpoint = refl
  one_look _ _ _ (line_answer.verifies_nothing goal numbers proof first refused) (line_answer.verifies_nothing _ _ _ second refused') =
      ap replied (one_refusal (book_of state) goal numbers proof first second refused refused')
  one_look _ _ _ (line_answer.verifies_nothing goal numbers proof first refused) (line_answer.verifies _ _ _ cites g proved) =
      absurd (refused_or_proved (book_of state) goal numbers proof first cites g refused proved)
  one_look _ _ _ (line_answer.verifies goal numbers proof cites g proved) (line_answer.verifies_nothing _ _ _ second refused) =
      absurd (refused_or_proved (book_of state) goal numbers proof second cites g refused proved)
  one_look _ _ _ (line_answer.verifies goal numbers proof cites g proved) (line_answer.verifies _ _ _ others h proved') =
      let same = one_grant (book_of state) goal numbers proof cites others g h proved proved' in
      ap (λ (cs : List Cite). requested (requests.Issue (checked_view cs goal proof g))) same.0 ∙ ap (λ (k : GrantView). requested (requests.Issue (checked_view others goal proof k))) same.1
  one_look _ _ _ (line_answer.checks_nothing goal numbers proof first refused) (line_answer.checks_nothing _ _ _ second refused') =
      ap replied (one_refusal (book_of state) goal numbers proof first second refused refused')
  one_look _ _ _ (line_answer.checks_nothing goal numbers proof first refused) (line_answer.checks _ _ _ cites g proved) =
      absurd (refused_or_proved (book_of state) goal numbers proof first cites g refused proved)
  one_look _ _ _ (line_answer.checks goal numbers proof cites g proved) (line_answer.checks_nothing _ _ _ second refused) =
      absurd (refused_or_proved (book_of state) goal numbers proof second cites g refused proved)
  one_look _ _ _ (line_answer.checks goal numbers proof cites g proved) (line_answer.checks _ _ _ others h proved') =
      ap (λ (k : GrantView). replied (replies.Checked k)) (one_grant (book_of state) goal numbers proof cites others g h proved proved').1
  one_look _ _ _ (line_answer.acts_under_none op ws number none) (line_answer.acts_under_none _ _ other none') =
      ap (λ (n : ℕ). replied (replies.Step (Absent n))) (one_unissued state.issues ws number other none none')
  one_look _ _ _ (line_answer.acts_under_none op ws number none) (line_answer.acts _ _ procaps brought) = absurd (unissued_or_brought secrets.seal_key state.issues ws number procaps none brought)
  one_look _ _ _ (line_answer.acts op ws procaps brought) (line_answer.acts_under_none _ _ number none) = absurd (unissued_or_brought secrets.seal_key state.issues ws number procaps none brought)
  one_look _ _ _ (line_answer.acts op ws procaps brought) (line_answer.acts _ _ others brought') =
      ap (λ (ps : List Sealed). requested (requests.Act asker.caller op ps)) (one_list secrets.seal_key state.issues ws procaps others brought brought')

  -- it is no reply at once and a request too
  reply_or_request : (command : Command) (reply : LineReply) (request : StepRequest) → ComesTo secrets state asker command (replied reply) → ComesTo secrets state asker command (requested request) → ⊥
  reply_or_request command reply request one other = let same = one_look command (replied reply) (requested request) one other in cc

  -- nor either and a checkpoint
  reply_or_checkpoint : (command : Command) (reply : LineReply) → ComesTo secrets state asker command (replied reply) → ComesTo secrets state asker command line_answer.checkpoint → ⊥
  reply_or_checkpoint command reply one other = let same = one_look command (replied reply) line_answer.checkpoint one other in cc

  request_or_checkpoint : (command : Command) (request : StepRequest) → ComesTo secrets state asker command (requested request) → ComesTo secrets state asker command line_answer.checkpoint → ⊥
  request_or_checkpoint command request one other = let same = one_look command (requested request) line_answer.checkpoint one other in cc

-- the same reply, and the same entry to add
abbrev AreSame : LineReply → LineReply → Option StoreEntry → Option StoreEntry → Type 0
AreSame first second one other = (first ≡ second) × (one ≡ other)

module _ (s : ScriptState) (lawful : IsLawful (authority_under s.secrets) s.base s.events) where
  told_once : (request : StepRequest) (first second : StepReply) (one other : Option Event) → Answers (authority_under s.secrets) (state_of_standing s) s.asker.pass s.asker.clock request first one
      → Answers (authority_under s.secrets) (state_of_standing s) s.asker.pass s.asker.clock request second other → AreSame (replies.Step first) (replies.Step second) (option_map happened one) (option_map happened other)
  told_once request first second one other told told' =
      let same = one_answer (authority_under s.secrets) s.base s.events s.asker.pass s.asker.clock request first second one other lawful told told' in
      (ap replies.Step same.0, ap (option_map happened) same.1)

  -- a command has one answer
  answer_once : (command : Command) (first second : LineReply) (one other : Option StoreEntry) → AnswersCommand s.secrets (state_of_standing s) s.asker command first one → AnswersCommand s.secrets (state_of_standing s) s.asker command second other → AreSame first second one other
  answer_once command _ _ _ _ (at_once first look) (at_once second look') =
      let same = one_look s.secrets (state_of_standing s) s.asker command (replied first) (replied second) look look' in
      let told : first ≡ second = cc in
      (told, refl)
  answer_once command _ _ _ _ (at_once first look) (decided request second event look' told) = absurd (reply_or_request s.secrets (state_of_standing s) s.asker command first request look look')
  answer_once command _ _ _ _ (decided request first event look told) (at_once second look') = absurd (reply_or_request s.secrets (state_of_standing s) s.asker command second request look' look)
  answer_once command _ _ _ _ (decided request first one look told) (decided request' second other look' told') =
      let same = one_look s.secrets (state_of_standing s) s.asker command (requested request) (requested request') look look' in
      let request_is : request ≡ request' = cc in
      told_once request' first second one other (subst (λ (r : StepRequest). Answers (authority_under s.secrets) (state_of_standing s) s.asker.pass s.asker.clock r first one) request_is told) told'
  answer_once command _ _ _ _ (line_answer.made look) (line_answer.made look') = (refl, refl)
  answer_once command _ _ _ _ (at_once first look) (line_answer.made look') = absurd (reply_or_checkpoint s.secrets (state_of_standing s) s.asker command first look look')
  answer_once command _ _ _ _ (line_answer.made look) (at_once second look') = absurd (reply_or_checkpoint s.secrets (state_of_standing s) s.asker command second look' look)
  answer_once command _ _ _ _ (decided request first event look told) (line_answer.made look') = absurd (request_or_checkpoint s.secrets (state_of_standing s) s.asker command request look look')
  answer_once command _ _ _ _ (line_answer.made look) (decided request second event look' told) = absurd (request_or_checkpoint s.secrets (state_of_standing s) s.asker command request look' look)

  -- and so has a line
  pub line_once : (line : List ℕ) (first second : LineReply) (one other : Option StoreEntry) (after later : ScriptContext) → AnswersLine s.secrets (state_of_standing s) s.asker line first one after → AnswersLine s.secrets (state_of_standing s) s.asker line second other later
      → (first ≡ second) × (one ≡ other) × (after ≡ later)
  line_once line _ _ _ _ _ _ (faulty fault bad) (faulty other bad') = (ap replies.Faulty (one_fault bad other bad'), refl, refl)
  line_once line _ _ _ _ _ _ (faulty fault bad) (asks command reply event is answer) = absurd (command_or_fault is bad)
  line_once line _ _ _ _ _ _ (asks command reply event is answer) (faulty fault bad) = absurd (command_or_fault is bad)
  line_once line _ _ _ _ _ _ (asks command first one is answer) (asks command' second other is' answer') =
      let same : command ≡ command' = IsLine-unique is is' in
      let both = answer_once command' first second one other (subst (λ (c : Command). AnswersCommand s.secrets (state_of_standing s) s.asker c first one) same answer) answer' in
      (both.0, both.1, ap (asker_after s.asker) same)
