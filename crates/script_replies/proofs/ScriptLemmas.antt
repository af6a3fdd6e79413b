-- Each reply of a script stands on one line, and so does what its state keeps.
use Rattle.std.proofs.Common.{◌≡◌, ℕ, List, [], ◌∷◌, map, Option, Some, None, sym, subst}
use Rattle.std.specs.Prelude.{ℤ}
use Rattle.std.specs.List.{AllByRecursion}
use Rattle.std.specs.Option.{option_map}
use Rattle.bl_syntax.specs.declared.grant.Goal.{Goal}
use Rattle.procap.specs.declared.procap.Procap.{Procap as Sealed}
use Rattle.proof_term.specs.Proof.{ProofView}
use Rattle.journal_records.specs.declared.event.Event.{Event}
use Rattle.access_history.specs.declared.event.Issue.{Issue}
use Rattle.access_history.specs.declared.request.StepRequest.{StepRequest}
use Rattle.access_history.specs.declared.reply.StepReply.{StepReply}
use Rattle.access_history.specs.Answer.{Answers}
use Rattle.access_history.specs.Authority.{Authority}
use Rattle.access_history.specs.Base.{BaseView}
use Rattle.access_history.specs.Books.{Book, book_of}
use Rattle.access_history.specs.Replay.{next_state}
use Rattle.access_history.proofs.LawfulLemmas.{IsWorld-lawful}
use Rattle.access_history.proofs.ListLemmas.{AllByRecursion-contains}
use Rattle.access_history.proofs.NumberedLemmas.{Contains-numbered}
use Rattle.access_history.proofs.ReplayLemmas.{replay-more}
use Rattle.file_world.specs.World.{IsWorld}
use Rattle.line_text.specs.Lines.{lines_of}
use Rattle.line_words.specs.declared.procap_word.ProcapWord.{ProcapWord}
use Rattle.line_forms.specs.declared.asked.Line.TheVariants as lines
use Rattle.line_forms.specs.declared.command.Command.{Command}
use Rattle.line_forms.specs.declared.mode.Mode.TheVariants.{Operator}
use Rattle.line_wire.specs.declared.reply.LineReply.{LineReply}
use Rattle.line_wire.specs.ReplyText.{reply_text, output_of}
use Rattle.line_wire.specs.Unbroken.{IsUnbrokenReply}
use Rattle.line_wire.proofs.LinesLemmas.{lines_of_output}
use Rattle.reply_laws.specs.Brought.{IsUnbrokenProcap, IsUnbrokenWord, IsUnbrokenCommand, BringsUnbroken}
use Rattle.reply_laws.specs.Kept.{IsUnbrokenIssue, KeepsUnbroken, AddsUnbroken}
use Rattle.reply_laws.proofs.AnswerLemmas.{answer_unbroken}
use Rattle.reply_laws.proofs.KeptLemmas.{fresh_unbroken, answer_kept, checked_unbroken}
use Rattle.reply_laws.proofs.LineLemmas.{line_unbroken}
use Rattle.pcfs_secrets.specs.declared.secrets.Secrets.{Secrets}
use Rattle.pcfs_store.specs.Entries.{StoreEntry, happened, checkpointed, stopped as stop_mark}
use Rattle.pcfs_session.specs.LineAnswer.{Look, replied, requested, ComesTo, AnswersCommand, at_once, decided, AnswersLine, faulty, asks, authority_under}
use Rattle.pcfs_session.specs.LineAnswer as line_answer
use Rattle.pcfs_session.specs.Procaps.{BringsProcap, held, issued, AreBrought}
use Rattle.pcfs_session.specs.Proved.{IsUnproved, cites_none, proves_none}
use Rattle.pcfs_session.specs.ScriptContext.{ScriptContext}
use Rattle.pcfs_session.specs.ScriptRun.{ScriptState, state_of_standing, standing_after, IsLawfulStanding, Becomes, kept, full, stopped, IsReplied, answered, without_memory, ScriptRun, ended, fresh_start}
use Rattle.pcfs_session.specs.ScriptRun as script
use Rattle.pcfs_session.proofs.LawfulRunLemmas.{IsLawfulStanding-replied}

-- ---- looks at the state

-- a procap that a word brings: its own, or that of an issue
brought_unbroken : (key : List ℕ) (issues : List Issue) (word : ProcapWord) (p : Sealed) → AllByRecursion IsUnbrokenIssue issues → IsUnbrokenWord word → BringsProcap key issues word p → IsUnbrokenProcap p
brought_unbroken key issues _ _ all h (held p) = h
brought_unbroken key issues _ _ all h (issued number issue is) = AllByRecursion-contains IsUnbrokenIssue issues issue all (Contains-numbered issues number issue is)

procaps_unbroken : (key : List ℕ) (issues : List Issue) (given : List ProcapWord) (procaps : List Sealed) → AllByRecursion IsUnbrokenIssue issues → AllByRecursion IsUnbrokenWord given → AreBrought key issues given procaps → AllByRecursion IsUnbrokenProcap procaps
procaps_unbroken key issues [] [] all h are = tt
procaps_unbroken key issues [] (p ∷ procaps) all h are = absurd are
procaps_unbroken key issues (word ∷ given) [] all h are = absurd are
procaps_unbroken key issues (word ∷ given) (p ∷ procaps) all h are = (brought_unbroken key issues word p all h.0 are.0, procaps_unbroken key issues given procaps all h.1 are.1)

-- what is made of a command: a reply, or a request that brings and adds no line end
abbrev IsUnbrokenLook : Look → Type 0
IsUnbrokenLook (replied reply) = IsUnbrokenReply reply
IsUnbrokenLook (requested request) = BringsUnbroken request × AddsUnbroken request
IsUnbrokenLook line_answer.checkpoint = Unit {0}

unproved_unbroken : (book : Book) (goal : Goal) (numbers : List ℕ) (proof : ProofView) (reply : LineReply) → IsUnproved book goal numbers proof reply → IsUnbrokenReply reply
unproved_unbroken book goal numbers proof _ (cites_none number absent) = tt
unproved_unbroken book goal numbers proof _ (proves_none cites fault found verdict_is) = tt

look_unbroken : (secrets : Secrets) (state : BaseView) (asker : ScriptContext) (command : Command) (look : Look) → KeepsUnbroken state → IsUnbrokenCommand command → ComesTo secrets state asker command look → IsUnbrokenLook look
look_unbroken secrets state asker _ _ keeps h (line_answer.sets_clock second) = tt
look_unbroken secrets state asker _ _ keeps h (line_answer.sets_caller who) = tt
look_unbroken secrets state asker _ _ keeps h (line_answer.registers signature statement) = (tt, h)
look_unbroken secrets state asker _ _ keeps h (line_answer.withdraws number signature) = (tt, tt)
look_unbroken secrets state asker _ _ keeps h (line_answer.shows number) = (tt, tt)
look_unbroken secrets state asker _ _ keeps h line_answer.makes_checkpoint = tt
look_unbroken secrets state asker _ _ keeps h (line_answer.verifies_nothing goal numbers proof reply refused) = unproved_unbroken (book_of state) goal numbers proof reply refused
look_unbroken secrets state asker _ _ keeps h (line_answer.verifies goal numbers proof cites g proved) = (tt, checked_unbroken state numbers cites goal proof g keeps h.who h.terms proved.found proved.verdict_is)
look_unbroken secrets state asker _ _ keeps h (line_answer.checks_nothing goal numbers proof reply refused) = unproved_unbroken (book_of state) goal numbers proof reply refused
look_unbroken secrets state asker _ _ keeps h (line_answer.checks goal numbers proof cites g proved) = checked_unbroken state numbers cites goal proof g keeps h.who h.terms proved.found proved.verdict_is
look_unbroken secrets state asker _ _ keeps h (line_answer.acts_under_none op given number none) = tt
look_unbroken secrets state asker _ _ keeps h (line_answer.acts op given procaps brought) = (procaps_unbroken secrets.seal_key state.issues given procaps keeps.issues h brought, tt)

-- ---- answers

-- what an answer adds leaves a state that keeps no line end
abbrev AddsTo : BaseView → Option StoreEntry → Type 0
AddsTo state None = Unit {0}
AddsTo state (Some (happened event)) = KeepsUnbroken (next_state state event)
AddsTo state (Some (checkpointed pass)) = Unit {0}
AddsTo state (Some (stop_mark pass met)) = Unit {0}

event_added : (authority : Authority) (state : BaseView) (pass : ℕ) (clock : ℤ) (request : StepRequest) (reply : StepReply) (event : Option Event) → KeepsUnbroken state → AddsUnbroken request → Answers authority state pass clock request reply event → AddsTo state (option_map happened event)
event_added authority state pass clock request reply None keeps adds answer = tt
event_added authority state pass clock request reply (Some event) keeps adds answer = answer_kept authority state pass clock request reply event keeps adds answer

command_answered : (secrets : Secrets) (state : BaseView) (asker : ScriptContext) (command : Command) (reply : LineReply) (entry : Option StoreEntry) → IsWorld state.world → KeepsUnbroken state → IsUnbrokenCommand command → AnswersCommand secrets state asker command reply entry → IsUnbrokenReply reply × AddsTo state entry
command_answered secrets state asker command _ _ world keeps h (at_once reply look) = (look_unbroken secrets state asker command (replied reply) keeps h look, tt)
command_answered secrets state asker command _ _ world keeps h (decided request reply event look answer) =
    let brings = look_unbroken secrets state asker command (requested request) keeps h look in (
      answer_unbroken (authority_under secrets) state asker.pass asker.clock request reply event world brings.0 answer,
      event_added (authority_under secrets) state asker.pass asker.clock request reply event keeps brings.1 answer,
    )
command_answered secrets state asker command _ _ world keeps h (line_answer.made look) = (tt, tt)

line_answered : (secrets : Secrets) (state : BaseView) (asker : ScriptContext) (line : List ℕ) (reply : LineReply) (entry : Option StoreEntry) (after : ScriptContext) → IsWorld state.world → KeepsUnbroken state → AnswersLine secrets state asker line reply entry after → IsUnbrokenReply reply × AddsTo state entry
line_answered secrets state asker line _ _ _ world keeps (faulty fault bad) = (tt, tt)
line_answered secrets state asker line _ _ _ world keeps (asks command reply entry is_line answer) =
    command_answered secrets state asker command reply entry world keeps (line_unbroken Operator line (lines.Command command) is_line) answer

-- ---- runs

standing_keeps : (s : ScriptState) (entry : Option StoreEntry) (asker : ScriptContext) → KeepsUnbroken (state_of_standing s) → AddsTo (state_of_standing s) entry → KeepsUnbroken (state_of_standing (standing_after s entry asker))
standing_keeps s None asker keeps adds = keeps
standing_keeps s (Some (happened event)) asker keeps adds = subst KeepsUnbroken (sym (replay-more s.base s.events event)) adds
standing_keeps s (Some (checkpointed pass)) asker keeps adds = keeps
standing_keeps s (Some (stop_mark pass met)) asker keeps adds = keeps

becomes_unbroken : (s after : ScriptState) (told : LineReply) (asker : ScriptContext) (entry : Option StoreEntry) (reply : LineReply) → KeepsUnbroken (state_of_standing s) → IsUnbrokenReply told → AddsTo (state_of_standing s) entry → Becomes s told asker entry reply after →
    IsUnbrokenReply reply × KeepsUnbroken (state_of_standing after)
becomes_unbroken s _ told asker _ _ keeps h adds (kept entry room) = (h, standing_keeps s entry asker keeps adds)
becomes_unbroken s _ told asker _ _ keeps h adds (full entry is_full) = (tt, keeps)
becomes_unbroken s _ told asker _ _ keeps h adds (stopped entry room) = (tt, keeps)

replied_unbroken : (s after : ScriptState) (line : List ℕ) (reply : LineReply) → IsLawfulStanding s → KeepsUnbroken (state_of_standing s) → IsReplied line s reply after → IsUnbrokenReply reply × KeepsUnbroken (state_of_standing after)
replied_unbroken s after line _ stands keeps (answered told entry asker reply _ answer becomes) =
    let h = line_answered s.secrets (state_of_standing s) s.asker line told entry asker (IsWorld-lawful (authority_under s.secrets) s.base s.events stands.lawful) keeps answer in
    becomes_unbroken s after told asker entry reply keeps h.0 h.1 becomes
replied_unbroken s _ line _ stands keeps without_memory = (tt, keeps)

pub script_unbroken : (start end : ScriptState) (said : List (List ℕ)) (replies : List LineReply) → IsLawfulStanding start → KeepsUnbroken (state_of_standing start) → ScriptRun start said replies end → AllByRecursion IsUnbrokenReply replies × KeepsUnbroken (state_of_standing end)
script_unbroken start _ _ _ stands keeps (ended _) = (tt, keeps)
script_unbroken start end _ _ stands keeps (script.one_more _ line said reply others next _ not_met here run) =
    let first = replied_unbroken start next line reply stands keeps here in
    let rest = script_unbroken next end said others (IsLawfulStanding-replied start next line reply stands here) first.1 run in
    ((first.0, rest.0), rest.1)

pub script_written : (start end : ScriptState) (said : List (List ℕ)) (replies : List LineReply) → IsLawfulStanding start → KeepsUnbroken (state_of_standing start) → ScriptRun start said replies end → lines_of (output_of replies) ≡ map reply_text replies
script_written start end said replies stands keeps run = lines_of_output replies (script_unbroken start end said replies stands keeps run).0

pub begins_unbroken : (secrets : Secrets) → KeepsUnbroken (state_of_standing (fresh_start secrets))
begins_unbroken secrets = fresh_unbroken
