-- The events of a run are lawful.
use Rattle.std.proofs.Common.{◌≡◌, ap, ◌∙◌, ◌≤◌, ◌<◌, ◌+◌, ◌-◌, ◌^◌, ◌⊎◌, inl, inr, ℕ, ℤ, List, [], ◌∷◌, ◌++◌, length, Option, Some, None, refl, sym, arith, append-nil, append_assoc, length-append}
use Rattle.std.proofs.lemmas.Bool.{cases_lt}
use Rattle.std.proofs.lemmas.Int.{ints}
use Rattle.bl_syntax.specs.TimeOrder.{IsMoment}
use Rattle.journal_records.specs.declared.event.Event.{Event}
use Rattle.access_history.specs.declared.request.StepRequest.{StepRequest}
use Rattle.access_history.specs.declared.reply.StepReply.{StepReply}
use Rattle.access_history.specs.Base.{BaseView}
use Rattle.access_history.specs.Answer.{Answers}
use Rattle.access_history.specs.Authority.{Authority}
use Rattle.access_history.specs.Lawful.{IsLawful, IsLawfulBase, MayFollow, one_more}
use Rattle.access_history.specs.Replay.{replay}
use Rattle.access_history.specs.WellFormed.{IsWellFormed}
use Rattle.access_history.proofs.FreshLemmas.{IsLawful-fresh}
use Rattle.access_history.proofs.LawfulLemmas.{IsLawfulBase-lawful}
use Rattle.access_history.proofs.MayFollowLemmas.{MayFollow-answered}
use Rattle.access_history.proofs.ReplayLemmas.{count-replay}
use Rattle.line_forms.proofs.LimitLemmas.{caller_of_line, second_of_line}
use Rattle.line_forms.specs.declared.command.Command.{Command}
use Rattle.line_forms.specs.declared.command.Command.TheVariants.{At, As, Register, Withdraw, Procap, Checkpoint, Verify, Check, Do}
use Rattle.line_forms.specs.Lines.{IsLine}
use Rattle.line_wire.specs.declared.reply.LineReply.{LineReply}
use Rattle.pcfs_secrets.specs.declared.secrets.Secrets.{Secrets}
use Rattle.std.specs.Option.{option_map}
use Rattle.pcfs_store.specs.declared.checkpoints.Checkpoint.{Checkpoint as MadeCheckpoint}
use Rattle.pcfs_store.specs.Entries.{StoreEntry, happened, checkpointed, stopped as stop_mark}
use Rattle.pcfs_session.specs.LineAnswer as line_answer
use Rattle.pcfs_session.specs.ScriptContext.{ScriptContext, IsAsker, asker_after}
use Rattle.pcfs_session.specs.LineAnswer.{authority_under, AnswersCommand, at_once, decided, AnswersLine, faulty, asks}
use Rattle.pcfs_session.specs.Laws.{GoesLawfullyTo}
use Rattle.pcfs_session.specs.ScriptRun.{ScriptState, state_of_standing, standing_after, IsLawfulStanding, HasRoom, Becomes, kept, full, stopped, IsReplied, answered, without_memory, ScriptRun, ended, fresh_start}
use Rattle.pcfs_session.specs.ScriptRun as script
use Rattle.pcfs_session.proofs.FormedLemmas.{IsWellFormed-line}

-- the event, if there is one, may come next; a checkpoint may be made at any time
abbrev FollowsIn : Authority → BaseView → Option StoreEntry → Type 0
FollowsIn authority state None = Unit {0}
FollowsIn authority state (Some (happened event)) = MayFollow authority state event
FollowsIn authority state (Some (checkpointed pass)) = Unit {0}
FollowsIn authority state (Some (stop_mark pass met)) = Unit {0}

follows_in : (authority : Authority) (state : BaseView) (pass : ℕ) (clock : ℤ) (request : StepRequest) (reply : StepReply) (event : Option Event) → IsLawfulBase authority state → IsMoment clock → IsWellFormed request →
    Answers authority state pass clock request reply event → FollowsIn authority state (option_map happened event)
follows_in authority state pass clock request reply None base at formed answer = tt
follows_in authority state pass clock request reply (Some event) base at formed answer = MayFollow-answered authority state pass clock request reply event base at formed answer

answer_follows : (secrets : Secrets) (state : BaseView) (asker : ScriptContext) (line : List ℕ) (command : Command) (reply : LineReply) (entry : Option StoreEntry) → IsAsker asker → IsLawfulBase (authority_under secrets) state → IsLine line command →
    AnswersCommand secrets state asker command reply entry → FollowsIn (authority_under secrets) state entry
answer_follows secrets state asker line command _ _ is_asker base is (at_once reply look) = tt
answer_follows secrets state asker line command _ _ is_asker base is (line_answer.made look) = tt
answer_follows secrets state asker line command _ _ is_asker base is (decided request reply event look answer) =
    follows_in (authority_under secrets) state asker.pass asker.clock request reply event base is_asker.moment (IsWellFormed-line secrets state asker line command request is_asker base.statements_formed is look) answer

-- who asks after a line still asks at a moment, as a principal
asker_stays : (asker : ScriptContext) (line : List ℕ) (command : Command) → IsAsker asker → IsLine line command → IsAsker (asker_after asker command)
asker_stays asker line (At second) is_asker is = record { moment = second_of_line line second is; named = is_asker.named }
asker_stays asker line (As who) is_asker is = record { moment = is_asker.moment; named = caller_of_line line who is }
asker_stays asker line (Register signature statement) is_asker is = is_asker
asker_stays asker line (Withdraw number signature) is_asker is = is_asker
asker_stays asker line (Procap number) is_asker is = is_asker
asker_stays asker line Checkpoint is_asker is = is_asker
asker_stays asker line (Verify goal numbers proof) is_asker is = is_asker
asker_stays asker line (Check goal numbers proof) is_asker is = is_asker
asker_stays asker line (Do op words) is_asker is = is_asker

-- ---- one event more

-- the count of the state is that of the base with the events since
counted_state : (s : ScriptState) → (state_of_standing s).count ≡ s.base.count + length s.events
counted_state s = count-replay s.base s.events

numbered : (s : ScriptState) → ((state_of_standing s).count < 2 ^ 48 - 1) ⊎ (2 ^ 48 - 1 ≤ (state_of_standing s).count) → (2 ^ 48 - 1 ≤ (state_of_standing s).count → ⊥) → s.base.count + (length s.events + 1) ≤ 2 ^ 48 - 1
numbered s (inl few) below = omega (arith, few, counted_state s)
numbered s (inr many) below = absurd (below many)

-- an event that has room has a number
has_number : (s : ScriptState) (event : Event) → HasRoom s (Some (happened event)) → s.base.count + (length s.events + 1) ≤ 2 ^ 48 - 1
has_number s event room =
    numbered s (cases_lt (state_of_standing s).count (2 ^ 48 - 1)) (λ many. room (inr many))

with_event : (authority : Authority) (base : BaseView) (events : List Event) (event : Event) → IsLawful authority base events → base.count + (length events + 1) ≤ 2 ^ 48 - 1 → FollowsIn authority (replay base events) (Some (happened event)) → IsLawful authority base (events ++ event ∷ [])
with_event authority base events event lawful few follows = record {
  lawful_base = lawful.lawful_base;
  counted = omega (arith, few, length-append events (event ∷ []));
  each = one_more events event lawful.each follows;
}

-- an answer leaves a lawful standing lawful
kept_stands : (s : ScriptState) (entry : Option StoreEntry) (asker : ScriptContext) → IsLawfulStanding s → IsAsker asker → HasRoom s entry → FollowsIn (authority_under s.secrets) (state_of_standing s) entry → IsLawfulStanding (standing_after s entry asker)
kept_stands s None asker stands is_asker room follows = record { lawful = stands.lawful; asker = is_asker }
kept_stands s (Some (checkpointed pass)) asker stands is_asker room follows = record { lawful = stands.lawful; asker = is_asker }
kept_stands s (Some (stop_mark pass met)) asker stands is_asker room follows = record { lawful = stands.lawful; asker = is_asker }
kept_stands s (Some (happened event)) asker stands is_asker room follows =
    record { lawful = with_event (authority_under s.secrets) s.base s.events event stands.lawful (has_number s event room) follows; asker = is_asker }

becomes_stands : (s after : ScriptState) (told : LineReply) (asker : ScriptContext) (entry : Option StoreEntry) (reply : LineReply) → IsLawfulStanding s → IsAsker asker → FollowsIn (authority_under s.secrets) (state_of_standing s) entry → Becomes s told asker entry reply after → IsLawfulStanding after
becomes_stands s _ told asker _ _ stands is_asker follows (kept event room) = kept_stands s event asker stands is_asker room follows
becomes_stands s _ told asker _ _ stands is_asker follows (full event is_full) = stands
becomes_stands s _ told asker _ _ stands is_asker follows (stopped event room) = record { lawful = stands.lawful; asker = stands.asker }

line_stands : (s after : ScriptState) (line : List ℕ) (told : LineReply) (entry : Option StoreEntry) (asker : ScriptContext) (reply : LineReply) → IsLawfulStanding s → AnswersLine s.secrets (state_of_standing s) s.asker line told entry asker → Becomes s told asker entry reply after → IsLawfulStanding after
line_stands s after line _ _ _ reply stands (faulty fault bad) becomes = becomes_stands s after _ s.asker None reply stands stands.asker tt becomes
line_stands s after line _ _ _ reply stands (asks command told event is answer) becomes =
    becomes_stands s after told (asker_after s.asker command) event reply stands (asker_stays s.asker line command stands.asker is)
    (answer_follows s.secrets (state_of_standing s) s.asker line command told event stands.asker (IsLawfulBase-lawful (authority_under s.secrets) s.base s.events stands.lawful) is answer) becomes

pub IsLawfulStanding-replied : (s after : ScriptState) (line : List ℕ) (reply : LineReply) → IsLawfulStanding s → IsReplied line s reply after → IsLawfulStanding after
IsLawfulStanding-replied s after line _ stands (answered told event asker reply _ answer becomes) = line_stands s after line told event asker reply stands answer becomes
IsLawfulStanding-replied s _ line _ stands without_memory = stands

-- under the same secrets and over the same base, events and checkpoints are added
record GoesOn (s after : ScriptState) : Type 0 where
  added : List Event
  made : List MadeCheckpoint
  secrets : after.secrets ≡ s.secrets
  base : after.base ≡ s.base
  events : after.events ≡ s.events ++ added
  checkpoints : after.checkpoints ≡ s.checkpoints ++ made
  generation : after.generation ≡ s.generation + length made

stays_on : (s : ScriptState) → GoesOn s s
stays_on s = record { added = []; made = []; secrets = refl; base = refl; events = sym (append-nil s.events); checkpoints = sym (append-nil s.checkpoints); generation = omega arith }

kept_on : (s : ScriptState) (entry : Option StoreEntry) (asker : ScriptContext) → GoesOn s (standing_after s entry asker)
kept_on s None asker = record { added = []; made = []; secrets = refl; base = refl; events = sym (append-nil s.events); checkpoints = sym (append-nil s.checkpoints); generation = omega arith }
kept_on s (Some (happened event)) asker = record { added = event ∷ []; made = []; secrets = refl; base = refl; events = refl; checkpoints = sym (append-nil s.checkpoints); generation = omega arith }
kept_on s (Some (checkpointed pass)) asker =
    record { added = []; made = record { after = length s.events; pass = pass } ∷ []; secrets = refl; base = refl; events = sym (append-nil s.events); checkpoints = refl; generation = refl }
kept_on s (Some (stop_mark pass met)) asker = record { added = []; made = []; secrets = refl; base = refl; events = sym (append-nil s.events); checkpoints = sym (append-nil s.checkpoints); generation = omega arith }

becomes_on : (s after : ScriptState) (told : LineReply) (asker : ScriptContext) (entry : Option StoreEntry) (reply : LineReply) → Becomes s told asker entry reply after → GoesOn s after
becomes_on s _ told asker _ _ (kept event room) = kept_on s event asker
becomes_on s _ told asker _ _ (full event is_full) = stays_on s
becomes_on s _ told asker _ _ (stopped event room) = record { added = []; made = []; secrets = refl; base = refl; events = sym (append-nil s.events); checkpoints = sym (append-nil s.checkpoints); generation = omega arith }

replied_on : (s after : ScriptState) (line : List ℕ) (reply : LineReply) → IsReplied line s reply after → GoesOn s after
replied_on s after line _ (answered told event asker reply _ answer becomes) = becomes_on s after told asker event reply becomes
replied_on s _ line _ without_memory = stays_on s

on_and_on : (s mid after : ScriptState) → GoesOn s mid → GoesOn mid after → GoesOn s after
on_and_on s mid after one other = record {
  added = one.added ++ other.added;
  made = one.made ++ other.made;
  secrets = other.secrets ∙ one.secrets;
  base = other.base ∙ one.base;
  events = other.events ∙ ap (λ (es : List Event). es ++ other.added) one.events ∙ append_assoc s.events one.added other.added;
  checkpoints = other.checkpoints ∙ ap (λ (cs : List MadeCheckpoint). cs ++ other.made) one.checkpoints ∙ append_assoc s.checkpoints one.made other.made;
  generation = omega (arith, one.generation, other.generation, length-append one.made other.made);
}

run_on : (start end : ScriptState) (lines : List (List ℕ)) (replies : List LineReply) → ScriptRun start lines replies end → GoesOn start end
run_on start _ _ _ (ended _) = stays_on start
run_on start end _ _ (script.one_more _ line lines reply others next _ not_met replied run) = on_and_on start next end (replied_on start next line reply replied) (run_on next end lines others run)

-- a run from a lawful start ends lawfully
pub IsLawfulStanding-run : (start end : ScriptState) (lines : List (List ℕ)) (replies : List LineReply) → IsLawfulStanding start → ScriptRun start lines replies end → IsLawfulStanding end
IsLawfulStanding-run start _ _ _ stands (ended _) = stands
IsLawfulStanding-run start end _ _ stands (script.one_more _ line lines reply others next _ not_met replied run) = IsLawfulStanding-run next end lines others (IsLawfulStanding-replied start next line reply stands replied) run

pub runs_lawfully : (start end : ScriptState) (lines : List (List ℕ)) (replies : List LineReply) → IsLawfulStanding start → ScriptRun start lines replies end → GoesLawfullyTo start end
runs_lawfully start end lines replies stands run =
    let on = run_on start end lines replies run in
    record { added = on.added; made = on.made; secrets_stay = on.secrets; base_stays = on.base; events_are = on.events; checkpoints_are = on.checkpoints; generation_is = on.generation; stands = IsLawfulStanding-run start end lines replies stands run }

-- a script over a store before its first event begins lawfully
pub IsLawfulStanding-fresh : (secrets : Secrets) → IsLawfulStanding (fresh_start secrets)
IsLawfulStanding-fresh secrets = record {
  lawful = IsLawful-fresh (authority_under secrets);
  asker = record { moment = record { not_before = omega (arith, ints); not_after = omega (arith, ints) }; named = refl };
}
