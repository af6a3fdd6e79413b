-- Runs of a follower, one after the other, and the histories that they lead to.
use Rattle.std.proofs.Common.{◌≡◌, ℕ, suc, length, List, [], ◌∷◌, ◌++◌, Some, refl, sym, ap, ◌∙◌, subst, arith, append-nil, append_assoc, length-append}
use Rattle.journal_records.specs.declared.event.Event.{Event}
use Rattle.access_history.specs.Authority.{Authority}
use Rattle.access_history.specs.Base.{BaseView}
use Rattle.access_history.specs.Lawful.{IsLawful, one_more as one_more_lawful}
use Rattle.access_history.specs.Replay.{replay}
use Rattle.access_history.proofs.HeadlineLemmas.{Headline-lawful}
use Rattle.access_history.proofs.ReplayLemmas.{count-replay}
use Rattle.event_messages.specs.Messages.{Message, message_spelling, messages_spelling}
use Rattle.follower.specs.declared.taking.Taken.{Taken}
use Rattle.op_gate.specs.Damage.{MayComeNext}
use Rattle.pcfs_store.specs.Entries.{happened}
use Rattle.pcfs_secrets.specs.declared.secrets.Secrets.{Secrets}
use Rattle.pcfs_session.specs.LineAnswer.{authority_under}
use Rattle.pcfs_session.specs.ScriptRun.{ScriptState, IsLawfulStanding, IsLawfulUnder}
use Rattle.follow_run.specs.AnswerText.{answer_line, answer_lines}
use Rattle.follow_run.specs.FollowRun.{TakesIn, known, missing, damaged, full, failed, kept, FollowRun, ended, one_more, FollowsOver}

-- ---- one run, and another from where it ended

pub FollowRun-then : (start mid end : ScriptState) (messages others : List Message) (told after : List Taken) → FollowRun start messages told mid → FollowRun mid others after end → FollowRun start (messages ++ others) (told ++ after) end
FollowRun-then start _ end _ others _ after (ended _) more = more
FollowRun-then start mid end _ others _ after (one_more _ message messages taken told next _ going takes run) more =
    one_more start message (messages ++ others) taken (told ++ after) next end going takes (FollowRun-then next mid end messages others told after run more)

pub lines-then : (start mid : ScriptState) (messages others : List Message) (told after : List Taken) → FollowRun start messages told mid → answer_lines (messages ++ others) (told ++ after) ≡ answer_lines messages told ++ answer_lines others after
lines-then start _ _ others _ after (ended _) = refl
lines-then start mid _ others _ after (one_more _ message messages taken told next _ going takes run) =
    ap (λ (b : List ℕ). answer_line message.number taken ++ b) (lines-then next mid messages others told after run)
    ∙ sym (append_assoc (answer_line message.number taken) (answer_lines messages told) (answer_lines others after))

-- each message has its answer
pub answers_each : (start end : ScriptState) (messages : List Message) (told : List Taken) → FollowRun start messages told end → length told ≡ length messages
answers_each start _ _ _ (ended _) = refl
answers_each start end _ _ (one_more _ message messages taken told next _ going takes run) = ap suc (answers_each next end messages told run)

pub lines-one : (message : Message) (taken : Taken) → answer_lines (message ∷ []) (taken ∷ []) ≡ answer_line message.number taken
lines-one message taken = append-nil (answer_line message.number taken)

-- ---- messages, one after another

pub spelling-append : (messages others : List Message) → messages_spelling (messages ++ others) ≡ messages_spelling messages ++ messages_spelling others
spelling-append [] others = refl
spelling-append (message ∷ messages) others =
    ap (λ (b : List ℕ). message_spelling message ++ b) (spelling-append messages others) ∙ sym (append_assoc (message_spelling message) (messages_spelling messages) (messages_spelling others))

pub spelling-one : (message : Message) → messages_spelling (message ∷ []) ≡ message_spelling message
spelling-one message = append-nil (message_spelling message)

-- ---- lawful histories

lawful_more : (authority : Authority) (base : BaseView) (events : List Event) (event : Event) → IsLawful authority base events → MayComeNext authority (replay base events) event → IsLawful authority base (events ++ event ∷ [])
lawful_more authority base events event lawful may = record {
  lawful_base = lawful.lawful_base;
  counted = omega (arith, may.counted, count-replay base events, length-append events (event ∷ []));
  each = one_more_lawful events event lawful.each may.follows;
}

-- a later state: under the same secrets and over the same base, events are added, and they are lawful
pub record GoesOn (s after : ScriptState) : Type 0 where
  pub added : List Event
  pub secrets : after.secrets ≡ s.secrets
  pub base : after.base ≡ s.base
  pub events : after.events ≡ s.events ++ added
  pub lawful : IsLawfulUnder after.secrets after

stays_on : (s after : ScriptState) → after.secrets ≡ s.secrets → after.base ≡ s.base → after.events ≡ s.events → IsLawfulUnder after.secrets after → GoesOn s after
stays_on s after secrets base events lawful = record { added = []; secrets = secrets; base = base; events = events ∙ sym (append-nil s.events); lawful = lawful }

takes_on : (s after : ScriptState) (message : Message) (taken : Taken) → IsLawfulUnder s.secrets s → TakesIn s message taken after → GoesOn s after
takes_on s _ message _ lawful (known few) = stays_on s s refl refl refl lawful
takes_on s _ message _ lawful (missing more) = stays_on s s refl refl refl lawful
takes_on s _ message _ lawful (damaged damage at is) = stays_on s s refl refl refl lawful
takes_on s _ message _ lawful (full event n over) = stays_on s s refl refl refl lawful
takes_on s _ message _ lawful (failed event n fits) = stays_on s (record s { met = Some (happened event) }) refl refl refl lawful
takes_on s _ message _ lawful (kept event n fits) = record { added = event ∷ []; secrets = refl; base = refl; events = refl; lawful = lawful_more (authority_under s.secrets) s.base s.events event lawful n.enters }

on_and_on : (s mid after : ScriptState) → GoesOn s mid → GoesOn mid after → GoesOn s after
on_and_on s mid after one other = record {
  added = one.added ++ other.added;
  secrets = other.secrets ∙ one.secrets;
  base = other.base ∙ one.base;
  events = other.events ∙ ap (λ (es : List Event). es ++ other.added) one.events ∙ append_assoc s.events one.added other.added;
  lawful = other.lawful;
}

pub run_on : (start end : ScriptState) (messages : List Message) (told : List Taken) → IsLawfulUnder start.secrets start → FollowRun start messages told end → GoesOn start end
run_on start _ _ _ lawful (ended _) = stays_on start start refl refl refl lawful
run_on start end _ _ lawful (one_more _ message messages taken told next _ going takes run) =
    let on = takes_on start next message taken lawful takes in
    on_and_on start next end on (run_on next end messages told on.lawful run)

-- a run from a lawful start
unfoldable pub FollowsOver-ran : (start end : ScriptState) (messages : List Message) (told : List Taken) → IsLawfulStanding start → FollowRun start messages told end → FollowsOver start messages end (answer_lines messages told)
FollowsOver-ran start end messages told stands run =
    let on = run_on start end messages told stands.lawful run in
    record {
      told = told;
      added = on.added;
      run = run;
      base_stays = on.base;
      events_are = on.events;
      headline = Headline-lawful (authority_under start.secrets) end.base end.events (subst (λ (k : Secrets). IsLawfulUnder k end) on.secrets on.lawful);
      lines_are = refl;
    }

-- no message was taken
pub FollowsOver-none : (start : ScriptState) → IsLawfulStanding start → FollowsOver start [] start []
FollowsOver-none start stands = FollowsOver-ran start start [] [] stands (ended start)
