-- Laws of runs and lines: what runs keep is lawful, and lines and runs have one answer each.
use Rattle.std.specs.Prelude.{◌≡◌, ℕ, ◌+◌, List, ◌++◌, length, codes, Option, None}
use Rattle.journal_records.specs.declared.event.Event.{Event}
use Rattle.access_history.specs.Base.{BaseView}
use Rattle.access_history.specs.Lawful.{IsLawful}
use Rattle.line_text.specs.Lines.{lines_of}
use Rattle.line_wire.specs.declared.reply.LineReply.{LineReply}
use Rattle.line_wire.specs.FirstWord.{reply_word}
use Rattle.pcfs_secrets.specs.declared.secrets.Secrets.{Secrets}
use Rattle.pcfs_store.specs.declared.checkpoints.Checkpoint.{Checkpoint}
use Rattle.pcfs_store.specs.Entries.{StoreEntry}
use Rattle.pcfs_session.specs.ScriptContext.{ScriptContext}
use Rattle.pcfs_session.specs.LineAnswer.{authority_under, AnswersLine}
use Rattle.pcfs_session.specs.ScriptRun.{ScriptState, state_of_standing, IsLawfulStanding, ScriptRun, AreUndisturbed, fresh_start}

-- a run from a lawful start ends under the same secrets and over the same base, with the events of
-- its start and others after them, and its history is lawful; checkpoints were added too, and with
-- each the generation grew by one
pub record GoesLawfullyTo (start end : ScriptState) : Type 0 where
  pub added : List Event
  pub made : List Checkpoint
  pub secrets_stay : end.secrets ≡ start.secrets
  pub base_stays : end.base ≡ start.base
  pub events_are : end.events ≡ start.events ++ added
  pub checkpoints_are : end.checkpoints ≡ start.checkpoints ++ made
  pub generation_is : end.generation ≡ start.generation + length made
  pub stands : IsLawfulStanding end

abbrev pub RunsAreLawful : Type 0
RunsAreLawful = (start end : ScriptState) (lines : List (List ℕ)) (replies : List LineReply) →
    IsLawfulStanding start → ScriptRun start lines replies end → GoesLawfullyTo start end

-- over the state of a lawful history a line has one answer at most
abbrev pub LinesHaveOneAnswer : Type 0
LinesHaveOneAnswer = (s : ScriptState) (line : List ℕ) (first second : LineReply) (one other : Option StoreEntry) (after later : ScriptContext) →
    IsLawful (authority_under s.secrets) s.base s.events →
    AnswersLine s.secrets (state_of_standing s) s.asker line first one after →
    AnswersLine s.secrets (state_of_standing s) s.asker line second other later →
    (first ≡ second) × (one ≡ other) × (after ≡ later)

-- and it has one
abbrev pub LinesHaveAnAnswer : Type 0
LinesHaveAnAnswer = (s : ScriptState) (line : List ℕ) → IsLawfulStanding s →
    (reply : LineReply) × (entry : Option StoreEntry) × (after : ScriptContext) ×
    AnswersLine s.secrets (state_of_standing s) s.asker line reply entry after

-- no answer to a line is written as it is if memory runs out
abbrev pub AnswersAreNotOutOfMemory : Type 0
AnswersAreNotOutOfMemory = (secrets : Secrets) (state : BaseView) (asker : ScriptContext) (line : List ℕ)
    (reply : LineReply) (entry : Option StoreEntry) (after : ScriptContext) →
    AnswersLine secrets state asker line reply entry after → reply_word reply ≡ codes "nomemory" → ⊥

-- two runs of the same lines from a lawful start that do not run out of memory and meet no fault of
-- a disk have the same outcome
abbrev pub RunsHaveOneOutcome : Type 0
RunsHaveOneOutcome = (start end other : ScriptState) (lines : List (List ℕ)) (first second : List LineReply) → IsLawfulStanding start →
    ScriptRun start lines first end → AreUndisturbed first → ScriptRun start lines second other →
    AreUndisturbed second → (first ≡ second) × (end ≡ other)

-- and there is such a run, unless a disk failed before
abbrev pub RunsHaveAnOutcome : Type 0
RunsHaveAnOutcome = (start : ScriptState) (lines : List (List ℕ)) → IsLawfulStanding start →
    start.met ≡ None →
    (replies : List LineReply) × (end : ScriptState) × ScriptRun start lines replies end ×
    AreUndisturbed replies

-- a script over a store before its first event begins lawfully
abbrev pub FreshStartsAreLawful : Type 0
FreshStartsAreLawful = (secrets : Secrets) → IsLawfulStanding (fresh_start secrets)

-- the outcome of a run that does not run out of memory and meets no fault of a disk, and no other
-- such run has another
pub record IsOutcome (start : ScriptState) (lines : List (List ℕ)) (replies : List LineReply) (end : ScriptState) : Type 0 where
  pub run : ScriptRun start lines replies end
  pub undisturbed : AreUndisturbed replies
  pub only : (others : List LineReply) (other : ScriptState) → ScriptRun start lines others other →
      AreUndisturbed others → (others ≡ replies) × (other ≡ end)

-- each input of a script over a store before its first event has exactly one outcome, unless memory
-- runs out or a disk fails
abbrev pub ScriptsHaveOneOutcome : Type 0
ScriptsHaveOneOutcome = (secrets : Secrets) (input : List ℕ) → (replies : List LineReply) ×
    (end : ScriptState) × IsOutcome (fresh_start secrets) (lines_of input) replies end
