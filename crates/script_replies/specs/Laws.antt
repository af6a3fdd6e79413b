-- Laws of the replies that scripts are given: each stands on one line (this project's own).
use Rattle.std.specs.Prelude.{◌≡◌, ℕ, List, map}
use Rattle.std.specs.List.{AllByRecursion}
use Rattle.journal_records.specs.declared.event.Event.{Event}
use Rattle.journal_records.specs.EventSpelling.{IsReadEvent}
use Rattle.access_history.specs.Base.{BaseView}
use Rattle.access_history.specs.Replay.{replay}
use Rattle.checkpoint.specs.Reading.{IsImageOf}
use Rattle.line_text.specs.Lines.{lines_of}
use Rattle.line_wire.specs.declared.reply.LineReply.{LineReply}
use Rattle.line_wire.specs.ReplyText.{reply_text, output_of}
use Rattle.line_wire.specs.Unbroken.{IsUnbrokenReply}
use Rattle.reply_laws.specs.Kept.{KeepsUnbroken}
use Rattle.pcfs_secrets.specs.declared.secrets.Secrets.{Secrets}
use Rattle.pcfs_session.specs.ScriptRun.{ScriptState, state_of_standing, IsLawfulStanding, ScriptRun, fresh_start}

-- each reply of a script, from a lawful start; and the state to which it leads keeps only what
-- stands on one line, if the one did from which it began
abbrev pub ScriptsReplyUnbroken : Type 0
ScriptsReplyUnbroken = (start end : ScriptState) (lines : List (List ℕ)) (replies : List LineReply) →
    IsLawfulStanding start → KeepsUnbroken (state_of_standing start) →
    ScriptRun start lines replies end →
    AllByRecursion IsUnbrokenReply replies × KeepsUnbroken (state_of_standing end)

-- so the lines of what a script writes are its replies
abbrev pub ScriptsWriteTheirReplies : Type 0
ScriptsWriteTheirReplies = (start end : ScriptState) (lines : List (List ℕ)) (replies : List LineReply) →
    IsLawfulStanding start → KeepsUnbroken (state_of_standing start) →
    ScriptRun start lines replies end → lines_of (output_of replies) ≡ map reply_text replies

-- a script over a store before its first event begins so
abbrev pub FreshScriptsKeepUnbroken : Type 0
FreshScriptsKeepUnbroken = (secrets : Secrets) → KeepsUnbroken (state_of_standing (fresh_start secrets))

-- and so does one over an area that is opened: over the state of its image, and the events that are
-- read of its records
abbrev pub AreasKeepUnbroken : Type 0
AreasKeepUnbroken = (base : BaseView) (image : List ℕ) (events : List Event) → IsImageOf base image →
    AllByRecursion IsReadEvent events → KeepsUnbroken (replay base events)
