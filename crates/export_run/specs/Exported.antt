-- What an export of a history's events writes, and its status (this project's own).
use Rattle.std.specs.Prelude.{◌≡◌, ◌<◌, ◌≤◌, ◌+◌, ◌-◌, ℕ, List, [], ◌∷◌, ◌++◌, codes, drop, Bool, Option}
use Rattle.std.specs.Fmt.{decimal}
use Rattle.pcfs_ports.specs.Observable.{with_back}
use Rattle.access_history.specs.Base.{BaseView}
use Rattle.journal_records.specs.declared.event.Event.{Event}
use Rattle.event_messages.specs.Messages.{Message, messages_spelling}
use Rattle.journal_records.specs.EventSpelling.{event_spelling}
use Rattle.pcfs_tools.specs.LastLine.{IsWritten, Wrote, WroteNothing}

-- the message of an event of that number
abbrev pub message_of : ℕ → Event → Message
message_of number event = record { number = number; payload = event_spelling event }

-- the messages of events of which the first has that number
abbrev pub messages_of : ℕ → List Event → List Message
messages_of number [] = []
messages_of number (event ∷ events) = message_of number event ∷ messages_of (number + 1) events

-- the messages of the events of a history from that number on. Its events have the numbers after
-- the count of its base
abbrev pub messages_from : BaseView → List Event → ℕ → List Message
messages_from base events from = messages_of from (drop (from - base.count - 1) events)

-- the line that tells how many events are in the base alone
abbrev pub gone_text : ℕ → List ℕ
gone_text count = codes "gone " ++ decimal count

-- an output holds the first of these messages, each whole, beside what it held
pub record HoldsFirst (held : Option (List ℕ)) (messages : List Message) (held_after : Option (List ℕ)) : Type 0 where
  pub first : List Message
  pub others : List Message
  pub parts : messages ≡ first ++ others
  pub output : held_after ≡ with_back held (messages_spelling first)

-- The messages from that number on were written, none if it is after the last event; or the event
-- of that number is in the base, and this was told. Or the output failed, and holds some first part
-- of that; or memory ran out, and it holds the first of the messages, or no line. `held` and
-- `faults` are what the output held and the count of its faults, and `broken` says whether its last
-- call failed.
pub data TellsExport (base : BaseView) (events : List Event) (from : ℕ)
    (held : Option (List ℕ)) (faults result : ℕ) (held_after : Option (List ℕ)) (faults_after : ℕ)
    (broken : Bool) : Type 0 where
  exported : base.count < from →
      IsWritten 0 (messages_spelling (messages_from base events from)) held faults result held_after faults_after broken →
      TellsExport base events from held faults result held_after faults_after broken
  cut_short : base.count < from → result ≡ 9 →
      HoldsFirst held (messages_from base events from) held_after → faults_after ≡ faults →
      TellsExport base events from held faults result held_after faults_after broken
  gone : from ≤ base.count →
      Wrote 17 (gone_text base.count) held faults result held_after faults_after broken →
      TellsExport base events from held faults result held_after faults_after broken
  untold : from ≤ base.count → WroteNothing held faults result held_after faults_after →
      TellsExport base events from held faults result held_after faults_after broken
