-- Laws of the replies that sessions are given: each stands on one line (this project's own).
-- `gives` says which moments the clock gives.
use Rattle.std.specs.Prelude.{◌≡◌, ℕ, ℤ, List, ◌∷◌, map}
use Rattle.std.specs.List.{AllByRecursion}
use Rattle.access_history.specs.Lawful.{IsLawful}
use Rattle.line_text.specs.Greeting.{greeting_text}
use Rattle.line_text.specs.Lines.{lines_of}
use Rattle.line_wire.specs.declared.reply.LineReply.{LineReply}
use Rattle.line_wire.specs.ReplyText.{reply_text}
use Rattle.line_wire.specs.Unbroken.{IsUnbrokenReply}
use Rattle.pcfs_store.specs.Entries.{StoreEntry, events_among}
use Rattle.session_history.specs.Output.{session_output}
use Rattle.session_history.specs.Placed.{LinesPlaced}
use Rattle.session_history.specs.SessionState.{SessionState}
use Rattle.session_history.specs.Turn.{StorePass, authority_of_root}

-- each reply of a session, over a lawful history
abbrev pub SessionsReplyUnbroken : (List StoreEntry → ℤ → Type 0) → Type 0
SessionsReplyUnbroken gives = (p : StorePass) (history : List StoreEntry) (start : SessionState) (from : ℕ) (lines : List (List ℕ))
    (answers : List LineReply) (end : SessionState) (to : ℕ) (given : List StoreEntry) →
    IsLawful (authority_of_root p.root) p.root.base (events_among history) →
    LinesPlaced gives p history start from lines answers end to given →
    AllByRecursion IsUnbrokenReply answers

-- so the lines of what a session writes are the greeting and a line for each reply
abbrev pub SessionsWriteTheirReplies : (List StoreEntry → ℤ → Type 0) → Type 0
SessionsWriteTheirReplies gives = (p : StorePass) (history : List StoreEntry) (start : SessionState) (from : ℕ) (lines : List (List ℕ))
    (answers : List LineReply) (end : SessionState) (to : ℕ) (given : List StoreEntry) (nonce : List ℕ) →
    IsLawful (authority_of_root p.root) p.root.base (events_among history) →
    LinesPlaced gives p history start from lines answers end to given →
    lines_of (session_output nonce answers) ≡ greeting_text nonce ∷ map reply_text answers
