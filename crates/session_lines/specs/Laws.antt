-- Laws of lines that are answered over a shared store.
use Rattle.std.specs.Prelude.{◌≢◌, ℤ, List}
use mathlib.Core.List.{IsPrefix}
use Rattle.tree_lock.specs.Seen.{PassView}
use Rattle.tree_lock.specs.Closing.{IsMadeAfter}
use Rattle.line_wire.specs.declared.reply.LineReply.{LineReply}
use Rattle.line_wire.specs.declared.reply.LineReply.TheVariants as replies
use Rattle.pcfs_store.specs.Entries.{StoreEntry}
use Rattle.pcfs_store.specs.StoreView.{StoreView}
use Rattle.session_history.specs.declared.task.LineTask.{LineTask}
use Rattle.shared_store.specs.declared.entry.LockEntry.{LockEntry}
use Rattle.shared_store.specs.Asking.{HasHistory}
use Rattle.session_lines.specs.Replied.{NeedsTurns, HasDone, IsPlacedAfter}

-- A line finds what was told before. When something was told under a pass, it had seen these
-- entries of a store; if another pass has seen as much when it is given a line, the reply to that
-- line is placed after all these entries, unless the line takes no
-- turn or memory ran out.
abbrev pub LinesFindWhatWasTold : Type 0 → (List StoreEntry → ℤ → Type 0) → Type 0
LinesFindWhatWasTold D gives = (told old new : PassView (LockEntry D)) (opening : StoreView D) (task : LineTask) (reply : LineReply) →
    (h : HasHistory opening told) → IsPrefix told.seen old.seen → NeedsTurns task →
    reply ≢ replies.NoMemory →
    (d : HasDone gives task old new reply) →
    IsPlacedAfter gives opening h.entries task old new reply d.given

-- So does a line that a pass is given which was made after the other had left.
abbrev pub LaterLinesFindWhatWasTold : Type 0 → (List StoreEntry → ℤ → Type 0) → Type 0
LaterLinesFindWhatWasTold D gives = (told made old new : PassView (LockEntry D)) (opening : StoreView D) (task : LineTask) (reply : LineReply) →
    (h : HasHistory opening told) → IsMadeAfter told made → IsPrefix made.seen old.seen → NeedsTurns task →
    reply ≢ replies.NoMemory →
    (d : HasDone gives task old new reply) →
    IsPlacedAfter gives opening h.entries task old new reply d.given
