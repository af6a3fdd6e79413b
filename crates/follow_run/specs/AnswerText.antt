-- The lines that tell what became of messages (this project's own).
use Rattle.std.specs.Prelude.{ℕ, ◌≤◌, List, [], ◌∷◌, ◌++◌, codes, length, Option}
use Rattle.std.specs.Fmt.{decimal}
use Rattle.pcfs_ports.specs.Observable.{HoldsSome}
use Rattle.session_loop.specs.Written.{but_last}
use Rattle.event_messages.specs.Messages.{Message}
use Rattle.follower.specs.declared.taking.Taken.{Taken}
use Rattle.follower.specs.declared.taking.Taken.TheVariants.{Kept, Known, Missing, Damaged, Full, Stopped, NoMemory}
use Rattle.pcfs_session.specs.ScriptEnds.{with_line_end}
use Rattle.follow_run.specs.DamageNumber.{damage_number}

-- The line for a message of that number. If a disk failed or memory ran out, there is none for it.
abbrev pub answer_line : ℕ → Taken → List ℕ
answer_line number Kept = with_line_end (codes "kept " ++ decimal number)
answer_line number Known = with_line_end (codes "known " ++ decimal number)
answer_line number (Missing next) = with_line_end (codes "missing " ++ decimal next)
answer_line number (Damaged damage) = with_line_end (codes "damaged " ++ (decimal number ++ (codes " " ++ decimal (damage_number damage))))
answer_line number Full = with_line_end (codes "full " ++ decimal number)
answer_line number Stopped = []
answer_line number NoMemory = []

-- the lines for messages that were answered so, one after another
abbrev pub answer_lines : List Message → List Taken → List ℕ
answer_lines [] told = []
answer_lines (message ∷ messages) [] = []
answer_lines (message ∷ messages) (taken ∷ told) = answer_line message.number taken ++ answer_lines messages told

-- beside what it held, the output holds the lines for all messages but the last, and of that for
-- the last some first part
pub record HoldsButLast (held held_after : Option (List ℕ)) (messages : List Message) (told : List Taken) : Type 0 where
  pub some : HoldsSome held held_after (answer_lines messages told)
  pub earlier : length (answer_lines messages (but_last told)) ≤ some.count
