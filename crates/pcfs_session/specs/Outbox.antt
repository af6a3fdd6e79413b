-- Replies that are collected before they are written.
use Rattle.std.specs.Prelude.{◌≡◌, ◌+◌, ◌≤◌, ℕ, List, ◌++◌, length, Option}
use Rattle.pcfs_ports.specs.Observable.{with_back, HoldsSome}
use Rattle.line_wire.specs.declared.reply.LineReply.{LineReply}
use Rattle.line_wire.specs.ReplyText.{output_of}
use Rattle.session_loop.specs.Written.{but_last}
use Rattle.pcfs_session.specs.declared.outbox.SendFault.{SendFault}
use Rattle.pcfs_session.specs.declared.outbox.SendFault.TheVariants.{Write, NoMemory}

-- of these bytes the first were written, and the others are collected
pub record GoesOut (held : Option (List ℕ)) (bytes : List ℕ) (held_after : Option (List ℕ)) (collected : List ℕ) : Type 0 where
  pub sent : List ℕ
  pub parts : bytes ≡ sent ++ collected
  pub output : held_after ≡ with_back held sent

-- Beside what it held, the output holds some first part of all these bytes. Of the earlier ones at
-- most so many are missing.
pub record HoldsAllBut (missing : ℕ) (held held_after : Option (List ℕ))
    (earlier all : List ℕ) : Type 0 where
  pub some : HoldsSome held held_after all
  pub few : length earlier ≤ some.count + missing

-- how many of the earlier bytes may be missing after a reply was not sent: as many as were buffered
-- if the output failed, and none if memory ran out
abbrev pub missing_after : ℕ → SendFault → ℕ
missing_after buffered Write = buffered
missing_after buffered NoMemory = 0

-- Beside what it held, the output holds some first part of these replies. Of all but the last at
-- most so many bytes are missing, which were buffered when the last one came. If the output does
-- not tell what it holds, nothing is said of that (this project's own).
abbrev pub HoldsButBuffered : ℕ → Option (List ℕ) → Option (List ℕ) → List LineReply → Type 0
HoldsButBuffered buffered held held_after replies =
    HoldsAllBut buffered held held_after (output_of (but_last replies)) (output_of replies)
