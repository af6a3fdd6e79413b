-- Bytes of messages that come in pieces (this project's own).
use Rattle.std.specs.Prelude.{ℕ, List, []}
use Rattle.nine_messages.specs.declared.framing.TheConstants.{MOST_SIZE}

-- what came and belongs to no message that was taken, and how large a message may be
pub record FramerState : Type 0 where
  pub left : List ℕ
  pub agreed : ℕ

abbrev pub fresh_framer : FramerState
fresh_framer = record { left = []; agreed = MOST_SIZE }
