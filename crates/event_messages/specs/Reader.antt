-- Bytes that come in pieces, and the messages at their front (this project's own).
use Rattle.std.specs.Prelude.{◌≡◌, ◌≢◌, ◌+◌, ◌-◌, ◌^◌, ℕ, List, min, Ok, Err}
use Rattle.bl_syntax.specs.declared.codec_fault.CodecFault.{CodecFault}
use Rattle.bl_syntax.specs.declared.codec_fault.CodecFault.TheVariants.{Short}
use Rattle.event_messages.specs.Messages.{Message, message_at, message_length}

-- what was fed and belongs to no message that was taken, and how many bytes were taken before it; no
-- count is over 2^64 - 1
pub record ReaderState : Type 0 where
  pub left : List ℕ
  pub place : ℕ

-- the state after a message was taken, and these bytes are left
abbrev pub after_message : ReaderState → Message → List ℕ → ReaderState
after_message s m rest = record { left = rest; place = min (s.place + message_length m) (2 ^ 64 - 1) }

-- the bytes begin with this message
pub record BeginsMessage (bytes : List ℕ) (m : Message) : Type 0 where
  pub rest : List ℕ
  pub read : message_at bytes ≡ Ok (m, rest)

-- no message begins so, whatever bytes come after these
pub record BeginsNoMessage (bytes : List ℕ) : Type 0 where
  pub fault : CodecFault
  pub not_short : fault ≢ Short
  pub read : message_at bytes ≡ Err fault

-- more bytes may complete a message
abbrev pub MayGoOn : List ℕ → Type 0
MayGoOn bytes = message_at bytes ≡ Err Short
