-- What a session writes (this project's own).
use Rattle.std.specs.Prelude.{ℕ, List, [], ◌∷◌, ◌++◌}
use Rattle.line_text.specs.Greeting.{greeting_text}
use Rattle.line_wire.specs.declared.reply.LineReply.{LineReply}
use Rattle.line_wire.specs.ReplyText.{output_of}

-- the greeting, and a line for each reply
abbrev pub session_output : List ℕ → List LineReply → List ℕ
session_output nonce replies = (greeting_text nonce ++ 10 ∷ []) ++ output_of replies
