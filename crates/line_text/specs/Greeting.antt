-- The first line of a session, which gives its nonce (this project's own).
use Rattle.std.specs.Prelude.{ℕ, List, ◌++◌, codes}
use Rattle.line_text.specs.HexWord.{hex_word}

abbrev pub greeting_text : List ℕ → List ℕ
greeting_text nonce = codes "hello " ++ hex_word nonce
