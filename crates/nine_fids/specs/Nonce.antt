-- The nonce of a connection, and the greeting that gives it (this project's own).
use Rattle.std.specs.Prelude.{ℕ, List, [], ◌∷◌, ◌++◌}
use Rattle.line_text.specs.Greeting.{greeting_text}

-- the greeting of a session, with its end
abbrev pub greeting : List ℕ → List ℕ
greeting nonce = greeting_text nonce ++ 10 ∷ []
