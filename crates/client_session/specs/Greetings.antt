-- The line with which a server greets (this project's own).
use Rattle.std.specs.Prelude.{◌≡◌, ℕ, List, ◌++◌, codes, length}
use Rattle.line_text.specs.HexWord.{IsHex}

-- the line gives this nonce: its 16 bytes in hexadecimal
pub record IsGreeting (line nonce : List ℕ) : Type 0 where
  pub word : List ℕ
  pub line_is : line ≡ codes "hello " ++ word
  pub hex : IsHex word nonce
  pub whole : length nonce ≡ 16
