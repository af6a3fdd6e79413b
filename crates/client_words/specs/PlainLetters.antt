-- The letters of a text that is one line (this project's own).
use Rattle.std.specs.Prelude.{ℕ, if◌then◌else◌}
use Rattle.std.specs.Char.{is_control}

-- the letter, or a question mark in the place of a control character
abbrev pub plain_letter : ℕ → ℕ
plain_letter letter = if is_control letter then 63 else letter
