-- Bytes that come in pieces, and their lines (this project's own).
use Rattle.std.specs.Prelude.{◌≡◌, ◌≤◌, ◌-◌, ℕ, List, [], ◌∷◌, ◌++◌, Bool, length, take}
use Rattle.std.specs.List.{AllByRecursion}
use Rattle.bl_syntax.specs.declared.limits.TheConstants.{LONGEST_LINE}
use Rattle.line_text.specs.Words.{HasNo}

-- lines, each with its end
abbrev pub ended : List (List ℕ) → List ℕ
ended [] = []
ended (line ∷ lines) = line ++ 10 ∷ ended lines

-- the bytes begin with this line and its end, and these stand after it
pub record IsFirst (bytes line rest : List ℕ) : Type 0 where
  pub parts : bytes ≡ line ++ 10 ∷ rest
  pub one : HasNo 10 line

-- a line that is not too long
pub record IsLine (line : List ℕ) : Type 0 where
  pub one : HasNo 10 line
  pub few : length line ≤ LONGEST_LINE

-- what was fed and belongs to no line that was taken, and whether a line after it is too long
pub record FramerState : Type 0 where
  pub left : List ℕ
  pub is_long : Bool

-- the bytes are lines with their ends, and after them a line without its end, with this many bytes
pub record IsOpen (bytes : List ℕ) (open_bytes : ℕ) : Type 0 where
  pub lines : List (List ℕ)
  pub last : List ℕ
  pub parts : bytes ≡ ended lines ++ last
  pub whole : AllByRecursion IsLine lines
  pub is_last : IsLine last
  pub count : length last ≡ open_bytes

-- without the last line, of so many bytes, if no bytes complete it
abbrev pub cut_off : List ℕ → ℕ → List ℕ → List ℕ
cut_off bytes last_len [] = take (length bytes - last_len) bytes
cut_off bytes last_len (first ∷ others) = bytes ++ first ∷ others
