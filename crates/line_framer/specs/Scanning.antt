-- What a piece does to a line that is open, and to those after it (this project's own).
use Rattle.std.specs.Prelude.{◌≡◌, ◌<◌, ◌≤◌, ℕ, List, [], ◌∷◌, ◌++◌, length, take}
use Rattle.std.specs.List.{AllByRecursion}
use Rattle.bl_syntax.specs.declared.limits.TheConstants.{LONGEST_LINE}
use Rattle.line_text.specs.Lines.{lines_of}
use Rattle.line_framer.specs.Framing.{IsLine, IsOpen, ended}
use Rattle.line_framer.specs.declared.scanning.Scanned.{Scanned}
use Rattle.line_framer.specs.declared.scanning.Scanned.TheVariants.{Short, Long}

-- of the lines of these bytes, these come first and are not too long, and the next one is
pub record HasLong (bytes : List ℕ) (before : List (List ℕ)) : Type 0 where
  pub long : List ℕ
  pub after : List (List ℕ)
  pub lines_are : lines_of bytes ≡ before ++ long ∷ after
  pub whole : AllByRecursion IsLine before
  pub too_long : LONGEST_LINE < length long

-- after the open line and the piece, a line is too long; these bytes of the piece stand before it
pub record IsLong (last piece : List ℕ) (whole : ℕ) : Type 0 where
  pub before : List (List ℕ)
  pub has_long : HasLong (last ++ piece) before
  pub within : whole ≤ length piece
  pub none : whole ≡ 0 → before ≡ []
  pub some : 0 < whole → last ++ take whole piece ≡ ended before

-- the piece after an open line with this many bytes
abbrev pub IsScanned : ℕ → List ℕ → Scanned → Type 0
IsScanned count piece (Short now) = (last : List ℕ) → length last ≡ count → IsLine last →
    IsOpen (last ++ piece) now
IsScanned count piece (Long whole) = (last : List ℕ) → length last ≡ count → IsLine last →
    IsLong last piece whole
