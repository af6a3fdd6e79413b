-- What a piece does to a framer (this project's own).
use Rattle.std.specs.Prelude.{◌≡◌, ◌≤◌, ℕ, List, ◌++◌, true, false, length}
use Rattle.std.specs.List.{AllByRecursion}
use Rattle.bl_syntax.specs.declared.limits.TheConstants.{LONGEST_LINE}
use Rattle.line_text.specs.Lines.{lines_of}
use Rattle.line_framer.specs.Framing.{FramerState, ended}
use Rattle.line_framer.specs.Scanning.{HasLong}
use Rattle.line_framer.specs.declared.framer.FeedFault.{FeedFault}
use Rattle.line_framer.specs.declared.framer.FeedFault.TheVariants.{TooLong, NoMemory}

-- no line of these bytes is too long
abbrev pub AreShort : List ℕ → Type 0
AreShort bytes = AllByRecursion (λ (line : List ℕ). length line ≤ LONGEST_LINE) (lines_of bytes)

-- the piece came after the bytes that were there, and no line is too long
pub record IsFed (before : FramerState) (piece : List ℕ) (after : FramerState) : Type 0 where
  pub not_before : before.is_long ≡ false
  pub short : AreShort (before.left ++ piece)
  pub after_is : after ≡ record { left = before.left ++ piece; is_long = false }

-- a line is too long: since an earlier piece, or with this one, and then the lines before it are
-- left
pub data IsTooLong (before : FramerState) (piece : List ℕ) : FramerState → Type 0 where
  already : before.is_long ≡ true → IsTooLong before piece before
  with_piece : (lines : List (List ℕ)) → before.is_long ≡ false →
      HasLong (before.left ++ piece) lines →
      IsTooLong before piece (record { left = ended lines; is_long = true })

-- why the piece was not taken
abbrev pub IsNotFed : FramerState → List ℕ → FeedFault → FramerState → Type 0
IsNotFed before piece TooLong after = IsTooLong before piece after
IsNotFed before piece NoMemory after = after ≡ before
