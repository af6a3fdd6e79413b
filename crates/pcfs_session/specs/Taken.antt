-- The lines of what was taken of an input. If the input does not tell what it has, these are some
-- lines (this project's own).
use Rattle.std.specs.Prelude.{◌≡◌, ◌+◌, ◌≤◌, ℕ, List, ◌++◌, length, Option}
use Rattle.std.specs.List.{AllByRecursion}
use Rattle.bl_syntax.specs.declared.limits.TheConstants.{LONGEST_LINE}
use Rattle.pcfs_ports.specs.declared.pieces.TheConstants.{PIECE_LEN}
use Rattle.pcfs_ports.specs.Observable.{with_front}
use Rattle.line_framer.specs.Framing.{ended, IsLine}
use Rattle.line_framer.specs.Feeding.{AreShort}
use Rattle.line_framer.specs.Scanning.{HasLong}

-- the bytes are these lines, each with its end and none too long, and then this rest
pub record AreFirst (bytes : List ℕ) (lines : List (List ℕ)) (rest : List ℕ) : Type 0 where
  pub whole : AllByRecursion IsLine lines
  pub parts : bytes ≡ ended lines ++ rest

-- these lines were taken, each with its end, and then some rest, of no more than a line and a piece
pub record AreTaken (left left_after : Option (List ℕ)) (lines : List (List ℕ)) : Type 0 where
  pub bytes : List ℕ
  pub rest : List ℕ
  pub taken : left ≡ with_front bytes left_after
  pub first : AreFirst bytes lines rest
  pub few : length rest ≤ LONGEST_LINE + PIECE_LEN

-- these lines were taken, each with its end, and then a line without its end, which is not too long
pub record AreAllTaken (left left_after : Option (List ℕ)) (lines : List (List ℕ)) : Type 0 where
  pub bytes : List ℕ
  pub rest : List ℕ
  pub taken : left ≡ with_front bytes left_after
  pub first : AreFirst bytes lines rest
  pub is_open : IsLine rest

-- no line was too long; and then a last piece was taken, with which a line is. These are the lines
-- before it.
pub record IsCutAtLong (left left_after : Option (List ℕ)) (lines : List (List ℕ)) : Type 0 where
  pub bytes : List ℕ
  pub piece : List ℕ
  pub taken : left ≡ with_front (bytes ++ piece) left_after
  pub short : AreShort bytes
  pub few : length piece ≤ PIECE_LEN
  pub has_long : HasLong (bytes ++ piece) lines
