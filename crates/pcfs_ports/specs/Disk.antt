-- A disk: what its calls do to the bytes that a read gives, and what a crash may leave of them.
-- This project's own model.
use Rattle.std.specs.Prelude.{◌≡◌, ◌⊎◌, ℕ, ◌+◌, ◌-◌, ◌≤◌, min, List, ◌++◌, length, take, drop, replicate, Option, Some}

-- The image after a write: the piece stands at its place, a gap between the old end and this place
-- holds zero bytes,
-- and all else stays.
abbrev pub written : ℕ → List ℕ → List ℕ → List ℕ
written at piece image =
    take at image ++ replicate (at - length image) 0 ++ piece ++ drop (at + length piece) image

-- The same, if a gap holds this byte.
abbrev pub written_after_gap : ℕ → ℕ → List ℕ → List ℕ → List ℕ
written_after_gap gap at piece image =
    take at image ++ replicate (at - length image) gap ++ piece ++ drop (at + length piece) image

-- A write of a piece that is not synced yet: a crash may leave any bytes in the written range and
-- past the old end, and
-- leaves the others as they were. A range of exactly one byte holds the byte that stood there, none
-- if none stood, or
-- the new one.
pub record Torn (at : ℕ) (piece old new : List ℕ) : Type 0 where
  pub below : take (min at (length old)) new ≡ take at old
  pub above : drop (at + length piece) new ≡ drop (at + length piece) old
  pub no_shorter : length old ≤ length new
  pub single : length piece ≡ 1 → (take 1 (drop at new) ≡ take 1 (drop at old)) ⊎
      (take 1 (drop at new) ≡ piece)

-- one of these outcomes, torn by a write
abbrev pub TornFrom : ℕ → List ℕ → (List ℕ → Type 0) → List ℕ → Type 0
TornFrom at piece outcomes bytes = (before : List ℕ) × outcomes before × Torn at piece before bytes

-- Below, `left_since d t bytes` says that a crash at some moment since t may have left these bytes
-- of the disk d, and
-- `clock d` is the present moment of d.
module _ {D : Type 0} (clock : D → ℕ) (left_since : D → ℕ → List ℕ → Type 0) where
  -- a crash at this moment may leave these bytes
  abbrev pub LeftNow : D → List ℕ → Type 0
  LeftNow disk bytes = left_since disk (clock disk) bytes

  -- Time went on from old to new: whatever a crash may have left before counts still, and beside it
  -- only what a crash
  -- may leave now.
  pub record Elapses (old new : D) : Type 0 where
    pub later : clock old ≤ clock new
    pub kept : (t : ℕ) (bytes : List ℕ) → t ≤ clock old → left_since old t bytes →
        left_since new t bytes
    pub since : (t : ℕ) (bytes : List ℕ) → t ≤ clock old → left_since new t bytes →
        left_since old t bytes ⊎ left_since new (clock new) bytes

  -- Time went on, and at no moment of it may a crash have left what it could not have left before.
  pub record Idles (old new : D) : Type 0 where
    pub later : clock old ≤ clock new
    pub kept : (t : ℕ) (bytes : List ℕ) → t ≤ clock old → left_since old t bytes →
        left_since new t bytes
    pub no_more : (t : ℕ) (bytes : List ℕ) → t ≤ clock old → left_since new t bytes →
        left_since old t bytes

  -- Nothing is pending: a crash now leaves what a read gives.
  abbrev pub IsPinned : (D → Option (List ℕ)) → D → Type 0
  IsPinned image disk = (bytes : List ℕ) → left_since disk (clock disk) bytes →
      image disk ≡ Some bytes

  -- A crash at any moment from old to new leaves only bytes with P.
  pub record LeavesOnly (old new : D) (P : List ℕ → Type 0) : Type 0 where
    pub later : clock old ≤ clock new
    pub each : (bytes : List ℕ) → left_since new (clock old) bytes → P bytes
    -- for whoever began to watch earlier
    pub since : (t : ℕ) (bytes : List ℕ) → t ≤ clock old → left_since new t bytes →
        left_since old t bytes ⊎ P bytes

-- a read at this place filled the front of a buffer with as many bytes as fit and are there
pub record ReadsAt (at : ℕ) (image : List ℕ) (count : ℕ) (buffer : List ℕ) : Type 0 where
  pub whole : count ≡ min (length buffer) (length image - at)
  pub bytes : take count buffer ≡ take count (drop at image)
