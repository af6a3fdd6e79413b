-- What the bytes of a disk in memory are seen as. This project's own.
use Rattle.std.specs.Prelude.{ℕ, List}

pub record ImageView : Type 0 where
  -- the bytes that it began with
  pub start : List ℕ
  -- what a read gives
  pub now : List ℕ

-- nothing was written
abbrev pub unwritten : List ℕ → ImageView
unwritten bytes = record { start = bytes; now = bytes }
