-- An area on a disk, as callers see it. This project's own.
use Rattle.std.specs.Prelude.{ℕ}

pub record AreaView (D : Type 0) : Type 0 where
  pub disk : D
  -- where its closed gate stands
  pub end : ℕ
