-- What a scan finds in an area. This project's own.
use Rattle.std.specs.Prelude.{ℕ, List, map}
use Rattle.std.specs.List.{between}
use Rattle.journal_core.specs.declared.contents.Span.{Span}

pub record ScanView : Type 0 where
  pub generation : ℕ
  pub image : List ℕ
  pub payloads : List (List ℕ)

-- the bytes at a place
abbrev pub bytes_at : List ℕ → Span → List ℕ
bytes_at bytes place = between place.from place.to bytes

-- the bytes at each of some places
abbrev pub all_bytes_at : List ℕ → List Span → List (List ℕ)
all_bytes_at bytes places = map (bytes_at bytes) places
