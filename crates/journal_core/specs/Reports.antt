-- What the parts of a scan report of the bytes of an area. This project's own.
use Rattle.std.specs.Prelude.{◌≡◌, ℕ, ◌+◌, ◌<◌, ◌≤◌, List, [], length, drop, get_or}
use Rattle.std.specs.List.{between}
use Rattle.journal_core.specs.Area.{area_limit, area_bytes, record_bytes, records, Begins, IsGeneration}

-- header and image of this generation end here
pub record BaseEndsAt (bytes : List ℕ) (generation end : ℕ) : Type 0 where
  pub generated : IsGeneration generation
  pub low : 24 ≤ end
  pub high : end < area_limit
  pub within : end ≤ length bytes
  pub front : Begins (area_bytes generation (between 24 end bytes) []) bytes

-- a record that begins here ends there
pub record RecordEndsAt (bytes : List ℕ) (gate end : ℕ) : Type 0 where
  pub low : gate + 5 ≤ end
  pub high : end < area_limit
  pub within : end ≤ length bytes
  pub front : Begins (record_bytes (between (gate + 5) end bytes)) (drop gate bytes)

-- no record that is whole and leaves room for a closed gate begins here
abbrev pub NoRecordAt : List ℕ → ℕ → Type 0
NoRecordAt bytes gate =
    (payload : List ℕ) → gate + 5 + length payload < area_limit →
    Begins (record_bytes payload) (drop gate bytes) → ⊥

-- these are the payloads of the records from a place on, which end there
pub record RecordsEndAt (bytes : List ℕ) (from : ℕ) (payloads : List (List ℕ)) (end : ℕ) : Type 0 where
  pub front : Begins (records payloads) (drop from bytes)
  pub is : end ≡ from + length (records payloads)
  pub high : end < area_limit
  pub within : end ≤ length bytes

-- After this many records from a place on, an open gate stands before no record.
pub record BreaksAt (bytes : List ℕ) (from count : ℕ) : Type 0 where
  pub payloads : List (List ℕ)
  pub end : ℕ
  pub counted : length payloads ≡ count
  pub ends : RecordsEndAt bytes from payloads end
  pub is_open : get_or bytes end 0 ≡ 1
  pub none : NoRecordAt bytes end
