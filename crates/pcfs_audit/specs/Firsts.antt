-- The first place of each digest, by which an equal item is found without going over all (this
-- project's own; nothing but speed depends on it).
use Rattle.std.specs.Prelude.{◌≡◌, ◌≤◌, ◌<◌, ℕ, List, Option, Some, map}
use Rattle.std.specs.BTreeMap.{is_at}
use Rattle.std.specs.List.{slice_get}
use Rattle.std.specs.Map.{lookup}
use Rattle.std.specs.Ordering.{nat_cmp}
use Rattle.bl_syntax.specs.Grant.{GrantView}
use Rattle.procap.specs.Genuine.{seal_of}
use Rattle.issue_standings.specs.Index.{front_of}

-- the place that is entered for a digest
abbrev pub first_of : List (ℕ × ℕ) → ℕ → Option ℕ
first_of entries digest = lookup (is_at (nat_cmp digest)) entries

-- a place is entered for the digest, which is not after this one
pub record HasFirst (entries : List (ℕ × ℕ)) (digest place : ℕ) : Type 0 where
  pub first : ℕ
  pub entered : first_of entries digest ≡ Some first
  pub not_after : first ≤ place

-- for each of the digests a place is entered that is not after its own
abbrev pub AreFirsts : List ℕ → List (ℕ × ℕ) → Type 0
AreFirsts digests entries = (place digest : ℕ) → slice_get digests place ≡ Some digest →
    HasFirst entries digest place

-- all places that are entered are below this one
abbrev pub AreBelow : List (ℕ × ℕ) → ℕ → Type 0
AreBelow entries end = (digest first : ℕ) → first_of entries digest ≡ Some first → first < end

-- the digest of a grant: of its tag under a key
abbrev pub grant_digest : List ℕ → GrantView → ℕ
grant_digest key g = front_of (seal_of key g)

-- the digests of grants, in order
abbrev pub grant_digests : List ℕ → List GrantView → List ℕ
grant_digests key grants = map (grant_digest key) grants
