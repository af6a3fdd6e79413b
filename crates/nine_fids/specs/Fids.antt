-- Fids by rising numbers (this project's own).
use Rattle.std.specs.Prelude.{◌≤◌, ◌<◌, ◌⊎◌, ℕ, List, length, nat_eq, Option, IsSome}
use Rattle.std.specs.List.Sorted.{IsStrictlySortedBy}
use Rattle.std.specs.Map.{lookup, remove_entry, keys_of}
use Rattle.std.specs.BTreeMap.{insert_entry}
use Rattle.std.specs.Ordering.{nat_cmp}
use Rattle.nine_fids.specs.declared.limits.TheConstants.{MOST_FIDS}
use Rattle.nine_fids.specs.declared.fid.Fid.{Fid}

abbrev pub FidList : Type 0
FidList = List (ℕ × Fid)

-- the fid of that number
abbrev pub fid_in : FidList → ℕ → Option Fid
fid_in fids number = lookup (nat_eq number) fids

-- with this fid under the number, which may be new
abbrev pub with_entry : FidList → ℕ → Fid → FidList
with_entry fids number fid = insert_entry nat_cmp fids number fid

abbrev pub without_entry : FidList → ℕ → FidList
without_entry fids number = remove_entry (nat_eq number) fids

-- the numbers rise, and there are not too many
pub record AreFids (fids : FidList) : Type 0 where
  pub rising : IsStrictlySortedBy nat_cmp (keys_of fids)
  pub few : length fids ≤ MOST_FIDS

-- the number is there, or there is room for another fid
abbrev pub HasRoomFor : FidList → ℕ → Type 0
HasRoomFor fids number = IsSome (fid_in fids number) ⊎ (length fids < MOST_FIDS)
