-- What a connection that speaks 9P2000 knows beside its pass (this project's own): the nonce of its
-- greeting, who is logged in, the purse, whether a version is agreed, the greatest size of a
-- message, and the fids.
use Rattle.std.specs.Prelude.{◌≤◌, ℕ, List, [], length, Bool, false, nat_le, Option, None, is_some}
use Rattle.nine_messages.specs.declared.framing.TheConstants.{MOST_SIZE, LEAST_SIZE}
use Rattle.nine_fids.specs.declared.limits.TheConstants.{MOST_FIDS, MOST_PROCAPS}
use Rattle.nine_fids.specs.declared.connection.Connection.{Connection}
use Rattle.nine_fids.specs.declared.fid.Fid.{Fid}
use Rattle.nine_fids.specs.Fids.{fid_in, with_entry, without_entry, AreFids}

-- before the first request
abbrev pub begun_with : List ℕ → Connection
begun_with nonce = record { nonce = nonce; caller = None; purse = []; is_agreed = false; msize = MOST_SIZE; fids = [] }

-- what stands under the number, if anything does
abbrev pub fid_at : Connection → ℕ → Option Fid
fid_at s number = fid_in s.fids number

abbrev pub is_there : Connection → ℕ → Bool
is_there s number = is_some (fid_at s number)

-- there is no room for another fid
abbrev pub is_full : Connection → Bool
is_full s = nat_le MOST_FIDS (length s.fids)

-- this under the number, which may be new
abbrev pub with_fid : Connection → ℕ → Fid → Connection
with_fid s number fid = record s { fids = with_entry s.fids number fid }

abbrev pub without_fid : Connection → ℕ → Connection
without_fid s number = record s { fids = without_entry s.fids number }

-- what each state of a connection keeps
pub record IsWithin (s : Connection) : Type 0 where
  pub procaps : length s.purse ≤ MOST_PROCAPS
  pub numbers : AreFids s.fids
  pub least : LEAST_SIZE ≤ s.msize
  pub most : s.msize ≤ MOST_SIZE
