-- How a walk ends (this project's own): if all its names were found, the new fid stands for what
-- the last led to; else no fid is made, and the fid of the walk stays as it was.
use Rattle.std.specs.Prelude.{◌-◌, ℕ, List, length, slice_get, ◌==◌, if◌then◌else◌, Option, Some, None}
use Rattle.nine_fids.specs.declared.fid.FidFile.{FidFile}
use Rattle.nine_fids.specs.declared.connection.Connection.{Connection}
use Rattle.nine_fids.specs.Files.{closed}
use Rattle.nine_fids.specs.States.{with_fid}

-- the file that was found last
abbrev pub last_of : List FidFile → Option FidFile
last_of found = slice_get found (length found - 1)

abbrev pub standing_for : Connection → ℕ → Option FidFile → Connection
standing_for s newfid None = s
standing_for s newfid (Some file) = with_fid s newfid (closed file)

-- the state after a walk of so many names that found these files
abbrev pub walked : Connection → ℕ → ℕ → List FidFile → Connection
walked s newfid names found = if length found == names then standing_for s newfid (last_of found) else s
