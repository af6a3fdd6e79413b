-- What a fid stands for, and how it is open (this project's own; the kinds of qids are those of
-- 9P2000).
use Rattle.std.specs.Prelude.{ℕ, Bool, true, false, ◌==◌, if◌then◌else◌, Option, Some, None}
use Rattle.nine_messages.specs.declared.reply.Qid.{Qid}
use Rattle.nine_fids.specs.declared.fid.FidFile.{FidFile}
use Rattle.nine_fids.specs.declared.fid.FidFile.TheVariants.{Control, Node}
use Rattle.nine_fids.specs.declared.fid.OpenMode.{OpenMode}
use Rattle.nine_fids.specs.declared.fid.OpenMode.TheVariants.{Reading, Writing, Both}
use Rattle.nine_fids.specs.declared.fid.Fid.{Fid}

abbrev pub is_control_file : FidFile → Bool
is_control_file Control = true
is_control_file (Node number is_directory) = false

abbrev pub is_directory_file : FidFile → Bool
is_directory_file Control = false
is_directory_file (Node number is_directory) = is_directory

-- which file it is to a client
abbrev pub qid_of : FidFile → Qid
qid_of Control = record { kind = 0; version = 0; path = 0 }
qid_of (Node number is_directory) = record { kind = if is_directory then 128 else 0; version = 0; path = number.0 }

-- a fid that stands for the file and is not open
abbrev pub closed : FidFile → Fid
closed file = record { file = file; mode = None }

abbrev pub may_read : Option OpenMode → Bool
may_read None = false
may_read (Some Reading) = true
may_read (Some Writing) = false
may_read (Some Both) = true

abbrev pub may_write : Option OpenMode → Bool
may_write None = false
may_write (Some Reading) = false
may_write (Some Writing) = true
may_write (Some Both) = true

-- how a Topen with this mode opens
abbrev pub mode_of : ℕ → OpenMode
mode_of mode = if mode == 0 then Reading else if mode == 1 then Writing else Both
