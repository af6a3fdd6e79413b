-- The tests that a request meets before it is served, in their order, each with its error (the
-- order is this project's own).
use Rattle.std.specs.Prelude.{◌≡◌, ℕ, List, [], ◌∷◌, length, codes, Bool, true, false, not, ◌&&◌, ◌||◌, ◌==◌, nat_le, nat_lt, is_some, is_none, Option, Some, None}
use Rattle.std.specs.Str.{bytes_eq}
use Rattle.bl_syntax.specs.declared.terms.NodeId.{NodeId}
use Rattle.bl_syntax.specs.declared.terms.Perm.{Perm}
use Rattle.bl_syntax.specs.declared.terms.Perm.TheVariants as perms
use Rattle.procap.specs.declared.procap.Procap.{Procap}
use Rattle.nine_messages.specs.declared.framing.TheConstants.{LEAST_SIZE}
use Rattle.nine_messages.specs.Requests.{RequestView, tversion, tattach, tflush, twalk, topen, tread, twrite, tclunk, tother}
use Rattle.nine_fids.specs.declared.limits.TheConstants.{MOST_PROCAPS, MOST_NAMES, NO_FID, LAST_MODE}
use Rattle.nine_fids.specs.declared.error.NineError.TheVariants.{NotServed, LowSize, VersionFirst, NoFid, FidInUse, TooManyFids, NoSuchTree, TooManyNames, IsOpen, IsDirectory, OtherMode, NotOpen, NoControl, PurseFull, NotLoggedIn, NoProcap}
use Rattle.nine_fids.specs.declared.fid.FidFile.{FidFile}
use Rattle.nine_fids.specs.declared.fid.FidFile.TheVariants as files
use Rattle.nine_fids.specs.declared.fid.Fid.{Fid}
use Rattle.nine_fids.specs.declared.control.Control.{Control}
use Rattle.nine_fids.specs.declared.control.Control.TheVariants as controls
use Rattle.nine_fids.specs.declared.connection.Connection.{Connection}
use Rattle.nine_fids.specs.Control.{IsAskedOf}
use Rattle.nine_fids.specs.Errors.{Tests}
use Rattle.nine_fids.specs.Files.{is_control_file, is_directory_file, may_read, may_write}
use Rattle.nine_fids.specs.Purse.{fitting}
use Rattle.nine_fids.specs.States.{fid_at, is_there, is_full}

-- ---- what a fid is

-- the test holds of what stands under the number; false if nothing does
abbrev pub holds_of : (Fid → Bool) → Option Fid → Bool
holds_of test None = false
holds_of test (Some fid) = test fid

abbrev pub is_at_control : Option Fid → Bool
is_at_control fid = holds_of (λ f. is_control_file f.file) fid

abbrev pub is_open : Option Fid → Bool
is_open fid = holds_of (λ f. is_some f.mode) fid

abbrev pub is_at_directory : Option Fid → Bool
is_at_directory fid = holds_of (λ f. is_directory_file f.file) fid

abbrev pub is_readable : Option Fid → Bool
is_readable fid = holds_of (λ f. may_read f.mode) fid

abbrev pub is_writable : Option Fid → Bool
is_writable fid = holds_of (λ f. may_write f.mode) fid

-- ---- operations on nodes

-- the first procap of the purse for who is logged in, the file and the permission
abbrev pub fitting_of : Connection → Option (List ℕ) → NodeId → Perm → Option Procap
fitting_of s None node permission = None
fitting_of s (Some who) node permission = fitting s.purse who node permission

-- an operation on the file is one of a node, and nobody is logged in
abbrev pub lacks_login : Connection → FidFile → Bool
lacks_login s files.Control = false
lacks_login s (files.Node node is_directory) = is_none s.caller

-- an operation on the file is one of a node, and no procap is for it
abbrev pub lacks_procap : Connection → Perm → FidFile → Bool
lacks_procap s permission files.Control = false
lacks_procap s permission (files.Node node is_directory) = is_none (fitting_of s s.caller node permission)

abbrev pub is_without_login : Connection → Option Fid → Bool
is_without_login s fid = holds_of (λ f. lacks_login s f.file) fid

abbrev pub is_without_procap : Connection → Perm → Option Fid → Bool
is_without_procap s permission fid = holds_of (λ f. lacks_procap s permission f.file) fid

-- ---- lines of the control file

-- the bytes ask it if they are written to the control file
abbrev pub IsAskedIf : Bool → List ℕ → Option Control → Type 0
IsAskedIf true bytes asked = IsAskedOf bytes asked
IsAskedIf false bytes asked = asked ≡ None

-- what is written to the fid is a line of the control file: a version is agreed, and the fid stands
-- for that file, open for writing
abbrev pub takes_lines : Bool → Option Fid → Bool
takes_lines agreed fid = agreed && (is_at_control fid && is_writable fid)

-- what a write asks of the control file, if it writes a line of it; else nothing
abbrev pub IsAskedAt : Bool → Option Fid → List ℕ → Option Control → Type 0
IsAskedAt agreed fid bytes asked = IsAskedIf (takes_lines agreed fid) bytes asked

-- what a request asks of the control file; any but a write asks nothing
abbrev pub IsAskedBy : Connection → RequestView → Option Control → Type 0
IsAskedBy s (tversion msize version) asked = asked ≡ None
IsAskedBy s (tattach fid afid uname aname) asked = asked ≡ None
IsAskedBy s (tflush oldtag) asked = asked ≡ None
IsAskedBy s (twalk fid newfid names) asked = asked ≡ None
IsAskedBy s (topen fid mode) asked = asked ≡ None
IsAskedBy s (tread fid offset count) asked = asked ≡ None
IsAskedBy s (twrite fid offset bytes) asked = IsAskedAt s.is_agreed (fid_at s fid) bytes asked
IsAskedBy s (tclunk fid) asked = asked ≡ None
IsAskedBy s (tother kind body) asked = asked ≡ None

abbrev pub brings_procap : Option Control → Bool
brings_procap None = false
brings_procap (Some (controls.Login who signature)) = false
brings_procap (Some (controls.Brings p)) = true
brings_procap (Some controls.Empties) = false

-- ---- each kind of request

abbrev pub version_tests : ℕ → Tests
version_tests msize = (nat_lt msize LEAST_SIZE, LowSize) ∷ []

abbrev pub is_tree_name : List ℕ → Bool
is_tree_name aname = bytes_eq aname [] || bytes_eq aname (codes "ctl")

abbrev pub attach_tests : Connection → ℕ → ℕ → List ℕ → Tests
attach_tests s fid afid aname =
    (not (afid == NO_FID), NotServed)
    ∷ (not s.is_agreed, VersionFirst)
    ∷ (is_there s fid, FidInUse)
    ∷ (is_full s, TooManyFids)
    ∷ (not (is_tree_name aname), NoSuchTree) ∷ []

abbrev pub flush_tests : Connection → Tests
flush_tests s = (not s.is_agreed, VersionFirst) ∷ []

abbrev pub has_names : List (List ℕ) → Bool
has_names [] = false
has_names (name ∷ names) = true

-- a walk without names is no operation
abbrev pub walk_tests : Connection → ℕ → ℕ → List (List ℕ) → Tests
walk_tests s fid newfid names =
    (not s.is_agreed, VersionFirst)
    ∷ (not (is_there s fid), NoFid)
    ∷ (not (fid == newfid) && is_there s newfid, FidInUse)
    ∷ (not (fid == newfid) && is_full s, TooManyFids)
    ∷ (nat_lt MOST_NAMES (length names), TooManyNames)
    ∷ (is_open (fid_at s fid), IsOpen)
    ∷ (has_names names && is_at_control (fid_at s fid), NoControl)
    ∷ (has_names names && is_without_login s (fid_at s fid), NotLoggedIn)
    ∷ (has_names names && is_without_procap s perms.Execute (fid_at s fid), NoProcap) ∷ []

abbrev pub open_tests : Connection → ℕ → ℕ → Tests
open_tests s fid mode =
    (not s.is_agreed, VersionFirst)
    ∷ (not (is_there s fid), NoFid)
    ∷ (is_open (fid_at s fid), IsOpen)
    ∷ (is_at_directory (fid_at s fid), IsDirectory)
    ∷ (nat_lt LAST_MODE mode, OtherMode) ∷ []

abbrev pub read_tests : Connection → ℕ → Tests
read_tests s fid =
    (not s.is_agreed, VersionFirst)
    ∷ (not (is_there s fid), NoFid)
    ∷ (not (is_readable (fid_at s fid)), NotOpen)
    ∷ (is_without_login s (fid_at s fid), NotLoggedIn)
    ∷ (is_without_procap s perms.Read (fid_at s fid), NoProcap) ∷ []

abbrev pub write_tests : Connection → Option Control → ℕ → Tests
write_tests s asked fid =
    (not s.is_agreed, VersionFirst)
    ∷ (not (is_there s fid), NoFid)
    ∷ (not (is_writable (fid_at s fid)), NotOpen)
    ∷ (is_at_control (fid_at s fid) && is_none asked, NoControl)
    ∷ (brings_procap asked && nat_le MOST_PROCAPS (length s.purse), PurseFull)
    ∷ (is_without_login s (fid_at s fid), NotLoggedIn)
    ∷ (is_without_procap s perms.Write (fid_at s fid), NoProcap) ∷ []

abbrev pub clunk_tests : Connection → ℕ → Tests
clunk_tests s fid = (not s.is_agreed, VersionFirst) ∷ (not (is_there s fid), NoFid) ∷ []

-- what a request meets, given what it asks of the control file
unfoldable pub tests_of : Connection → Option Control → RequestView → Tests
tests_of s asked (tversion msize version) = version_tests msize
tests_of s asked (tattach fid afid uname aname) = attach_tests s fid afid aname
tests_of s asked (tflush oldtag) = flush_tests s
tests_of s asked (twalk fid newfid names) = walk_tests s fid newfid names
tests_of s asked (topen fid mode) = open_tests s fid mode
tests_of s asked (tread fid offset count) = read_tests s fid
tests_of s asked (twrite fid offset bytes) = write_tests s asked fid
tests_of s asked (tclunk fid) = clunk_tests s fid
tests_of s asked (tother kind body) = (true, NotServed) ∷ []
