-- Why a request is refused, and the order in which it is tested (this project's own).
use Rattle.std.specs.Prelude.{ℕ, List, [], ◌∷◌, codes, Bool, if◌then◌else◌, Option, Some, None}
use Rattle.nine_fids.specs.declared.error.NineError.{NineError}
use Rattle.nine_fids.specs.declared.error.NineError.TheVariants.{NotServed, LowSize, VersionFirst, NoFid, FidInUse, TooManyFids, NoSuchTree, TooManyNames, IsOpen, IsDirectory, OtherMode, NotOpen, NoControl, PurseFull, NotLoggedIn, NoProcap}

-- tests, each with its error
abbrev pub Tests : Type 0
Tests = List (Bool × NineError)

-- the error of the first test that holds
abbrev pub first_holding : Tests → Option NineError
first_holding [] = None
first_holding (test ∷ tests) = if test.0 then Some test.1 else first_holding tests

abbrev pub error_text : NineError → List ℕ
error_text NotServed = codes "not served"
error_text LowSize = codes "msize"
error_text VersionFirst = codes "version first"
error_text NoFid = codes "no fid"
error_text FidInUse = codes "fid in use"
error_text TooManyFids = codes "too many fids"
error_text NoSuchTree = codes "no such tree"
error_text TooManyNames = codes "too many names"
error_text IsOpen = codes "open"
error_text IsDirectory = codes "directory"
error_text OtherMode = codes "mode"
error_text NotOpen = codes "not open"
error_text NoControl = codes "control"
error_text PurseFull = codes "purse full"
error_text NotLoggedIn = codes "rejected 4"
error_text NoProcap = codes "no procap"

-- the place of an error in the one order
abbrev pub place_of : NineError → ℕ
place_of NotServed = 0
place_of LowSize = 1
place_of VersionFirst = 2
place_of NoFid = 3
place_of FidInUse = 4
place_of TooManyFids = 5
place_of NoSuchTree = 6
place_of TooManyNames = 7
place_of IsOpen = 8
place_of IsDirectory = 9
place_of OtherMode = 10
place_of NotOpen = 11
place_of NoControl = 12
place_of PurseFull = 13
place_of NotLoggedIn = 14
place_of NoProcap = 15
