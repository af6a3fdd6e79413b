-- For which requests memory may run out before a turn (this project's own): after all tests of one
-- that reads or writes a node; and if a line of the control file is written, after the tests before
-- that of the line, if it begins as one that brings a signature or a procap.
use Rattle.std.specs.Prelude.{◌≡◌, ℕ, List, true, Option}
use Rattle.nine_messages.specs.Requests.{RequestView, tversion, tattach, tflush, twalk, topen, tread, twrite, tclunk, tother}
use Rattle.nine_fids.specs.declared.control.Control.{Control}
use Rattle.nine_fids.specs.declared.connection.Connection.{Connection}
use Rattle.nine_fids.specs.declared.step.Step.{Step}
use Rattle.nine_fids.specs.declared.step.Step.TheVariants as steps
use Rattle.nine_fids.specs.Control.{BeginsToBring, line_in}
use Rattle.nine_fids.specs.States.{fid_at}
use Rattle.nine_fids.specs.Steps.{decided}
use Rattle.nine_fids.specs.Tests.{IsAskedBy, is_readable, is_writable, takes_lines}

-- a node is read or written
abbrev pub IsOperation : Step → Type 0
IsOperation (steps.Refused error) = ⊥
IsOperation (steps.Answered answer) = ⊥
IsOperation (steps.Login who signature) = ⊥
IsOperation (steps.Read node p offset len) = Unit {0}
IsOperation (steps.Write node p offset) = Unit {0}
IsOperation (steps.Walk node) = ⊥

pub data MayLackMemory (s : Connection) (m : RequestView) : Type 0 where
  -- no test holds, and a node is to be read or written
  for_an_operation : (asked : Option Control) → IsAskedBy s m asked → IsOperation (decided s asked m).0 →
      MayLackMemory s m
  -- a signature or a procap is read
  for_a_line : (fid offset : ℕ) (bytes : List ℕ) → m ≡ twrite fid offset bytes →
      takes_lines s.is_agreed (fid_at s fid) ≡ true → BeginsToBring (line_in bytes) →
      MayLackMemory s m

-- a version is agreed, and the fid is open in the direction of the request, which reads or writes
abbrev pub IsOpenFor : Connection → RequestView → Type 0
IsOpenFor s (tversion msize version) = ⊥
IsOpenFor s (tattach fid afid uname aname) = ⊥
IsOpenFor s (tflush oldtag) = ⊥
IsOpenFor s (twalk fid newfid names) = ⊥
IsOpenFor s (topen fid mode) = ⊥
IsOpenFor s (tread fid offset count) = (s.is_agreed ≡ true) × (is_readable (fid_at s fid) ≡ true)
IsOpenFor s (twrite fid offset bytes) = (s.is_agreed ≡ true) × (is_writable (fid_at s fid) ≡ true)
IsOpenFor s (tclunk fid) = ⊥
IsOpenFor s (tother kind body) = ⊥

-- so it never runs out for another request, nor before a version is agreed, nor for a fid that is
-- not there or is not open
abbrev pub MemoryComesAfterTests : Type 0
MemoryComesAfterTests = (s : Connection) (m : RequestView) → MayLackMemory s m → IsOpenFor s m
