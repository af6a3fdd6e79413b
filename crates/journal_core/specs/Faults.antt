-- What the faults of a scan say of the bytes. This project's own.
use Rattle.std.specs.Prelude.{◌≡◌, ℕ, ◌+◌, List}
use Rattle.journal_core.specs.Area.{IsShut, HasNoBase, IsBroken}
use Rattle.journal_core.specs.Reports.{BreaksAt}
use Rattle.journal_core.specs.declared.scan.ScanFault.{ScanFault}
use Rattle.journal_core.specs.declared.scan.ScanFault.TheVariants.{Closed, Broken, Disk, NoMemory}

-- a fault of the records from a place on, or out of memory
abbrev pub BrokeAt : ScanFault → List ℕ → ℕ → Type 0
BrokeAt Closed bytes from = ⊥
BrokeAt (Broken number) bytes from = (count : ℕ) × (number ≡ count + 1) × BreaksAt bytes from count
BrokeAt Disk bytes from = ⊥
BrokeAt NoMemory bytes from = Unit {0}

-- a fault of an area's bytes, or out of memory
abbrev pub IsReported : ScanFault → List ℕ → Type 0
IsReported Closed bytes = IsShut bytes
IsReported (Broken number) bytes = IsBroken number bytes
IsReported Disk bytes = ⊥
IsReported NoMemory bytes = Unit {0}

-- a fault of the front of an area's bytes, which has header and image, or out of memory
abbrev pub IsFrontReported : ScanFault → List ℕ → Type 0
IsFrontReported Closed bytes = IsShut bytes
IsFrontReported (Broken number) bytes = (number ≡ 0) × HasNoBase bytes
IsFrontReported Disk bytes = ⊥
IsFrontReported NoMemory bytes = Unit {0}
