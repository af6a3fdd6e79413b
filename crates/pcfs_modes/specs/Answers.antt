-- What the table of modes in an input comes to: the status that a run of it ends with, and what it
-- writes (this project's own).
use Rattle.std.specs.Prelude.{◌≡◌, ◌≤◌, ◌<◌, ℕ, List, length, codes, pos, Bool, true, Option}
use Rattle.bl_syntax.specs.declared.limits.TheConstants.{MOST_STATEMENTS}
use Rattle.bl_syntax.specs.declared.terms.TimePoint.{TimePoint}
use Rattle.bl_syntax.specs.declared.terms.TimePoint.TheVariants.{At}
use Rattle.line_text.specs.Lines.{lines_of}
use Rattle.mode_policy.specs.declared.fault.ModeFault.TheVariants.{BadLine, Twice, TooMany}
use Rattle.mode_policy.specs.Lines.{AreOfTable, IsBad, IsFirst, IsTwice}
use Rattle.mode_policy.specs.Statements.{statements_of}
use Rattle.mode_policy.specs.Table.{TableView}
use Rattle.pcfs_ports.specs.declared.streams.TheConstants.{INPUT_LIMIT}
use Rattle.pcfs_ports.specs.Faults.{raise}
use Rattle.pcfs_ports.specs.Observable.{ReadsToEnd, TakesFirst}
use Rattle.pcfs_modes.specs.ModesText.{fault_line, register_lines}

-- the table has at most 4,096 statements from one time to another, and a line for each is written;
-- or it has more
pub data StatesTable (from to : TimePoint) (t : TableView) : ℕ → List ℕ → Type 0 where
  stated : length (statements_of t from to) ≤ MOST_STATEMENTS →
      StatesTable from to t 0 (register_lines (statements_of t from to))
  too_many : MOST_STATEMENTS < length (statements_of t from to) → StatesTable from to t 15 (fault_line TooMany)

-- the lines are those of a table, which comes to this; or one of them is the first that is wrong
pub data ComesTo (from to : TimePoint) (lines : List (List ℕ)) : ℕ → List ℕ → Type 0 where
  of_table : (t : TableView) (status : ℕ) (written : List ℕ) → AreOfTable lines t →
      StatesTable from to t status written →
      ComesTo from to lines status written
  bad_line : (number : ℕ) → IsFirst IsBad lines number →
      ComesTo from to lines 15 (fault_line (BadLine number))
  twice : (number : ℕ) → IsFirst IsTwice lines number →
      ComesTo from to lines 15 (fault_line (Twice number))

-- The status that the table in an input ends with, whose statements hold from one second to
-- another, and what has to be written, with the ends of its lines. At a fault of the input one call
-- of it failed, and it was the last; at each other end none did. `left` and `faults` are what the
-- input has left and the count of its faults, and `broken` says whether its last call failed.
pub data ModesEnds (from to : ℕ) (left left_after : Option (List ℕ)) (faults faults_after : ℕ) (broken : Bool) : ℕ → List ℕ → Type 0 where
  answered : (bytes : List ℕ) (status : ℕ) (written : List ℕ) → ReadsToEnd left left_after bytes →
      ComesTo (At (pos from)) (At (pos to)) (lines_of bytes) status written →
      faults_after ≡ faults → ModesEnds from to left left_after faults faults_after broken status written
  read_fault : faults_after ≡ raise faults → broken ≡ true →
      ModesEnds from to left left_after faults faults_after broken 6 (codes "readfault\n")
  too_long : TakesFirst INPUT_LIMIT left left_after → faults_after ≡ faults →
      ModesEnds from to left left_after faults faults_after broken 13 (codes "toolong\n")
