-- What is written of an input that asks for signatures by the leaves of a tree of hashes, and the
-- status (this project's own).
use Rattle.std.specs.Prelude.{◌≡◌, ◌<◌, ℕ, ◌+◌, ◌^◌, List, [], ◌∷◌, ◌++◌, codes, Bool, true, Option}
use Rattle.std.specs.Fmt.{decimal}
use Rattle.bl_syntax.specs.Statement.{StatementView}
use Rattle.line_faults.specs.LongLines.{HasLongLine}
use Rattle.line_faults.specs.Reports.{bad_line_text}
use Rattle.line_forms.specs.declared.fault.LineFault.{LineFault}
use Rattle.line_forms.specs.declared.fault.LineFault.TheVariants.{BadWord}
use Rattle.line_text.specs.HexWord.{hex_word}
use Rattle.line_text.specs.Lines.{lines_of}
use Rattle.merkle_sig.specs.HashTree.{root_of}
use Rattle.merkle_sig.specs.Signature.{signature_of}
use Rattle.pcfs_ports.specs.declared.streams.TheConstants.{INPUT_LIMIT}
use Rattle.pcfs_ports.specs.Faults.{raise}
use Rattle.pcfs_ports.specs.Observable.{ReadsToEnd, TakesFirst}
use Rattle.policy_statement.specs.Messages.{statement_message}
use Rattle.root_signing.specs.SigningLines.{IsSeedFault, IsSeedLine, IsStatementFault, SaysStatement}

-- ---- the lines that are written, each with its end

abbrev pub root_line : List ℕ → ℕ → List ℕ
root_line seed height = codes "root " ++ (hex_word (root_of seed height) ++ 10 ∷ [])

-- the line that registers the statement of this text, by a leaf
abbrev pub register_line : List ℕ → ℕ → ℕ → List ℕ → StatementView → List ℕ
register_line seed height leaf text s = codes "register " ++ (hex_word (signature_of seed height leaf (statement_message s)) ++ 32 ∷ (text ++ 10 ∷ []))

abbrev pub fault_line : ℕ → LineFault → List ℕ
fault_line number fault = bad_line_text number fault ++ 10 ∷ []

-- the line that tells that all leaves of a tree of this height are spent
abbrev pub spent_line : ℕ → List ℕ
spent_line height = codes "leaves " ++ (decimal (2 ^ height) ++ 10 ∷ [])

-- ---- what a text comes to

-- the line of this number decides how it ends: it is wrong, or it says a statement for which no
-- leaf is left
pub data Decides (height leaf number : ℕ) (line : List ℕ) : ℕ → List ℕ → Type 0 where
  wrong : (fault : LineFault) → IsStatementFault line fault →
      Decides height leaf number line 12 (fault_line number fault)
  spent : (text : List ℕ) (s : StatementView) → SaysStatement line text s → leaf ≡ 2 ^ height →
      Decides height leaf number line 18 (spent_line height)

-- the lines, the first of which has this number, are signed one after the other by the leaves from
-- this one on, up to the first line that decides otherwise
pub data SignsLines (seed : List ℕ) (height : ℕ) : ℕ → ℕ → List (List ℕ) → ℕ → List ℕ → Type 0 where
  all_signed : (leaf number : ℕ) → SignsLines seed height leaf number [] 0 []
  signed : (leaf number : ℕ) (line : List ℕ) (lines : List (List ℕ)) (text : List ℕ) (s : StatementView) (status : ℕ) (written : List ℕ) →
      SaysStatement line text s → leaf < 2 ^ height →
      SignsLines seed height (leaf + 1) (number + 1) lines status written →
      SignsLines seed height leaf number (line ∷ lines) status (register_line seed height leaf text s ++ written)
  decided : (leaf number : ℕ) (line : List ℕ) (lines : List (List ℕ)) (status : ℕ) (written : List ℕ) →
      Decides height leaf number line status written →
      SignsLines seed height leaf number (line ∷ lines) status written

-- the lines come to this status and these bytes: the first gives the seed, whose root is written,
-- and the others are signed; or it is wrong, or there is none
pub data ComesTo (height from : ℕ) : List (List ℕ) → ℕ → List ℕ → Type 0 where
  no_line : ComesTo height from [] 12 (fault_line 1 (BadWord 0))
  no_seed : (line : List ℕ) (lines : List (List ℕ)) (fault : LineFault) → IsSeedFault line fault →
      ComesTo height from (line ∷ lines) 12 (fault_line 1 fault)
  has_seed : (line : List ℕ) (lines : List (List ℕ)) (seed : List ℕ) (status : ℕ) (written : List ℕ) → IsSeedLine line seed →
      SignsLines seed height from 2 lines status written →
      ComesTo height from (line ∷ lines) status (root_line seed height ++ written)

-- The status that an input ends with whose statements are signed from a leaf on by a tree of this
-- height, and what has to be written. A line that is too
-- long comes before all else, wherever it stands. At a fault of the input one call of it failed, and
-- it was the last; at each other end none did. `left` and `faults` are what the input has left and
-- the count of its faults, and `broken` says whether its last call failed.
pub data SigningEnds (height from : ℕ) (left left_after : Option (List ℕ)) (faults faults_after : ℕ) (broken : Bool) : ℕ → List ℕ → Type 0 where
  answered : (bytes : List ℕ) (status : ℕ) (written : List ℕ) → ReadsToEnd left left_after bytes →
      (HasLongLine (lines_of bytes) → ⊥) →
      ComesTo height from (lines_of bytes) status written → faults_after ≡ faults →
      SigningEnds height from left left_after faults faults_after broken status written
  long_line : (bytes : List ℕ) → ReadsToEnd left left_after bytes → HasLongLine (lines_of bytes) →
      faults_after ≡ faults → SigningEnds height from left left_after faults faults_after broken 2 (codes "bad 3\n")
  read_fault : faults_after ≡ raise faults → broken ≡ true →
      SigningEnds height from left left_after faults faults_after broken 6 (codes "readfault\n")
  too_long : TakesFirst INPUT_LIMIT left left_after → faults_after ≡ faults →
      SigningEnds height from left left_after faults faults_after broken 13 (codes "toolong\n")
