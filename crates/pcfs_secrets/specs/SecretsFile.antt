-- A secrets file: the key of the seal in its first line, and names with their keys or roots in the
-- others, in order (this project's own).
use Rattle.std.specs.Prelude.{◌≡◌, ◌+◌, ℕ, List, [], ◌∷◌, Result, Ok, Err}
use Rattle.line_text.specs.Lines.{lines_of}
use Rattle.pcfs_secrets.specs.declared.secrets.Secrets.{Secrets}
use Rattle.pcfs_secrets.specs.declared.fault.SecretFault.{SecretFault}
use Rattle.pcfs_secrets.specs.declared.fault.SecretFault.TheVariants.{BadLine, NoMemory}
use Rattle.policy_statement.specs.Ring.{KeyView}
use Rattle.pcfs_secrets.specs.SecretLines.{IsSealLine, GiveKeys, IsBadAt}

-- the lines are those of a secrets file, with these secrets
abbrev pub IsSecrets : List (List ℕ) → Secrets → Type 0
IsSecrets [] secrets = ⊥
IsSecrets (line ∷ lines) secrets = IsSealLine line secrets.seal_key × GiveKeys [] lines secrets.ring

-- the line of this number, from 1, is the first bad one; if there is no line it is the first
pub data IsFirstBad : List (List ℕ) → ℕ → Type 0 where
  no_line : IsFirstBad [] 1
  no_seal : (line : List ℕ) (lines : List (List ℕ)) → ((key : List ℕ) → IsSealLine line key → ⊥) →
      IsFirstBad (line ∷ lines) 1
  no_key : (line key : List ℕ) (lines : List (List ℕ)) (place : ℕ) → IsSealLine line key →
      IsBadAt [] lines place → IsFirstBad (line ∷ lines) (place + 2)

-- why not all of these lines gave their keys, where the first of them is line 2
abbrev pub IsFaultOfKeys : List KeyView → List (List ℕ) → SecretFault → Type 0
IsFaultOfKeys ring lines (BadLine number) = (place : ℕ) × IsBadAt ring lines place ×
    (number ≡ place + 2)
IsFaultOfKeys ring lines NoMemory = Unit {0}

-- what a reading of the lines answers
abbrev pub ReadsLines : List (List ℕ) → Result Secrets SecretFault → Type 0
ReadsLines lines (Ok secrets) = IsSecrets lines secrets
ReadsLines lines (Err (BadLine number)) = IsFirstBad lines number
ReadsLines lines (Err NoMemory) = Unit {0}

-- what a reading of the text answers
abbrev pub ReadsSecrets : List ℕ → Result Secrets SecretFault → Type 0
ReadsSecrets text result = ReadsLines (lines_of text) result
