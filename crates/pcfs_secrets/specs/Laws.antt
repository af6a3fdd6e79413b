-- Laws of secrets files.
use Rattle.std.specs.Prelude.{◌≡◌, ◌⊎◌, ℕ, List}
use Rattle.pcfs_secrets.specs.declared.secrets.Secrets.{Secrets}
use Rattle.pcfs_secrets.specs.SecretsFile.{IsSecrets, IsFirstBad}

-- the lines of a secrets file hold these secrets and no others
abbrev pub HasOneReading : Type 0
HasOneReading = (lines : List (List ℕ)) (a b : Secrets) → IsSecrets lines a → IsSecrets lines b →
    a ≡ b

-- no two lines are the first bad one
abbrev pub HasOneFirstBad : Type 0
HasOneFirstBad = (lines : List (List ℕ)) (m n : ℕ) → IsFirstBad lines m → IsFirstBad lines n → m ≡ n

-- no line of a secrets file is a first bad one
abbrev pub IsNeverBoth : Type 0
IsNeverBoth = (lines : List (List ℕ)) (secrets : Secrets) (number : ℕ) → IsSecrets lines secrets →
    IsFirstBad lines number → ⊥

-- lines are those of a secrets file, or one of them is the first bad one
abbrev pub IsOneOrTheOther : Type 0
IsOneOrTheOther = (lines : List (List ℕ)) → ((secrets : Secrets) × IsSecrets lines secrets) ⊎
    ((number : ℕ) × IsFirstBad lines number)
