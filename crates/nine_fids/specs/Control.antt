-- The lines of the control file (this project's own): the login of a session, a procap for the
-- purse, and an end to all that are in it.
use Rattle.std.specs.Prelude.{◌≡◌, ◌⊎◌, ◌-◌, ℕ, List, [], ◌∷◌, ◌++◌, length, take, drop, Bool, if◌then◌else◌, codes, Option, Some, None}
use Rattle.std.specs.Str.{bytes_eq}
use Rattle.line_words.specs.Grammar.{IsPrincipal, IsSignatureHex}
use Rattle.line_words.specs.Procaps.{IsProcapHex}
use Rattle.nine_fids.specs.declared.control.Control.{Control}
use Rattle.nine_fids.specs.declared.control.Control.TheVariants.{Login, Brings, Empties}

-- a principal and a signature in hexadecimal, which one space parts; no principal's name has a space
pub record AreLoginWords (words who signature : List ℕ) : Type 0 where
  pub name : List ℕ
  pub word : List ℕ
  pub words_are : words ≡ name ++ (codes " " ++ word)
  pub names : IsPrincipal name who
  pub signs : IsSignatureHex word signature

-- what a line asks, in one of three forms
abbrev pub IsControlLine : List ℕ → Control → Type 0
IsControlLine line (Login who signature) = (words : List ℕ) × (line ≡ codes "login " ++ words) ×
    AreLoginWords words who signature
IsControlLine line (Brings p) = (word : List ℕ) × (line ≡ codes "procap " ++ word) × IsProcapHex word p
IsControlLine line Empties = line ≡ codes "drop"

-- the byte that ends a line stands last
abbrev pub has_end : List ℕ → Bool
has_end bytes = bytes_eq (drop (length bytes - 1) bytes) (10 ∷ [])

-- the bytes without a line end that stands last
abbrev pub line_in : List ℕ → List ℕ
line_in bytes = if has_end bytes then take (length bytes - 1) bytes else bytes

-- a line that begins as one which brings a signature or a procap
abbrev pub BeginsToBring : List ℕ → Type 0
BeginsToBring line = ((words : List ℕ) × (line ≡ codes "login " ++ words)) ⊎ ((word : List ℕ) × (line ≡ codes "procap " ++ word))

-- what bytes that are written to the control file ask: one of the forms, with or without a line
-- end, or nothing
abbrev pub IsAskedOf : List ℕ → Option Control → Type 0
IsAskedOf bytes None = (c : Control) → IsControlLine (line_in bytes) c → ⊥
IsAskedOf bytes (Some c) = IsControlLine (line_in bytes) c
