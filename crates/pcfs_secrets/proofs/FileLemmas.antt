-- A secrets file is the line of the seal, and lines that give keys.
use Rattle.std.proofs.Common.{◌≡◌, ℕ, List, [], ◌∷◌, Result, Ok, Err, sym, subst}
use Rattle.std.specs.Prelude.{IfOk, IfErr}
use Rattle.line_text.specs.Lines.{lines_of}
use Rattle.pcfs_secrets.specs.declared.secrets.Secrets.{Secrets}
use Rattle.pcfs_secrets.specs.declared.fault.SecretFault.{SecretFault}
use Rattle.pcfs_secrets.specs.declared.fault.SecretFault.TheVariants.{BadLine, NoMemory}
use Rattle.pcfs_secrets.specs.SecretLines.{IsSealLine, GiveKeys}
use Rattle.pcfs_secrets.specs.SecretsFile.{IsFirstBad, no_line, no_key, IsFaultOfKeys, ReadsLines}

pub reads_lines : (line key : List ℕ) (lines : List (List ℕ)) (result : Result Secrets SecretFault) → IsSealLine line key
    → IfOk result (λ secrets. (secrets.seal_key ≡ key) × GiveKeys [] lines secrets.ring) → IfErr result (IsFaultOfKeys [] lines) → ReadsLines (line ∷ lines) result
reads_lines line key lines (Ok secrets) seal ok err = (subst (IsSealLine line) (sym ok.0) seal, ok.1)
reads_lines line key lines (Err (BadLine number)) seal ok err = subst (IsFirstBad (line ∷ lines)) (sym err.2) (no_key line key lines err.0 seal err.1)
reads_lines line key lines (Err NoMemory) seal ok err = tt

pub nothing_is_bad : (text : List ℕ) → text ≡ [] → IsFirstBad (lines_of text) 1
nothing_is_bad text nothing = subst (λ t. IsFirstBad (lines_of t) 1) (sym nothing) no_line
