-- A word that writes no root gives none.
use Rattle.std.proofs.Common.{ℕ, List, refl}
use Rattle.pcfs_secrets.specs.SecretLines.{IsRootWord}
use Rattle.pcfs_secrets.proofs.lines.give_root.Goals as goal

pub returns-in-None : goal.returns-in-None
returns-in-None c =
    let none : (height : ℕ) (root : List ℕ) → IsRootWord c.args.word.now height root → ⊥ = rw c.in-None.is at c.in_ok-found.ensures in
    (λ height root may. none height root may.holds_is, refl)
