-- What is known of the procaps while they are added, one word after the other.
use Rattle.std.specs.Prelude.{◌≡◌, ◌++◌, ℕ, List, Option, Some, None}
use Rattle.procap.specs.declared.procap.Procap.{Procap as Sealed}
use Rattle.access_history.specs.declared.event.Issue.{Issue}
use Rattle.access_history.specs.Numbered.{IsNumbered}
use Rattle.line_words.specs.declared.procap_word.ProcapWord.{ProcapWord}
use Rattle.line_words.specs.declared.procap_word.ProcapWord.TheVariants as words
use Rattle.pcfs_session.specs.declared.brought.BroughtProcap.{BroughtProcap}
use Rattle.pcfs_session.specs.declared.brought.BroughtProcap.TheVariants.{Procap, Unissued}
use Rattle.pcfs_session.specs.Procaps.{BringsProcap, AreBrought, IsFirstUnissued}

-- a word brings this procap, or names an issue which is not there
abbrev pub IsBroughtBy : List ℕ → List Issue → ProcapWord → BroughtProcap → Type 0
IsBroughtBy key issues word (Procap p) = BringsProcap key issues word p
IsBroughtBy key issues word (Unissued number) = (word ≡ words.Issue number) ×
    ((issue : Issue) → IsNumbered issues number issue → ⊥)

-- the procaps that the words bring were added to those before, or this is the first issue that is
-- not there
abbrev pub AreProcapsAdded : List ℕ → List Issue → List ProcapWord → List Sealed → List Sealed →
    Option ℕ → Type 0
AreProcapsAdded key issues words before after None = (added : List Sealed) ×
    AreBrought key issues words added × (after ≡ before ++ added)
AreProcapsAdded key issues words before after (Some number) = IsFirstUnissued issues words number
