-- The procaps that the words of a line bring (this project's own).
use Rattle.std.specs.Prelude.{ℕ, List, [], ◌∷◌}
use Rattle.bl_syntax.specs.FirstFailing.{IsFirstFailing}
use Rattle.procap.specs.declared.procap.Procap.{Procap}
use Rattle.access_history.specs.declared.event.Issue.{Issue}
use Rattle.access_history.specs.Authority.{procap_of}
use Rattle.access_history.specs.Numbered.{IsNumbered}
use Rattle.line_words.specs.declared.procap_word.ProcapWord.{ProcapWord}
use Rattle.line_words.specs.declared.procap_word.ProcapWord.TheVariants as words

-- the procap that a word brings: its own, or the one of the issue that it names
pub data BringsProcap (key : List ℕ) (issues : List Issue) : ProcapWord → Procap → Type 0 where
  held : (p : Procap) → BringsProcap key issues (words.Procap p) p
  issued : (number : ℕ) (issue : Issue) → IsNumbered issues number issue →
      BringsProcap key issues (words.Issue number) (procap_of key issue.grant)

-- each word brings its procap
abbrev pub AreBrought : List ℕ → List Issue → List ProcapWord → List Procap → Type 0
AreBrought key issues [] [] = Unit {0}
AreBrought key issues [] (p ∷ procaps) = ⊥
AreBrought key issues (word ∷ words) [] = ⊥
AreBrought key issues (word ∷ words) (p ∷ procaps) = BringsProcap key issues word p ×
    AreBrought key issues words procaps

-- if the word names an issue, it is there
abbrev pub NamesIssue : List Issue → ProcapWord → Type 0
NamesIssue issues (words.Procap p) = Unit {0}
NamesIssue issues (words.Issue number) = (issue : Issue) × IsNumbered issues number issue

-- it is the number of the first word that names an issue which is not there
pub record IsFirstUnissued (issues : List Issue) (given : List ProcapWord) (number : ℕ) : Type 0 where
  pub place : ℕ
  pub first : IsFirstFailing (NamesIssue issues) given place (words.Issue number)
