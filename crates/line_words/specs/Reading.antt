-- Words of given kinds, one after another in a line, and the first that is not of its kind (this
-- project's own).
use Rattle.std.specs.Prelude.{◌≡◌, ◌-◌, ℕ, List, [], ◌∷◌, length, Option, Some, None}
use Rattle.line_words.specs.Cutting.{first_cut}
use Rattle.line_words.specs.Kinds.{Sets, IsOutside}
use Rattle.line_words.specs.declared.kinds.WordKind.{WordKind}
use Rattle.line_words.specs.declared.arguments.Arguments.{Arguments}
use Rattle.line_words.specs.declared.fault.WordFault.{WordFault}
use Rattle.line_words.specs.declared.fault.WordFault.TheVariants.{Bad, NoMemory}

-- what stands after as many words as there are kinds; nothing if there are fewer
abbrev pub after_words : List WordKind → List ℕ → Option (List ℕ)
after_words [] behind = Some behind
after_words (kind ∷ kinds) [] = None
after_words (kind ∷ kinds) (space ∷ line) = after_words kinds (first_cut line).behind

-- words of these kinds come next, each after a space, and set their fields; the rest stands after
-- them
abbrev pub AreWords : List WordKind → List ℕ → Arguments → Arguments → List ℕ → Type 0
AreWords [] behind before after rest = (after ≡ before) × (rest ≡ behind)
AreWords (kind ∷ kinds) [] before after rest = ⊥
AreWords (kind ∷ kinds) (space ∷ line) before after rest =
    (between : Arguments) × Sets kind (first_cut line).word before between ×
    AreWords kinds (first_cut line).behind between after rest

-- the first word that is not of its kind stands at this place of a line of that length, or words
-- are missing at its end
pub data IsBadWord (whole : ℕ) : List WordKind → List ℕ → ℕ → Type 0 where
  missing : (kind : WordKind) (kinds : List WordKind) → IsBadWord whole (kind ∷ kinds) [] whole
  outside : (kind : WordKind) (kinds : List WordKind) (space : ℕ) (line : List ℕ) →
      IsOutside kind (first_cut line).word →
      IsBadWord whole (kind ∷ kinds) (space ∷ line) (whole - length line)
  later : (kind : WordKind) (kinds : List WordKind) (space : ℕ) (line : List ℕ) (place : ℕ) (before after : Arguments) →
      Sets kind (first_cut line).word before after →
      IsBadWord whole kinds (first_cut line).behind place →
      IsBadWord whole (kind ∷ kinds) (space ∷ line) place

-- why words were not read
abbrev pub AreUnread : ℕ → List WordKind → List ℕ → WordFault → Type 0
AreUnread whole kinds behind (Bad place) = IsBadWord whole kinds behind place
AreUnread whole kinds behind NoMemory = Unit {0}
