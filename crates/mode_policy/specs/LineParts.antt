-- The words of a line of a table after the first (this project's own).
use Rattle.std.specs.Prelude.{◌≡◌, ◌∷◌, ◌++◌, ℕ, List, codes, IsTrue}
use Rattle.bl_syntax.specs.Names.{is_principal_name}
use Rattle.bl_syntax.specs.declared.terms.NodeId.{NodeId}
use Rattle.mode_policy.specs.declared.entry.Entry.{Entry}
use Rattle.mode_policy.specs.declared.entry.FileModes.{FileModes}
use Rattle.mode_policy.specs.declared.modes.Modes.{Modes}
use Rattle.mode_policy.specs.Lines.{IsModesWord, IsEntryLine}

-- the words are two names
pub record AreNames (words first second : List ℕ) : Type 0 where
  pub words_are : words ≡ first ++ 32 ∷ second
  pub first_named : IsTrue (is_principal_name first)
  pub second_named : IsTrue (is_principal_name second)

-- the words are an owner, a group and modes
pub record AreOwned (words owner group : List ℕ) (modes : Modes) : Type 0 where
  pub bits : List ℕ
  pub words_are : words ≡ owner ++ 32 ∷ (group ++ 32 ∷ bits)
  pub owner_named : IsTrue (is_principal_name owner)
  pub group_named : IsTrue (is_principal_name group)
  pub modes_are : IsModesWord bits modes

-- the words are those of a file of that number
abbrev pub IsOwnedFile : List ℕ → NodeId → FileModes → Type 0
IsOwnedFile words node f = AreOwned words f.owner f.group f.modes × (f.node ≡ node)

-- the words are of no file
abbrev pub IsNoneOwned : List ℕ → Type 0
IsNoneOwned words = (owner group : List ℕ) (modes : Modes) → AreOwned words owner group modes → ⊥

-- the line of a file whose number is the word
abbrev pub IsFileLine : List ℕ → List ℕ → Entry → Type 0
IsFileLine word words e = IsEntryLine (codes "mode " ++ (word ++ 32 ∷ words)) e
