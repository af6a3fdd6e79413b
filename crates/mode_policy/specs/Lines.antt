-- The lines of a table of modes, and the first line that is wrong (this project's own).
use Rattle.std.specs.Prelude.{◌≡◌, ◌<◌, ◌+◌, ℕ, zero, suc, List, [], ◌∷◌, ◌++◌, codes, IsTrue}
use Rattle.bl_syntax.specs.Names.{is_principal_name}
use Rattle.line_words.specs.Numbers.{IsFile}
use Rattle.mode_policy.specs.declared.modes.Modes.{Modes}
use Rattle.mode_policy.specs.declared.entry.Membership.{Membership}
use Rattle.mode_policy.specs.declared.entry.FileModes.{FileModes}
use Rattle.mode_policy.specs.declared.entry.Entry.{Entry}
use Rattle.mode_policy.specs.declared.entry.Entry.TheVariants.{Who, Member, File}
use Rattle.mode_policy.specs.Table.{TableView, IsOfKnown, IsRepeated, with_entry, no_table}

-- three octal digits: for the owner, the group and the others
pub record IsModesWord (word : List ℕ) (modes : Modes) : Type 0 where
  pub word_is : word ≡ (48 + modes.owner) ∷ (48 + modes.group) ∷ (48 + modes.other) ∷ []
  pub owner_digit : modes.owner < 8
  pub group_digit : modes.group < 8
  pub other_digit : modes.other < 8

-- `who K`
pub record IsWhoLine (line who : List ℕ) : Type 0 where
  pub named : IsTrue (is_principal_name who)
  pub line_is : line ≡ codes "who " ++ who

-- `member K GROUP`, with one space between two words, as in all lines
pub record IsMemberLine (line : List ℕ) (m : Membership) : Type 0 where
  pub who_named : IsTrue (is_principal_name m.who)
  pub group_named : IsTrue (is_principal_name m.group)
  pub line_is : line ≡ codes "member " ++ (m.who ++ 32 ∷ m.group)

-- `mode #N OWNER GROUP BITS`
pub record IsModeLine (line : List ℕ) (f : FileModes) : Type 0 where
  pub word : List ℕ
  pub bits : List ℕ
  pub node_is : IsFile word f.node
  pub owner_named : IsTrue (is_principal_name f.owner)
  pub group_named : IsTrue (is_principal_name f.group)
  pub modes_are : IsModesWord bits f.modes
  pub line_is : line ≡ codes "mode " ++ (word ++ 32 ∷ (f.owner ++ 32 ∷ (f.group ++ 32 ∷ bits)))

-- the line is one of these three
abbrev pub IsEntryLine : List ℕ → Entry → Type 0
IsEntryLine line (Who who) = IsWhoLine line who
IsEntryLine line (Member m) = IsMemberLine line m
IsEntryLine line (File f) = IsModeLine line f

-- the line says this, of a principal that the table has, if of any
pub record Says (t : TableView) (line : List ℕ) (e : Entry) : Type 0 where
  pub is_line : IsEntryLine line e
  pub of_known : IsOfKnown t e

-- the line says what the table does not have
pub record Adds (t : TableView) (line : List ℕ) (e : Entry) : Type 0 where
  pub says : Says t line e
  pub is_new : IsRepeated t e → ⊥

-- the line says nothing
abbrev pub IsBad : TableView → List ℕ → Type 0
IsBad t line = (e : Entry) → Says t line e → ⊥

-- the line says what the table has
pub record IsTwice (t : TableView) (line : List ℕ) : Type 0 where
  pub entry : Entry
  pub says : Says t line entry
  pub repeated : IsRepeated t entry

-- each line adds to the table, and then it is the second one
abbrev pub AddUpTo : TableView → List (List ℕ) → TableView → Type 0
AddUpTo t [] after = t ≡ after
AddUpTo t (line ∷ lines) after = (e : Entry) × Adds t line e × AddUpTo (with_entry t e) lines after

-- the lines before this place, from 0, add to the table, and the one there is so
abbrev pub IsFirstAt : (TableView → List ℕ → Type 0) → TableView → List (List ℕ) → ℕ → Type 0
IsFirstAt IsSo t [] place = ⊥
IsFirstAt IsSo t (line ∷ lines) zero = IsSo t line
IsFirstAt IsSo t (line ∷ lines) (suc place) = (e : Entry) × Adds t line e ×
    IsFirstAt IsSo (with_entry t e) lines place

-- the line of this number, from 1, is the first that adds nothing, and is so
abbrev pub IsFirst : (TableView → List ℕ → Type 0) → List (List ℕ) → ℕ → Type 0
IsFirst IsSo lines number = (place : ℕ) × IsFirstAt IsSo no_table lines place × (number ≡ place + 1)

-- the lines are those of this table
abbrev pub AreOfTable : List (List ℕ) → TableView → Type 0
AreOfTable lines t = AddUpTo no_table lines t
