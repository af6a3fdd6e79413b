-- The lines of a secrets file (this project's own).
use Rattle.std.specs.Prelude.{◌≡◌, ◌≤◌, ℕ, ◌+◌, zero, suc, List, [], ◌∷◌, ◌++◌, length, codes, IsTrue}
use Rattle.bl_syntax.specs.declared.limits.TheConstants.{HIGHEST_TREE, MOST_KEY_BYTES}
use Rattle.bl_syntax.specs.Names.{is_principal_name}
use Rattle.line_text.specs.HexWord.{IsHex}
use Rattle.policy_statement.specs.Ring.{Credential, keyed, rooted, KeyView, IsKnown}

-- the word writes a key in hexadecimal, which is not too long
pub record IsKeyWord (word key : List ℕ) : Type 0 where
  pub hex : IsHex word key
  pub short : length key ≤ MOST_KEY_BYTES

-- a line with the key of the seal
pub data IsSealLine : List ℕ → List ℕ → Type 0 where
  seal_line : (word key : List ℕ) → IsKeyWord word key → IsSealLine (codes "seal " ++ word) key

-- the word writes the height of a tree, one digit, and after a space its root in hexadecimal
pub record IsRootWord (word : List ℕ) (height : ℕ) (root : List ℕ) : Type 0 where
  pub digits : List ℕ
  pub word_is : word ≡ (48 + height) ∷ 32 ∷ digits
  pub low : height ≤ HIGHEST_TREE
  pub hex : IsHex digits root
  pub whole : length root ≡ 32

-- the literal with which the line of a key or of a root begins
abbrev pub literal_of : Credential → List ℕ
literal_of (keyed key) = codes "key "
literal_of (rooted height root) = codes "root "

-- the word writes this key, or this root
abbrev pub IsCredentialWord : List ℕ → Credential → Type 0
IsCredentialWord word (keyed key) = IsKeyWord word key
IsCredentialWord word (rooted height root) = IsRootWord word height root

-- a line with a name and its key or its root
pub data IsKeyLine : List ℕ → KeyView → Type 0 where
  key_line : (who word : List ℕ) (holds : Credential) → IsTrue (is_principal_name who) →
      IsCredentialWord word holds →
      IsKeyLine (literal_of holds ++ (who ++ 32 ∷ word)) (record { who = who; holds = holds })

-- the line gives this key or root to a name that has none in the ring
pub record GivesKey (ring : List KeyView) (line : List ℕ) (k : KeyView) : Type 0 where
  pub line_is : IsKeyLine line k
  pub unknown : IsKnown ring k.who → ⊥

-- the word writes this key or root, and the name may have it: it is a principal's, and has none in
-- the ring
pub record MayHave (ring : List KeyView) (name word : List ℕ) (holds : Credential) : Type 0 where
  pub named : IsTrue (is_principal_name name)
  pub holds_is : IsCredentialWord word holds
  pub unknown : IsKnown ring name → ⊥

-- each line gives a key or a root to a name that has none, in the ring or by a line before it
abbrev pub GiveKeys : List KeyView → List (List ℕ) → List KeyView → Type 0
GiveKeys ring [] after = ring ≡ after
GiveKeys ring (line ∷ lines) after = (k : KeyView) × GivesKey ring line k ×
    GiveKeys (ring ++ k ∷ []) lines after

-- the line at this place, from 0, is the first that gives no key and no root to a name that has
-- none
abbrev pub IsBadAt : List KeyView → List (List ℕ) → ℕ → Type 0
IsBadAt ring [] place = ⊥
IsBadAt ring (line ∷ lines) zero = (k : KeyView) → GivesKey ring line k → ⊥
IsBadAt ring (line ∷ lines) (suc place) = (k : KeyView) × GivesKey ring line k ×
    IsBadAt (ring ++ k ∷ []) lines place
