-- Names, bytes, texts, permissions and signatures in the words of a line (this project's own).
use Rattle.std.specs.Prelude.{◌≡◌, ◌≤◌, ℕ, List, [], ◌∷◌, ◌++◌, length, codes, Bool, false, not, nat_le, ◌&&◌, ◌==◌, IsTrue, Option, Some, None}
use Rattle.std.specs.List.{list_all}
use Rattle.bl_syntax.specs.declared.limits.TheConstants.{MOST_BYTES_AT_ONCE, LONGEST_SIGNATURE}
use Rattle.bl_syntax.specs.Names.{is_text, is_principal_name}
use Rattle.bl_syntax.specs.declared.terms.Perm.{Perm}
use Rattle.bl_text.specs.Printed.{permission_text}
use Rattle.line_text.specs.HexWord.{IsHex}

-- a visible byte of ASCII
abbrev pub is_word_byte : ℕ → Bool
is_word_byte byte = nat_le 33 byte && nat_le byte 126

-- whether the word can stand for the name of a node or of an attribute: 1 to 255 visible bytes, the
-- first of them no quote. It need be no name that a node can have
abbrev pub is_name_word : List ℕ → Bool
is_name_word [] = false
is_name_word (first ∷ others) = not (first == 34) && list_all is_word_byte (first ∷ others) && nat_le (length others) 254

-- the word stands for that name
pub record IsName (word name : List ℕ) : Type 0 where
  pub named : IsTrue (is_name_word word)
  pub same : name ≡ word

-- the word names that principal
pub record IsPrincipal (word who : List ℕ) : Type 0 where
  pub named : IsTrue (is_principal_name word)
  pub same : who ≡ word

-- bytes in hexadecimal, at most 65,536 of them
pub record IsData (word bytes : List ℕ) : Type 0 where
  pub hex : IsHex word bytes
  pub few : length bytes ≤ MOST_BYTES_AT_ONCE

-- a text constant between quotes
pub record IsQuoted (word text : List ℕ) : Type 0 where
  pub fits : IsTrue (is_text text)
  pub word_is : word ≡ 34 ∷ (text ++ 34 ∷ [])

-- a permission by its name
abbrev pub IsPermission : List ℕ → Perm → Type 0
IsPermission word permission = word ≡ permission_text permission

-- the bytes of a signature in hexadecimal, 1 to 32,768 of them
pub record IsSignature (word bytes : List ℕ) : Type 0 where
  pub hex : IsHex word bytes
  pub some : 1 ≤ length bytes
  pub few : length bytes ≤ LONGEST_SIGNATURE

-- the bytes of a signature in hexadecimal, at most 32,768 of them
pub record IsSignatureHex (word bytes : List ℕ) : Type 0 where
  pub hex : IsHex word bytes
  pub few : length bytes ≤ LONGEST_SIGNATURE

-- for a signature: a `-` for the ring's key, or the signature itself
pub data IsSigned : List ℕ → Option (List ℕ) → Type 0 where
  by_ring : IsSigned (codes "-") None
  by_bytes : (word bytes : List ℕ) → IsSignature word bytes → IsSigned word (Some bytes)
