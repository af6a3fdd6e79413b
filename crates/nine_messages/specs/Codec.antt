-- What joins the one spelling of a kind of value with its reading (this project's own).
use Rattle.std.specs.Prelude.{◌≡◌, ◌<◌, ℕ, List, ◌++◌, slice_index, Option, Some, None}

-- each number is a byte
abbrev pub AreBytes : List ℕ → Type 0
AreBytes bytes = (index : ℕ) → slice_index bytes index < 256

-- What fills the bytes is the value that they spell: what is read is spelled so; what is spelled so
-- is read; two values have two spellings, and no spelling begins another.
pub record IsCodec {A : Type 0} (IsSpelled : A → Type 0) (spelling : A → List ℕ) (of : List ℕ → Option A) : Type 0 where
  pub found : (bytes : List ℕ) (x : A) → AreBytes bytes → of bytes ≡ Some x →
      IsSpelled x × (bytes ≡ spelling x)
  pub again : (x : A) → IsSpelled x → of (spelling x) ≡ Some x
  pub apart : (x y : A) (rest others : List ℕ) → IsSpelled x → IsSpelled y →
      spelling x ++ rest ≡ spelling y ++ others → (x ≡ y) × (rest ≡ others)
  pub refused : (bytes : List ℕ) → AreBytes bytes → of bytes ≡ None → (x : A) → IsSpelled x →
      bytes ≡ spelling x → ⊥
