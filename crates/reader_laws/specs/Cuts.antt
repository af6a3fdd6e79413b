-- What readers say of bytes that are cut short, and of bytes that are left over. This project's
-- own.
use Rattle.std.specs.Prelude.{◌≡◌, ℕ, List, ◌∷◌, ◌++◌, length, Result, Err}
use Rattle.bl_syntax.specs.declared.codec_fault.CodecFault.{CodecFault}
use Rattle.bl_syntax.specs.declared.codec_fault.CodecFault.TheVariants.{Short, NotCanonical}
use Rattle.access_history.specs.Base.{BaseView}
use Rattle.checkpoint.specs.Reading.{IsImageOf, ReadsImage}

-- The bytes of a spelling without its last ones, at least one, are refused with this fault.
abbrev pub AreCutsRefused : {A B F : Type 0} → F → (A → Type 0) → (A → List ℕ) →
    (List ℕ → Result B F) → Type 0
AreCutsRefused {A} short IsSpelled spelling read = (x : A) (front : List ℕ) (byte : ℕ) (rest : List ℕ) →
    IsSpelled x → spelling x ≡ front ++ byte ∷ rest → read front ≡ Err short

-- If bytes stand after a spelling, the first of them is refused.
abbrev pub IsLeftOverRefused : {A B : Type 0} → (A → Type 0) → (A → List ℕ) →
    (List ℕ → Result B CodecFault) → Type 0
IsLeftOverRefused {A} IsSpelled spelling read = (x : A) (byte : ℕ) (rest : List ℕ) → IsSpelled x →
    read (spelling x ++ byte ∷ rest) ≡ Err (NotCanonical (length (spelling x)))

-- The image of a state without its last bytes, at least one, is Short.
abbrev pub AreCutImagesShort : Type 0
AreCutImagesShort = (base : BaseView) (front : List ℕ) (byte : ℕ) (rest : List ℕ) →
    IsImageOf base (front ++ byte ∷ rest) → ReadsImage front (Err Short)
