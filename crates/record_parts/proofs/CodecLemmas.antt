-- A kind of value that is made of another one, or is another one under other words, is spelled and read like it.
use Rattle.std.proofs.Common.{◌≡◌, ℕ, suc, zero, ◌<◌, List, ◌∷◌, ◌++◌, Result, Ok, sym, ap, subst, ◌∙◌}
use Rattle.bl_syntax.specs.declared.codec_fault.CodecFault.{CodecFault}
use Rattle.bl_syntax.specs.Reading.{Reading, map_reading}
use Rattle.bl_syntax.specs.Codec.{AreBytes, IsCodec}
use Rattle.bl_syntax.proofs.CodecLemmas.{made_ok, made_memoryless, codec}

abbrev pub done : {A : Type 0} → A → Result A CodecFault
done x = Ok x

-- what f makes of a kind of value, if g gives back what it was made of; a value that has no spelling may come back as another one
pub remade_codec : {A B : Type 0} (IsSpelled : A → Type 0) (spelling : A → List ℕ) (at : ℕ → List ℕ → Reading A) (IsMade : B → Type 0) (made : B → List ℕ) (f : A → B) (g : B → A)
    → IsCodec IsSpelled spelling at → ((x : A) → IsSpelled x → IsMade (f x)) → ((y : B) → IsMade y → IsSpelled (g y)) → ((x : A) → made (f x) ≡ spelling x) → ((y : B) → IsMade y → f (g y) ≡ y)
    → IsCodec IsMade made (λ input bytes. map_reading f (at input bytes))
remade_codec {A} {B} IsSpelled spelling at IsMade made f g c there back same round =
    codec IsMade made (λ input bytes. map_reading f (at input bytes))
    (λ input bytes rest y fits e.
    let m = made_ok f (at input bytes) y rest e in
    let it = c.found input bytes rest m.0 fits m.1 in
    subst (λ (z : B). IsMade z × (bytes ≡ made z ++ rest)) m.2 (there m.0 it.0, it.1 ∙ ap (λ (front : List ℕ). front ++ rest) (sym (same m.0))))
    (λ input y rest h.
    let spelled : made y ≡ spelling (g y) = ap made (sym (round y h)) ∙ same (g y) in
    ap (λ (front : List ℕ). map_reading f (at input (front ++ rest))) spelled ∙ ap (map_reading f) (c.again input (g y) rest (back y h)) ∙ ap (λ (z : B). done (z, rest)) (round y h))
    (λ input bytes e. made_memoryless f (at input bytes) (c.memoryless input bytes) e)

-- the same, where every value comes back
pub made_codec : {A B : Type 0} (IsSpelled : A → Type 0) (spelling : A → List ℕ) (at : ℕ → List ℕ → Reading A) (IsMade : B → Type 0) (made : B → List ℕ) (f : A → B) (g : B → A)
    → IsCodec IsSpelled spelling at → ((x : A) → IsSpelled x → IsMade (f x)) → ((y : B) → IsMade y → IsSpelled (g y)) → ((x : A) → made (f x) ≡ spelling x) → ((y : B) → f (g y) ≡ y)
    → IsCodec IsMade made (λ input bytes. map_reading f (at input bytes))
made_codec IsSpelled spelling at IsMade made f g c there back same round = remade_codec IsSpelled spelling at IsMade made f g c there back same (λ y h. round y)

-- the same under other words
pub same_codec : {A : Type 0} (IsSpelled : A → Type 0) (spelling : A → List ℕ) (at : ℕ → List ℕ → Reading A) (IsOther : A → Type 0) (other : A → List ℕ) (by : ℕ → List ℕ → Reading A)
    → IsCodec IsSpelled spelling at → ((x : A) → IsSpelled x → IsOther x) → ((x : A) → IsOther x → IsSpelled x) → ((x : A) → other x ≡ spelling x) → ((input : ℕ) (bytes : List ℕ) → by input bytes ≡ at input bytes)
    → IsCodec IsOther other by
same_codec IsSpelled spelling at IsOther other by c there back same read =
    codec IsOther other by
    (λ input bytes rest x fits e.
    let it = c.found input bytes rest x fits (sym (read input bytes) ∙ e) in
    (there x it.0, it.1 ∙ ap (λ (front : List ℕ). front ++ rest) (sym (same x))))
    (λ input x rest h. ap (λ (front : List ℕ). by input (front ++ rest)) (same x) ∙ read input (spelling x ++ rest) ∙ c.again input x rest (back x h))
    (λ input bytes e. c.memoryless input bytes (sym (read input bytes) ∙ e))

-- a byte before bytes
pub AreBytes-more : (byte : ℕ) (bytes : List ℕ) → byte < 256 → AreBytes bytes → AreBytes (byte ∷ bytes)
AreBytes-more byte bytes low fits zero = low
AreBytes-more byte bytes low fits (suc i) = fits i
