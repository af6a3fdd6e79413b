-- Images of either version, which their first bytes tell apart.
use Rattle.std.proofs.Common.{◌≡◌, ℕ, ℤ, List, [], ◌∷◌, ◌++◌, true, false, Err, refl, arith}
use Rattle.std.specs.Int.{w64, byte_at, cast_unsigned}
use Rattle.std.proofs.lemmas.Bool.{ne_eqb}
use Rattle.std.proofs.lemmas.Int.{ints}
use Rattle.bl_syntax.specs.declared.codec_fault.CodecFault.TheVariants.{Short}
use Rattle.bl_syntax.specs.TimeOrder.{IsMoment}
use Rattle.access_history.specs.Base.{BaseView}
use Rattle.record_parts.specs.Fields.{moment_spelling, moment_field_at}
use Rattle.checkpoint_image.specs.ImageSpelling.{AreFieldsOf, head_spelling, fields_spelling, image_spelling}
use Rattle.checkpoint_image.specs.ImageReading.{head_at, parts_at, fields_at, image_at, is_versioned, stored_image_at}

-- a moment lies so near to 0 that its first byte is 0 or 255
first_byte : (moment : ℤ) → IsMoment moment → byte_at 7 (cast_unsigned w64 moment) ≡ 2 → ⊥
first_byte moment h e = omega (arith, ints, h.not_before, h.not_after, e)

-- an image of version 1 does not begin with the version
pub old_begins : (base : BaseView) (rest : List ℕ) → AreFieldsOf base → is_versioned (fields_spelling base ++ rest) ≡ false
unfolding fields_spelling head_spelling moment_spelling
old_begins base rest h = ne_eqb (byte_at 7 (cast_unsigned w64 base.moment)) 2 (first_byte base.moment h.spelled.moment)

-- and one of version 2 does
pub current_begins : (base : BaseView) (rest : List ℕ) → is_versioned (image_spelling base ++ rest) ≡ true
unfolding image_spelling
current_begins base rest = refl

pub stored_current : (input : ℕ) (bytes : List ℕ) → is_versioned bytes ≡ true → stored_image_at input bytes ≡ image_at input bytes
unfolding stored_image_at
stored_current input bytes is = rw is refl

pub stored_old : (input : ℕ) (bytes : List ℕ) → is_versioned bytes ≡ false → stored_image_at input bytes ≡ fields_at input bytes
unfolding stored_image_at
stored_old input bytes is = rw is refl

-- what is cut begins as before, or is nothing
pub cut_old : (front : List ℕ) (byte : ℕ) (rest : List ℕ) → is_versioned (front ++ byte ∷ rest) ≡ false → is_versioned front ≡ false
cut_old [] byte rest is = refl
cut_old (first ∷ front) byte rest is = is

-- nothing is the image of no state
pub nothing_is_short : (input : ℕ) → fields_at input [] ≡ Err Short
unfolding parts_at head_at moment_field_at
nothing_is_short input = refl
