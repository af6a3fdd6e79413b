-- Bytes have one reading, and it is the state of which they are the image, if they are one.
use Rattle.std.proofs.Common.{◌≡◌, ◌-◌, ℕ, List, [], ◌∷◌, ◌++◌, length, arith, Bool, true, false, Result, Ok, Err, ◌⊎◌, inl, inr, refl, sym, ap, ◌∙◌, subst}
use Rattle.std.specs.Prelude.{IfOk}
use Rattle.std.proofs.lemmas.List.{append-nil, length-append}
use Rattle.bl_syntax.specs.declared.codec_fault.CodecFault.{CodecFault}
use Rattle.bl_syntax.specs.declared.codec_fault.CodecFault.TheVariants.{Short, BadTag, NotCanonical, TooLarge, NoMemory}
use Rattle.bl_syntax.specs.Reading.{Reading, place}
use Rattle.bl_syntax.proofs.CodecLemmas.{ok_is}
use Rattle.bl_syntax.specs.Codec.{AreBytes, ReportsFault}
use Rattle.file_world.specs.World.{IsWorld}
use Rattle.access_history.specs.Base.{BaseView}
use Rattle.checkpoint_image.specs.ImageSpelling.{fields_spelling, image_spelling}
use Rattle.checkpoint_image.specs.ImageReading.{is_versioned, stored_image_at}
use Rattle.checkpoint_image.proofs.ImageLemmas.{fields_codec, image_codec}
use Rattle.checkpoint_image.proofs.StoredLemmas.{current_begins, old_begins, stored_current, stored_old}
use Rattle.checkpoint.specs.Reading.{IsSpelledAs, current, old, IsImageOf, ReadsState, ReadsImage, field, no_world, left_over, whole, MakesState, GivesState}

-- ---- one reading

-- what is reported of a state that is followed by the rest of these bytes
abbrev pub ending : List ℕ → BaseView → List ℕ → Result BaseView CodecFault
ending bytes base [] = Ok base
ending bytes base (byte ∷ rest) = Err (NotCanonical (place (length bytes) (byte ∷ rest)))

-- what is reported of the fields that were read
abbrev Outcome : List ℕ → Reading BaseView → Result BaseView CodecFault → Type 0
Outcome bytes (Err fault) result = result ≡ Err fault
Outcome bytes (Ok read) result = (IsWorld read.0.world × (result ≡ ending bytes read.0 read.1)) ⊎ ((IsWorld read.0.world → ⊥) × (result ≡ Err (NotCanonical 0)))

outcome : (at : ℕ → List ℕ → Reading BaseView) (bytes : List ℕ) (result : Result BaseView CodecFault) → ReadsState at bytes result → Outcome bytes (at (length bytes) bytes) result
outcome at bytes _ (field fault e) = subst (λ (read : Reading BaseView). Outcome bytes read (Err fault)) (sym e) refl
outcome at bytes _ (no_world base rest e not) = subst (λ (read : Reading BaseView). Outcome bytes read (Err (NotCanonical 0))) (sym e) (inr (not, refl))
outcome at bytes _ (left_over base byte rest e is) = subst (λ (read : Reading BaseView). Outcome bytes read (Err (NotCanonical (place (length bytes) (byte ∷ rest))))) (sym e) (inl (is, refl))
outcome at bytes _ (whole base e is) = subst (λ (read : Reading BaseView). Outcome bytes read (Ok base)) (sym e) (inl (is, refl))

one_outcome : (bytes : List ℕ) (read : Reading BaseView) (one other : Result BaseView CodecFault) → Outcome bytes read one → Outcome bytes read other → one ≡ other
one_outcome bytes (Err fault) one other a b = a ∙ sym b
one_outcome bytes (Ok read) one other (inl a) (inl b) = a.1 ∙ sym b.1
one_outcome bytes (Ok read) one other (inl a) (inr b) = absurd (b.0 a.0)
one_outcome bytes (Ok read) one other (inr a) (inl b) = absurd (a.0 b.0)
one_outcome bytes (Ok read) one other (inr a) (inr b) = a.1 ∙ sym b.1

pub one_reading : (bytes : List ℕ) (one other : Result BaseView CodecFault) → ReadsImage bytes one → ReadsImage bytes other → one ≡ other
one_reading bytes one other a b = one_outcome bytes (stored_image_at (length bytes) bytes) one other (outcome stored_image_at bytes one a) (outcome stored_image_at bytes other b)

-- a state that is followed by these bytes is read so
pub ending_is_read : (at : ℕ → List ℕ → Reading BaseView) (bytes : List ℕ) (base : BaseView) (rest : List ℕ) → at (length bytes) bytes ≡ Ok (base, rest) → IsWorld base.world → ReadsState at bytes (ending bytes base rest)
ending_is_read at bytes base [] e is = whole base e is
ending_is_read at bytes base (byte ∷ rest) e is = left_over base byte rest e is

pub some_reading : (bytes : List ℕ) → ((result : Result BaseView CodecFault) → ReadsImage bytes result → ⊥) → ⊥
some_reading bytes none = by (stored_image_at (length bytes) bytes) refl
  where
    by : (read : Reading BaseView) → stored_image_at (length bytes) bytes ≡ read → ⊥
    by (Err fault) e = none (Err fault) (field fault e)
    by (Ok read) e = none (Err (NotCanonical 0)) (no_world read.0 read.1 e (λ is. none (ending bytes read.0 read.1) (ending_is_read stored_image_at bytes read.0 read.1 e is)))

-- ---- images

-- what stands at the front of bytes of either version
pub record Found (base : BaseView) (bytes rest : List ℕ) : Type 0 where
  pub image : List ℕ
  pub spelled : IsSpelledAs base image
  pub bytes_are : bytes ≡ image ++ rest

pub stored_found : (input : ℕ) (bytes rest : List ℕ) (base : BaseView) → AreBytes bytes → stored_image_at input bytes ≡ Ok (base, rest) → Found base bytes rest
stored_found input bytes rest base fits e = by (is_versioned bytes) refl
  where
    by : (versioned : Bool) → is_versioned bytes ≡ versioned → Found base bytes rest
    by true is = let found = image_codec.found input bytes rest base fits (sym (stored_current input bytes is) ∙ e) in record { image = image_spelling base; spelled = current found.0; bytes_are = found.1 }
    by false is = let found = fields_codec.found input bytes rest base fits (sym (stored_old input bytes is) ∙ e) in record { image = fields_spelling base; spelled = old found.0; bytes_are = found.1 }

image_from : (bytes : List ℕ) (result : Result BaseView CodecFault) → AreBytes bytes → ReadsImage bytes result → IfOk result (λ base. IsImageOf base bytes)
image_from bytes _ fits (field fault e) = tt
image_from bytes _ fits (no_world base rest e not) = tt
image_from bytes _ fits (left_over base byte rest e is) = tt
image_from bytes _ fits (whole base e is) =
    let found = stored_found (length bytes) bytes [] base fits e in
    record { world = is; spelled = subst (IsSpelledAs base) (sym (found.bytes_are ∙ append-nil found.image)) found.spelled }

pub read_is_image : (bytes : List ℕ) (base : BaseView) → AreBytes bytes → ReadsImage bytes (Ok base) → IsImageOf base bytes
read_is_image bytes base fits read = image_from bytes (Ok base) fits read

-- what stands at the front of these bytes
front_of : (input : ℕ) (base : BaseView) (image rest : List ℕ) → IsSpelledAs base image → stored_image_at input (image ++ rest) ≡ Ok (base, rest)
front_of input base _ rest (current spelled) = stored_current input (image_spelling base ++ rest) (current_begins base rest) ∙ image_codec.again input base rest spelled
front_of input base _ rest (old fields) = stored_old input (fields_spelling base ++ rest) (old_begins base rest fields) ∙ fields_codec.again input base rest fields

pub image_is_read : (bytes : List ℕ) (base : BaseView) → IsImageOf base bytes → ReadsImage bytes (Ok base)
image_is_read bytes base is =
    whole base (ap (stored_image_at (length bytes)) (sym (append-nil bytes)) ∙ front_of (length bytes) base bytes [] is.spelled) is.world

-- an image is that of one state
pub one_state : (base other : BaseView) (image : List ℕ) → IsImageOf base image → IsImageOf other image → base ≡ other
one_state base other image is other_is = same base other (one_reading image (Ok base) (Ok other) (image_is_read image base is) (image_is_read image other other_is))
  where
    same : (base other : BaseView) → (let one : Result BaseView CodecFault = Ok base in one) ≡ Ok other → base ≡ other
    same base other e = cc

pub fault_is_no_image : (bytes : List ℕ) (fault : CodecFault) (base : BaseView) → ReadsImage bytes (Err fault) → IsImageOf base bytes → ⊥
fault_is_no_image bytes fault base read is = different fault base (one_reading bytes (Err fault) (Ok base) read (image_is_read bytes base is))
  where
    different : (fault : CodecFault) (base : BaseView) → (let one : Result BaseView CodecFault = Err fault in one) ≡ Ok base → ⊥
    different fault base e = cc

pub more_is_left_over : (base : BaseView) (image : List ℕ) (byte : ℕ) (rest : List ℕ) → IsImageOf base image → ReadsImage (image ++ byte ∷ rest) (Err (NotCanonical (length image)))
more_is_left_over base image byte rest is =
    let bytes : List ℕ = image ++ byte ∷ rest in
    let at : length bytes - length (byte ∷ rest) ≡ length image = omega (arith, length-append image (byte ∷ rest)) in
    subst (λ (n : ℕ). ReadsImage bytes (Err (NotCanonical n))) at (left_over base byte rest (front_of (length bytes) base image (byte ∷ rest) is.spelled) is.world)

pub cut_is_none : (base other : BaseView) (front : List ℕ) (byte : ℕ) (rest : List ℕ) → AreBytes front → IsImageOf base (front ++ byte ∷ rest) → ReadsImage front (Ok other) → ⊥
cut_is_none base other front byte rest fits is read =
    let bytes : List ℕ = front ++ byte ∷ rest in
    let front_is : IsImageOf other front = read_is_image front other fits read in
    let first = front_of (length bytes) other front (byte ∷ rest) front_is.spelled in
    let whole_one : stored_image_at (length bytes) bytes ≡ Ok (base, []) = ap (stored_image_at (length bytes)) (sym (append-nil bytes)) ∙ front_of (length bytes) base bytes [] is.spelled in
    nothing_and_some other base byte rest (sym first ∙ whole_one)
  where
    nothing_and_some : (first second : BaseView) (byte : ℕ) (rest : List ℕ) → (let one : Reading BaseView = Ok (first, byte ∷ rest) in one) ≡ Ok (second, []) → ⊥
    nothing_and_some first second byte rest e = let end : byte ∷ rest ≡ [] = ap (λ (p : BaseView × List ℕ). p.1) (ok_is (first, byte ∷ rest) (second, []) e) in cc

-- ---- what a call finds

pub field_reported : (at : ℕ → List ℕ → Reading BaseView) (bytes : List ℕ) (fault : CodecFault) → ReportsFault fault (at (length bytes) bytes) → GivesState at bytes (Err fault)
field_reported at bytes Short e = field Short e
field_reported at bytes (BadTag place) e = field (BadTag place) e
field_reported at bytes (NotCanonical place) e = field (NotCanonical place) e
field_reported at bytes (TooLarge place) e = field (TooLarge place) e
field_reported at bytes NoMemory e = tt

pub world_reported : (at : ℕ → List ℕ → Reading BaseView) (bytes : List ℕ) (base : BaseView) (rest : List ℕ) (fault : CodecFault) → at (length bytes) bytes ≡ Ok (base, rest) → MakesState base (Err fault) → GivesState at bytes (Err fault)
world_reported at bytes base rest Short e makes = absurd makes
world_reported at bytes base rest (BadTag place) e makes = absurd makes
world_reported at bytes base rest (NotCanonical place) e makes =
    subst (λ (n : ℕ). ReadsState at bytes (Err (NotCanonical n))) (sym makes.0) (no_world base rest e makes.1)
world_reported at bytes base rest (TooLarge place) e makes = absurd makes
world_reported at bytes base rest NoMemory e makes = tt

pub ended : (at : ℕ → List ℕ → Reading BaseView) (bytes : List ℕ) (state base : BaseView) (rest : List ℕ) → at (length bytes) bytes ≡ Ok (state, rest) → length rest ≡ 0 → base ≡ state → IsWorld state.world → ReadsState at bytes (Ok base)
ended at bytes state base [] e none same is = subst (λ (b : BaseView). ReadsState at bytes (Ok b)) (sym same) (whole state e is)
ended at bytes state base (byte ∷ rest) e none same is = absurd (omega (arith, none))

pub not_ended : (at : ℕ → List ℕ → Reading BaseView) (bytes : List ℕ) (state : BaseView) (rest : List ℕ) → at (length bytes) bytes ≡ Ok (state, rest) → (length rest ≡ 0 → ⊥) → IsWorld state.world →
    ReadsState at bytes (Err (NotCanonical (place (length bytes) rest)))
not_ended at bytes state [] e some is = absurd (some refl)
not_ended at bytes state (byte ∷ rest) e some is = left_over state byte rest e is
