-- Reading an image that is the whole input: the state, or the first fault. This project's own.
use Rattle.std.specs.Prelude.{◌≡◌, ℕ, List, [], ◌∷◌, length, Result, Ok, Err}
use Rattle.bl_syntax.specs.declared.codec_fault.CodecFault.{CodecFault}
use Rattle.bl_syntax.specs.declared.codec_fault.CodecFault.TheVariants.{Short, BadTag, NotCanonical, TooLarge, NoMemory}
use Rattle.bl_syntax.specs.Reading.{Reading, place}
use Rattle.file_world.specs.World.{IsWorld}
use Rattle.access_history.specs.Base.{BaseView}
use Rattle.checkpoint_image.specs.ImageSpelling.{fields_spelling, image_spelling, AreFieldsOf, IsSpellableImage}
use Rattle.checkpoint_image.specs.ImageReading.{fields_at, stored_image_at}

-- The bytes are a spelling of a state: its image of version 2, or, of a state in which all
-- statements stand, that of version 1, which is its fields alone.
pub data IsSpelledAs (base : BaseView) : List ℕ → Type 0 where
  current : IsSpellableImage base → IsSpelledAs base (image_spelling base)
  old : AreFieldsOf base → IsSpelledAs base (fields_spelling base)

-- The bytes are the image of a state: a spelling of it, and its nodes are a world within the
-- limits.
pub record IsImageOf (base : BaseView) (image : List ℕ) : Type 0 where
  pub world : IsWorld base.world
  pub spelled : IsSpelledAs base image

-- What a way of reading finds in the bytes: the first fault of a field; or, where every field is in
-- its grammar, that the nodes are no world within the limits, which is a fault at the first byte;
-- or that bytes are left over, which is a fault at the first of them; or the state.
pub data ReadsState (at : ℕ → List ℕ → Reading BaseView) (bytes : List ℕ) : Result BaseView CodecFault → Type 0 where
  field : (fault : CodecFault) → at (length bytes) bytes ≡ Err fault →
      ReadsState at bytes (Err fault)
  no_world : (base : BaseView) (rest : List ℕ) → at (length bytes) bytes ≡ Ok (base, rest) →
      (IsWorld base.world → ⊥) →
      ReadsState at bytes (Err (NotCanonical 0))
  left_over : (base : BaseView) (byte : ℕ) (rest : List ℕ) →
      at (length bytes) bytes ≡ Ok (base, byte ∷ rest) → IsWorld base.world →
      ReadsState at bytes (Err (NotCanonical (place (length bytes) (byte ∷ rest))))
  whole : (base : BaseView) → at (length bytes) bytes ≡ Ok (base, []) → IsWorld base.world →
      ReadsState at bytes (Ok base)

-- What is read of an image of either version.
abbrev pub ReadsImage : List ℕ → Result BaseView CodecFault → Type 0
ReadsImage bytes result = ReadsState stored_image_at bytes result

-- what a call returned is what is read in that way, unless there was no memory
abbrev pub GivesState : (ℕ → List ℕ → Reading BaseView) → List ℕ → Result BaseView CodecFault →
    Type 0
GivesState at bytes (Ok base) = ReadsState at bytes (Ok base)
GivesState at bytes (Err Short) = ReadsState at bytes (Err Short)
GivesState at bytes (Err (BadTag place)) = ReadsState at bytes (Err (BadTag place))
GivesState at bytes (Err (NotCanonical place)) = ReadsState at bytes (Err (NotCanonical place))
GivesState at bytes (Err (TooLarge place)) = ReadsState at bytes (Err (TooLarge place))
GivesState at bytes (Err NoMemory) = Unit {0}

-- of an image of either version
abbrev pub GivesImage : List ℕ → Result BaseView CodecFault → Type 0
GivesImage bytes result = GivesState stored_image_at bytes result

-- of an image of version 1
abbrev pub GivesOldImage : List ℕ → Result BaseView CodecFault → Type 0
GivesOldImage bytes result = GivesState fields_at bytes result

-- the state, whose nodes are a world within the limits; or they are none; or there was no memory
abbrev pub MakesState : BaseView → Result BaseView CodecFault → Type 0
MakesState state (Ok base) = (base ≡ state) × IsWorld state.world
MakesState state (Err Short) = ⊥
MakesState state (Err (BadTag place)) = ⊥
MakesState state (Err (NotCanonical place)) = (place ≡ 0) × (IsWorld state.world → ⊥)
MakesState state (Err (TooLarge place)) = ⊥
MakesState state (Err NoMemory) = Unit {0}
