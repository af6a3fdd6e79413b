-- Laws of the reading of an image (this project's own).
use Rattle.std.specs.Prelude.{◌≡◌, ◌<◌, ◌^◌, ℕ, List, ◌∷◌, ◌++◌, length, Result, Ok, Err}
use Rattle.bl_syntax.specs.declared.codec_fault.CodecFault.{CodecFault}
use Rattle.bl_syntax.specs.declared.codec_fault.CodecFault.TheVariants.{NotCanonical}
use Rattle.bl_syntax.specs.Codec.{AreBytes}
use Rattle.policy_statement.specs.Ring.{KeyView}
use Rattle.access_history.specs.Base.{BaseView}
use Rattle.access_history.specs.History.{authority_with}
use Rattle.access_history.specs.Lawful.{IsLawfulBase}
use Rattle.checkpoint.specs.Reading.{IsImageOf, ReadsImage}
use Rattle.checkpoint.specs.Writing.{FitsImage}

-- bytes are read in one way at most
abbrev pub ReadingsAreDetermined : Type 0
ReadingsAreDetermined = (bytes : List ℕ) (one other : Result BaseView CodecFault) →
    ReadsImage bytes one → ReadsImage bytes other → one ≡ other

-- no bytes are without a reading
abbrev pub BytesAreRead : Type 0
BytesAreRead = (bytes : List ℕ) →
    ((result : Result BaseView CodecFault) → ReadsImage bytes result → ⊥) → ⊥

-- a state is read exactly if the bytes are its image
abbrev pub StatesAreRead : Type 0
StatesAreRead = (bytes : List ℕ) (base : BaseView) → AreBytes bytes →
    (ReadsImage bytes (Ok base) → IsImageOf base bytes) ×
    (IsImageOf base bytes → ReadsImage bytes (Ok base))

-- an image is that of one state
abbrev pub ImagesAreDetermined : Type 0
ImagesAreDetermined = (base other : BaseView) (image : List ℕ) → IsImageOf base image →
    IsImageOf other image → base ≡ other

-- bytes that have a fault are no image
abbrev pub FaultsAreNoImages : Type 0
FaultsAreNoImages = (bytes : List ℕ) (fault : CodecFault) (base : BaseView) →
    ReadsImage bytes (Err fault) → IsImageOf base bytes → ⊥

-- bytes left over after an image are a fault at the first of them
abbrev pub ImagesEndTheInput : Type 0
ImagesEndTheInput = (base : BaseView) (image : List ℕ) (byte : ℕ) (rest : List ℕ) →
    IsImageOf base image → ReadsImage (image ++ byte ∷ rest) (Err (NotCanonical (length image)))

-- an image that is cut is the image of no state
abbrev pub CutImagesAreNone : Type 0
CutImagesAreNone = (base other : BaseView) (front : List ℕ) (byte : ℕ) (rest : List ℕ) →
    AreBytes front → IsImageOf base (front ++ byte ∷ rest) → ReadsImage front (Ok other) → ⊥

-- a lawful state fits an image, if it has fewer than 2^32 issues
abbrev pub LawfulStatesFit : Type 0
LawfulStatesFit = (key : List ℕ) (ring : List KeyView) (base : BaseView) →
    IsLawfulBase (authority_with key ring) base → length base.issues < 2 ^ 32 → FitsImage base
