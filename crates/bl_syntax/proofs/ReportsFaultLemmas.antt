-- A fault that is handed on.
use Rattle.std.proofs.Common.{◌≡◌, ℕ, List, length, Result, Err, ap, refl}
use Rattle.std.specs.Prelude.{is_err}
use Rattle.bl_syntax.specs.declared.codec_fault.CodecFault.{CodecFault}
use Rattle.bl_syntax.specs.declared.codec_fault.CodecFault.TheVariants as faults
use Rattle.bl_syntax.specs.Reading.{◌>>=◌, Reading}
use Rattle.bl_syntax.specs.Codec.{AreBytes, IsCodec, ReadsFront, ReportsFault}

-- a fault that is read
pub stops : {Y : Type 0} (fault : CodecFault) (read : Result Y CodecFault) → read ≡ Err fault → ReportsFault fault read
stops faults.NoMemory read e = tt
stops faults.Short read e = e
stops (faults.BadTag place) read e = e
stops (faults.NotCanonical place) read e = e
stops (faults.TooLarge place) read e = e

-- a fault of the first of two steps
pub hands_on : {Y W : Type 0} (fault : CodecFault) (read : Result Y CodecFault) (next : Y → Result W CodecFault) → ReportsFault fault read → ReportsFault fault (read >>= next)
hands_on faults.NoMemory read next e = tt
hands_on faults.Short read next e = ap (λ r. r >>= next) e
hands_on (faults.BadTag place) read next e = ap (λ r. r >>= next) e
hands_on (faults.NotCanonical place) read next e = ap (λ r. r >>= next) e
hands_on (faults.TooLarge place) read next e = ap (λ r. r >>= next) e

-- a fault other than out of memory is the fault that is read
pub stops_with : {Y : Type 0} (fault : CodecFault) (read : Result Y CodecFault) → ReportsFault fault read → (fault ≡ faults.NoMemory → ⊥) → read ≡ Err fault
stops_with faults.NoMemory read e memory = absurd (memory refl)
stops_with faults.Short read e memory = e
stops_with (faults.BadTag place) read e memory = e
stops_with (faults.NotCanonical place) read e memory = e
stops_with (faults.TooLarge place) read e memory = e

-- a call at the front of the bytes that found nothing
pub front_stops : {X A : Type 0} (view : X → A) (IsSpelled : A → Type 0) (spelling : A → List ℕ) (at : ℕ → List ℕ → Reading A) (bytes : List ℕ) (fault : CodecFault)
    → IsCodec IsSpelled spelling at → AreBytes bytes → ReportsFault fault (at (length bytes) bytes) → ReadsFront view IsSpelled spelling bytes (Err fault)
front_stops view IsSpelled spelling at bytes fault codec fits h = record {
  found = tt;
  refused = λ memory. (codec.refused (length bytes) bytes fits).0 (ap is_err (stops_with fault (at (length bytes) bytes) h memory));
}
