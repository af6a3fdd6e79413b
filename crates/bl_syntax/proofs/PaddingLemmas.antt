-- Bytes that are copied into a place of zero bytes.
use Rattle.std.proofs.Common.{◌≡◌, ◌-◌, ℕ, List, ◌++◌, length, take, drop, refl, sym, ap, subst}
use Rattle.std.specs.Prelude.{replicate}
use Rattle.std.proofs.lemmas.List.{take_at, drop-replicate}
use Rattle.bl_syntax.specs.Padding.{IsPadded, pad}

padded_written : (size : ℕ) (bytes : List ℕ) → IsPadded size (bytes ++ replicate (size - length bytes) 0) (length bytes)
padded_written size bytes =
    let front : take (length bytes) (pad size bytes) ≡ bytes = take_at bytes (replicate (size - length bytes) 0) (length bytes) refl in
    record {
      long_enough = ap length front;
      padding = sym (ap (λ (b : List ℕ). pad size b) front);
    }

-- the first bytes of the place were written
pub IsPadded-written : (size : ℕ) (bytes written : List ℕ) → written ≡ bytes → IsPadded size (written ++ drop (length bytes) (replicate size 0)) (length bytes)
IsPadded-written size bytes written same =
    subst (λ (w : List ℕ). IsPadded size (w ++ drop (length bytes) (replicate size 0)) (length bytes)) (sym same)
    (subst (λ (rest : List ℕ). IsPadded size (bytes ++ rest) (length bytes)) (sym (drop-replicate (length bytes) size 0)) (padded_written size bytes))
