-- Few bytes at the front of a fixed place, and zero bytes after them.
use Rattle.std.specs.Prelude.{◌≡◌, ◌-◌, ℕ, List, ◌++◌, length, take, replicate}
use Rattle.std.proofs.Common.{ap, sym, ◌∙◌}
use Rattle.bl_syntax.specs.declared.short.Short.TheInside.{Inside}

-- the first len bytes, and zero bytes up to size
abbrev pub pad : ℕ → List ℕ → List ℕ
pad size bytes = bytes ++ replicate (size - length bytes) 0

-- the place has len bytes at its front and zero bytes after them
pub record IsPadded (size : ℕ) (bytes : List ℕ) (len : ℕ) : Type 0 where
  pub long_enough : length (take len bytes) ≡ len
  pub padding : bytes ≡ pad size (take len bytes)

abbrev make : (size : ℕ) → List ℕ → ℕ → Inside size
make size bytes len = record { bytes = bytes; len = len }

-- the bytes give the place back
pub padded_again : (size : ℕ) (a : Inside size) → IsPadded size a.bytes a.len →
    make size (pad size (take a.len a.bytes)) (length (take a.len a.bytes)) ≡ a
padded_again size a h =
    ap (λ (bytes : List ℕ). make size bytes (length (take a.len a.bytes))) (sym h.padding) ∙ ap (λ (n : ℕ). make size a.bytes n) h.long_enough
