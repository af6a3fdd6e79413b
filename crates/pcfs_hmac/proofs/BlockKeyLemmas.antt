-- A key as one block, and a block under a pad.
use Rattle.std.proofs.Common.{◌≡◌, ℕ, ◌+◌, ◌-◌, ◌<◌, ◌≤◌, List, [], ◌∷◌, ◌++◌, length, get_or, map, replicate, take, drop, refl, ap, ◌∙◌, arith, length-append, length-drop}
use Rattle.std.specs.Prelude.{bit_xor}
use Rattle.std.proofs.Math.ListN.{set}
use Rattle.std.proofs.lemmas.Bool.{cond_below, cond_above}
use Rattle.std.proofs.lemmas.List.{append-nil, drop_all, get_or_default, length-map, length-take-le, take_all}
use Rattle.std.proofs.lemmas.List.Edits.{map_over_more}
use Rattle.sha2.specs.Sha256.{sha256}
use Rattle.sha2.proofs.Facts256.{length-sha256}
use Rattle.pcfs_hmac.specs.Hmac.{block_key, xor_bytes, zero_filled}

zero_filled-sha256 : (key : List ℕ) → zero_filled (sha256 key) ≡ sha256 key ++ replicate 32 0
unfolding zero_filled
zero_filled-sha256 key = ap (λ n. sha256 key ++ replicate (64 - n) 0) (length-sha256 key)

-- a key longer than a block is hashed
pub block_key-long : (key : List ℕ) → 64 < length key → block_key key ≡ sha256 key ++ replicate 32 0
unfolding block_key
block_key-long key h = rw (← cond_below 64 (length key) (sha256 key) key h) (zero_filled-sha256 key)

-- any other key is filled with zeros
pub block_key-short : (key : List ℕ) → length key ≤ 64 → block_key key ≡ key ++ replicate (64 - length key) 0
unfolding block_key zero_filled
block_key-short key h = rw (← cond_above 64 (length key) (sha256 key) key key h refl) refl

-- under a pad that repeats one byte, each byte is changed by that byte
pub xor_bytes-replicate : (xs : List ℕ) (pad n : ℕ) → length xs ≡ n → xor_bytes xs (replicate n pad) ≡ map (λ x. bit_xor x pad) xs
unfolding xor_bytes
xor_bytes-replicate [] pad n h = refl
xor_bytes-replicate (x ∷ xs) pad n h =
    rw (← h) (ap (λ ys. bit_xor x pad ∷ ys) (xor_bytes-replicate xs pad (length xs) refl))

-- ys is xs with the pad on its first i bytes
abbrev pub IsPaddedTo : List ℕ → List ℕ → ℕ → ℕ → Type 0
IsPaddedTo ys xs pad i = ys ≡ map (λ x. bit_xor x pad) (take i xs) ++ drop i xs

-- the pad on one byte more
pub IsPaddedTo-set : (ys xs : List ℕ) (pad i : ℕ) → i < length xs → IsPaddedTo ys xs pad i
    → IsPaddedTo (set ys i (bit_xor (get_or ys i 0) pad)) xs pad (i + 1)
IsPaddedTo-set ys xs pad i below so_far =
    let front : length (take i xs) ≡ i = length-take-le i xs (omega arith) in
    let size : length ys ≡ length xs = ap length so_far ∙ simp (length-append, length-map, length-drop) (omega arith) in
    map_over_more (λ x. bit_xor x pad) xs ys i (get_or ys i 0) below so_far (get_or_default ys i 0 (get_or ys i 0) (omega arith))

-- the pad on every byte
pub IsPaddedTo_all : (ys xs : List ℕ) (pad n : ℕ) → length xs ≡ n → IsPaddedTo ys xs pad n → xor_bytes xs (replicate n pad) ≡ ys
IsPaddedTo_all ys xs pad n size padded =
    rw (xor_bytes-replicate xs pad n size, padded, take_all n xs (omega arith), drop_all n xs (omega arith), append-nil) refl
