-- The lengths of what is hashed and shown, and digests among others.
use Rattle.std.proofs.Common.{◌≡◌, ℕ, zero, suc, ◌+◌, ◌-◌, ◌*◌, ◌/◌, ◌^◌, ◌≤◌, List, ◌++◌, length, take, drop, refl, ap, ◌∙◌, arith, append_assoc, length-append}
use Rattle.std.proofs.lemmas.List.{drop_at, drop-append-le, take_at, take-append-le, length-drop}
use Rattle.sha2.proofs.Facts256.{length-sha256}
use Rattle.merkle_sig.specs.HashTree.{leaf_over, node, parent, public_value, secret}
use Rattle.merkle_sig.specs.Signature.{beside, bit_of, digest_at, shown, shown_bits, siblings}

pub length-secret : (seed : List ℕ) (leaf bit value : ℕ) → length (secret seed leaf bit value) ≡ 32
unfolding secret
length-secret seed leaf bit value = length-sha256 _

pub length-public_value : (hidden : List ℕ) → length (public_value hidden) ≡ 32
unfolding public_value
length-public_value hidden = length-sha256 _

pub length-node : (seed : List ℕ) (level place : ℕ) → length (node seed level place) ≡ 32
unfolding node leaf_over parent
length-node seed zero place = length-sha256 _
length-node seed (suc level) place = length-sha256 _

length-shown : (seed : List ℕ) (leaf bit value : ℕ) → length (shown seed leaf bit value) ≡ 64
unfolding shown
length-shown seed leaf bit value =
    let both = length-append (secret seed leaf bit value) (public_value (secret seed leaf bit (1 - value))) in
    omega (arith, both, length-secret seed leaf bit value, length-public_value (secret seed leaf bit (1 - value)))

pub length-shown_bits : (seed : List ℕ) (leaf : ℕ) (digest : List ℕ) (n : ℕ) → length (shown_bits seed leaf digest n) ≡ 64 * n
unfolding shown_bits
length-shown_bits seed leaf digest zero = refl
length-shown_bits seed leaf digest (suc n) =
    let both = length-append (shown_bits seed leaf digest n) (shown seed leaf n (bit_of digest n)) in
    omega (arith, both, length-shown_bits seed leaf digest n, length-shown seed leaf n (bit_of digest n))

pub length-siblings : (seed : List ℕ) (leaf n : ℕ) → length (siblings seed leaf n) ≡ 32 * n
unfolding siblings
length-siblings seed leaf zero = refl
length-siblings seed leaf (suc n) =
    let both = length-append (siblings seed leaf n) (node seed n (beside (leaf / 2 ^ n))) in
    omega (arith, both, length-siblings seed leaf n, length-node seed n (beside (leaf / 2 ^ n)))

-- a digest stays where more comes after it
pub digest_at-append : (front more : List ℕ) (place : ℕ) → 32 * place + 32 ≤ length front → digest_at (front ++ more) place ≡ digest_at front place
digest_at-append front more place within =
    let left : length (drop (32 * place) front) ≡ length front - 32 * place = length-drop (32 * place) front in
    ap (take 32) (drop-append-le (32 * place) front more (omega arith)) ∙ take-append-le 32 (drop (32 * place) front) more (omega (arith, left))

-- the digest after others
pub digest_at-next : (front here more : List ℕ) (place : ℕ) → length front ≡ 32 * place → length here ≡ 32 → digest_at (front ++ (here ++ more)) place ≡ here
digest_at-next front here more place before whole = ap (take 32) (drop_at front (here ++ more) (32 * place) before) ∙ take_at here more 32 whole

-- the second of three parts
pub middle : (a b c : List ℕ) (m n : ℕ) → length a ≡ m → length b ≡ n → take n (drop m ((a ++ b) ++ c)) ≡ b
middle a b c m n first second = rw (append_assoc a b c, drop_at a (b ++ c) m first) (take_at b c n second)
