-- HMAC (RFC 2104, section 2) where H is SHA-256 (FIPS 180-4), as sha2 defines it for every length,
-- and B
-- is 64. A key, a text and a digest are lists of bytes, and the names are the RFC's.
use Rattle.std.specs.Prelude.{ℕ, ◌-◌, List, [], ◌∷◌, ◌++◌, length, replicate, nat_lt, bit_xor, if◌then◌else◌}
use Rattle.sha2.specs.Sha256.{sha256}

-- B, the length in bytes of a block of SHA-256
abbrev pub block_length : ℕ
block_length = 64

-- the byte 0x36, B times
unfoldable pub ipad : List ℕ
ipad = replicate block_length 0x36

-- the byte 0x5C, B times
unfoldable pub opad : List ℕ
opad = replicate block_length 0x5C

-- the XOR of two strings of one length, byte by byte
unfoldable pub xor_bytes : List ℕ → List ℕ → List ℕ
xor_bytes (x ∷ xs) (y ∷ ys) = bit_xor x y ∷ xor_bytes xs ys
xor_bytes _ _ = []

-- a key of at most B bytes, with zero bytes appended up to B bytes
unfoldable pub zero_filled : List ℕ → List ℕ
zero_filled key = key ++ replicate (block_length - length key) 0

-- K: the key, hashed first if it is longer than B bytes, and filled up to B bytes
unfoldable pub block_key : List ℕ → List ℕ
block_key key = zero_filled (if nat_lt block_length (length key) then sha256 key else key)

-- H(K XOR opad, H(K XOR ipad, text))
unfoldable pub hmac : List ℕ → List ℕ → List ℕ
hmac key text =
    sha256 (xor_bytes (block_key key) opad ++ sha256 (xor_bytes (block_key key) ipad ++ text))

-- a text under a key
pub record MacView : Type 0 where
  pub key : List ℕ
  pub text : List ℕ
