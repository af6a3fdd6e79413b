-- A tree of hashes over leaves that sign once (Merkle's tree over Lamport's signatures of single
-- bits), with SHA-256 as sha2 defines it for every length.
-- The bytes are this project's own: what is hashed begins with a byte that tells its kind, and
-- numbers are big-endian. A seed, a message, a digest and a
-- signature are lists of bytes.
use Rattle.std.specs.Prelude.{ℕ, zero, suc, ◌+◌, ◌*◌, List, [], ◌∷◌, ◌++◌}
use Rattle.std.specs.Int.{w16, w32, to_be_bytes}
use Rattle.sha2.specs.Sha256.{sha256}

-- the secret by which a leaf signs that a bit of a digest has a value
unfoldable pub secret : List ℕ → ℕ → ℕ → ℕ → List ℕ
secret seed leaf bit value = sha256 (0 ∷ seed ++ to_be_bytes w32 leaf ++ to_be_bytes w16 bit ++ value ∷ [])

-- what is public of a secret before it is shown
unfoldable pub public_value : List ℕ → List ℕ
public_value hidden = sha256 (1 ∷ hidden)

-- the public values of a bit: of the value 0, and then of 1
unfoldable pub public_pair : List ℕ → ℕ → ℕ → List ℕ
public_pair seed leaf bit = public_value (secret seed leaf bit 0) ++ public_value (secret seed leaf bit 1)

-- the public values of the first n bits
unfoldable pub public_pairs : List ℕ → ℕ → ℕ → List ℕ
public_pairs seed leaf zero = []
public_pairs seed leaf (suc n) = public_pairs seed leaf n ++ public_pair seed leaf n

-- the leaf with these public values
unfoldable pub leaf_over : List ℕ → List ℕ
leaf_over pairs = sha256 (2 ∷ pairs)

-- the node over two
unfoldable pub parent : List ℕ → List ℕ → List ℕ
parent left right = sha256 (3 ∷ left ++ right)

-- the node at a place of a level, from the left; the leaves are level 0
unfoldable pub node : List ℕ → ℕ → ℕ → List ℕ
node seed zero place = leaf_over (public_pairs seed place 256)
node seed (suc level) place = parent (node seed level (2 * place)) (node seed level (2 * place + 1))

-- the root of the tree of a height, which is the public key
abbrev pub root_of : List ℕ → ℕ → List ℕ
root_of seed height = node seed height 0
