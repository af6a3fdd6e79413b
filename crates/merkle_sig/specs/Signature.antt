-- Signatures by a leaf of a tree of hashes, and which of them a root accepts. A leaf shows the
-- secret of each bit of the message's digest and the public
-- value of the other one, and then the nodes beside its way to the root.
use Rattle.std.specs.Prelude.{ℕ, zero, suc, ◌+◌, ◌-◌, ◌*◌, ◌/◌, ◌%◌, ◌^◌, List, [], ◌∷◌, ◌++◌, length, take, drop, slice_index, Bool, ◌&&◌, ◌==◌, nat_lt, if◌then◌else◌}
use Rattle.std.specs.Int.{w32, to_be_bytes, from_be_bytes}
use Rattle.std.specs.Str.{bytes_eq}
use Rattle.sha2.specs.Sha256.{sha256}
use Rattle.merkle_sig.specs.HashTree.{secret, public_value, leaf_over, parent, node}

-- the digest of a message, each bit of which is signed
unfoldable pub message_digest : List ℕ → List ℕ
message_digest message = sha256 (4 ∷ message)

-- a bit of a digest, counted from the highest bit of its first byte
abbrev pub bit_of : List ℕ → ℕ → ℕ
bit_of digest bit = slice_index digest (bit / 8) / 2 ^ (7 - bit % 8) % 2

-- the place beside another, under the same node
abbrev pub beside : ℕ → ℕ
beside place = if place % 2 == 0 then place + 1 else place - 1

-- ---- what a leaf signs

-- what is shown of a bit with a value: the secret of the value, and what is public of the other
-- one's
unfoldable pub shown : List ℕ → ℕ → ℕ → ℕ → List ℕ
shown seed leaf bit value = secret seed leaf bit value ++ public_value (secret seed leaf bit (1 - value))

-- what is shown of the first n bits of a digest
unfoldable pub shown_bits : List ℕ → ℕ → List ℕ → ℕ → List ℕ
shown_bits seed leaf digest zero = []
shown_bits seed leaf digest (suc n) = shown_bits seed leaf digest n ++ shown seed leaf n (bit_of digest n)

-- the nodes beside the way from a leaf up through the first n levels
unfoldable pub siblings : List ℕ → ℕ → ℕ → List ℕ
siblings seed leaf zero = []
siblings seed leaf (suc n) = siblings seed leaf n ++ node seed n (beside (leaf / 2 ^ n))

-- the signature of a message by a leaf
unfoldable pub signature_of : List ℕ → ℕ → ℕ → List ℕ → List ℕ
signature_of seed height leaf message =
    to_be_bytes w32 leaf ++ shown_bits seed leaf (message_digest message) 256 ++ siblings seed leaf height

-- ---- what a root accepts

-- a digest among many, by its place
abbrev pub digest_at : List ℕ → ℕ → List ℕ
digest_at digests place = take 32 (drop (32 * place) digests)

-- the public values of a bit, of the value 0 first, that are made of a secret of its value and of
-- the public value of the other one
abbrev pub pair_from : ℕ → List ℕ → List ℕ → List ℕ
pair_from value hidden other = if value == 0 then public_value hidden ++ other else other ++ public_value hidden

-- the public values of the first n bits, made of what is shown of them
unfoldable pub pairs_from : List ℕ → List ℕ → ℕ → List ℕ
pairs_from shown digest zero = []
pairs_from shown digest (suc n) =
    pairs_from shown digest n ++ pair_from (bit_of digest n) (digest_at shown (2 * n)) (digest_at shown (2 * n + 1))

-- the node over one at a place and the one beside it
abbrev pub over : ℕ → List ℕ → List ℕ → List ℕ
over place here other = if place % 2 == 0 then parent here other else parent other here

-- where the way from a leaf leads up through the first n levels
unfoldable pub climb : List ℕ → ℕ → List ℕ → ℕ → List ℕ
climb from leaf others zero = from
climb from leaf others (suc n) = over (leaf / 2 ^ n) (climb from leaf others n) (digest_at others n)

-- the number of the leaf that signs
unfoldable pub leaf_number : List ℕ → ℕ
leaf_number signature = from_be_bytes w32 (take 4 signature)

-- what a signature shows of the bits
unfoldable pub shown_part : List ℕ → List ℕ
shown_part signature = take 16384 (drop 4 signature)

-- the nodes beside the way of its leaf
unfoldable pub way_part : List ℕ → List ℕ
way_part signature = drop 16388 signature

-- the leaf that is made of what a signature shows of a message's digest
abbrev pub leaf_from : List ℕ → List ℕ → List ℕ
leaf_from message signature = leaf_over (pairs_from (shown_part signature) (message_digest message) 256)

-- the root to which that leaf leads
abbrev pub root_from : ℕ → List ℕ → List ℕ → List ℕ
root_from height message signature =
    climb (leaf_from message signature) (leaf_number signature) (way_part signature) height

-- the length of a signature
abbrev pub signature_length : ℕ → ℕ
signature_length height = 16388 + 32 * height

-- whether the root of a tree of this height accepts a signature of a message
unfoldable pub accepts_root : List ℕ → ℕ → List ℕ → List ℕ → Bool
accepts_root root height message signature =
    (length signature == signature_length height) && nat_lt (leaf_number signature) (2 ^ height)
    && bytes_eq (root_from height message signature) root
