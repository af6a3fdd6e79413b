-- What signatures and signers keep.
use Rattle.std.specs.Prelude.{◌≡◌, ◌≢◌, ◌<◌, ◌≤◌, ℕ, ◌+◌, ◌^◌, List, length, IsTrue, Err}
use Rattle.std.specs.List.{AllPairs, range_with_len}
use Rattle.bl_syntax.specs.declared.limits.TheConstants.{HIGHEST_TREE}
use Rattle.merkle_sig.specs.HashTree.{root_of}
use Rattle.merkle_sig.specs.Signature.{accepts_root, signature_of}
use Rattle.merkle_sig.specs.Signer.{SignerView, Signing, Signs, SignsAll, leaves_of}
use Rattle.merkle_sig.specs.declared.signer.SignFault.TheVariants.{NoMemory}

-- the root of a tree accepts the signature of each of its leaves, whatever the message is
abbrev pub RootAcceptsLeaves : Type 0
RootAcceptsLeaves = (seed : List ℕ) (height leaf : ℕ) (message : List ℕ) → leaf < 2 ^ height
    → leaf < 2 ^ 32
    → IsTrue (accepts_root (root_of seed height) height message (signature_of seed height leaf message))

-- a signer as `new` makes it and calls leave it
pub record IsSigner (s : SignerView) : Type 0 where
  pub low : s.height ≤ HIGHEST_TREE
  pub within : s.next ≤ 2 ^ s.height

-- over all calls on a signer the leaves are the numbers from its next one on
abbrev pub LeavesRise : Type 0
LeavesRise = (s after : SignerView) (calls : List (List ℕ × Signing)) → IsSigner s
    → SignsAll s calls after
    → (leaves_of calls ≡ range_with_len s.next (length (leaves_of calls)))
    × (after.next ≡ s.next + length (leaves_of calls))

-- so that no leaf is given twice
abbrev pub NoLeafTwice : Type 0
NoLeafTwice = (s after : SignerView) (calls : List (List ℕ × Signing)) → IsSigner s
    → SignsAll s calls after → AllPairs ◌≢◌ (leaves_of calls)

-- each call has an answer, other than a growth that was refused, and leaves a signer of the same
-- seed and height
abbrev pub EachCallIsAnswered : Type 0
EachCallIsAnswered = (s : SignerView) (message : List ℕ) → IsSigner s
    → (given : Signing) × (after : SignerView) × Signs s message given after
    × (given ≢ Err NoMemory)
