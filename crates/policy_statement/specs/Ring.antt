-- A ring of names, each with a key or with the root of a tree of hashes, and the signatures that it
-- accepts: the tag of HMAC-SHA256 of the message under
-- the key of who signs, or what the root accepts. This project's own.
use Rattle.std.specs.Prelude.{ℕ, List, Bool, false, ◌&&◌, nat_le, Option, Some, None, IsSome, find, option_and_then}
use Rattle.std.specs.Option.{option_map, option_map_or}
use Rattle.std.specs.Str.{bytes_eq}
use Rattle.bl_syntax.specs.declared.limits.TheConstants.{HIGHEST_TREE}
use Rattle.merkle_sig.specs.Signature.{accepts_root}
use Rattle.pcfs_hmac.specs.Hmac.{hmac}

-- what a ring has of a name: its key, or the height and the root of its tree
pub data Credential : Type 0 where
  keyed : (key : List ℕ) → Credential
  rooted : (height : ℕ) (root : List ℕ) → Credential

-- a name, and what the ring has of it
pub record KeyView : Type 0 where
  pub who : List ℕ
  pub holds : Credential

-- what the ring has of a name; none where it has nothing
abbrev pub credential_of : List KeyView → List ℕ → Option Credential
credential_of ring who = option_map (λ k. k.holds) (find (λ k. bytes_eq k.who who) ring)

-- the name has a key or a root
abbrev pub IsKnown : List KeyView → List ℕ → Type 0
IsKnown ring who = IsSome (credential_of ring who)

-- the tag of a message under a key; none under a root
abbrev pub tag_by : List ℕ → Credential → Option (List ℕ)
tag_by message (keyed key) = Some (hmac key message)
tag_by message (rooted height root) = None

-- the tag of a message under the key of a name; none where the name has no key
abbrev pub tag_of : List KeyView → List ℕ → List ℕ → Option (List ℕ)
tag_of ring who message = option_and_then (tag_by message) (credential_of ring who)

-- whether a signature is the tag of the message under the key, or the root accepts it; no ring has
-- a higher tree
abbrev pub accepts_by : List ℕ → List ℕ → Credential → Bool
accepts_by message signature (keyed key) = bytes_eq (hmac key message) signature
accepts_by message signature (rooted height root) = nat_le height HIGHEST_TREE && accepts_root root height message signature

-- whether a signature is accepted from a name: by its key, by its root, or not at all where it has
-- neither
abbrev pub is_accepted : List KeyView → List ℕ → List ℕ → List ℕ → Bool
is_accepted ring who message signature = option_map_or (accepts_by message signature) (credential_of ring who) false
