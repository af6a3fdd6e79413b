-- The length of what a ring accepts.
use Rattle.std.proofs.Common.{◌≡◌, ◌≤◌, ℕ, List, length, Option, Some, None, true, false, sym, ap, ◌∙◌, arith}
use Rattle.std.specs.Option.{option_map_or}
use Rattle.std.proofs.lemmas.Bool.{and_parts, eqb-true, leb-true}
use Rattle.std.proofs.lemmas.Slice.Eq.{bytes_eq-Decides}
use Rattle.bl_syntax.specs.declared.limits.TheConstants.{HIGHEST_TREE}
use Rattle.merkle_sig.specs.Signature.{accepts_root, signature_length}
use Rattle.pcfs_hmac.specs.Hmac.{hmac}
use Rattle.sha2.proofs.Facts256.{length-sha256}
use Rattle.policy_statement.specs.Ring.{Credential, keyed, rooted, KeyView, accepts_by, credential_of, is_accepted}

length-hmac : (key text : List ℕ) → length (hmac key text) ≡ 32
unfolding hmac
length-hmac key text = length-sha256 _

tree_length : (root : List ℕ) (height : ℕ) (message signature : List ℕ) → accepts_root root height message signature ≡ true → length signature ≡ signature_length height
unfolding accepts_root
tree_length root height message signature accepted = eqb-true _ _ (and_parts _ _ (and_parts _ _ accepted).0).0

length_by : (message signature : List ℕ) (held : Credential) → accepts_by message signature held ≡ true → length signature ≤ 16644
length_by message signature (keyed key) accepted =
    let same : length signature ≡ 32 = sym (ap length ((bytes_eq-Decides (hmac key message) signature).0 accepted)) ∙ length-hmac key message in
    omega arith
length_by message signature (rooted height root) accepted =
    let both = and_parts _ _ accepted in
    let low : height ≤ HIGHEST_TREE = leb-true _ _ both.0 in
    let long = tree_length root height message signature both.1 in
    omega (arith, low, long)

length_of : (message signature : List ℕ) (found : Option Credential) → option_map_or (accepts_by message signature) found false ≡ true → length signature ≤ 16644
length_of message signature None accepted = absurd cc
length_of message signature (Some held) accepted = length_by message signature held accepted

-- an accepted signature is a tag, or at most as long as one by a tree of height 8
pub accepted_length : (ring : List KeyView) (who message signature : List ℕ) → is_accepted ring who message signature ≡ true → length signature ≤ 16644
accepted_length ring who message signature accepted = length_of message signature (credential_of ring who) accepted
