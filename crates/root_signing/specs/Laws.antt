-- Laws of what the lines of a text come to as statements to be signed.
use Rattle.std.specs.Prelude.{◌≡◌, ◌<◌, ◌≤◌, ℕ, ◌^◌, List, Some, IsTrue}
use Rattle.bl_syntax.specs.declared.limits.TheConstants.{HIGHEST_TREE}
use Rattle.bl_syntax.specs.Statement.{StatementView}
use Rattle.merkle_sig.specs.HashTree.{root_of}
use Rattle.merkle_sig.specs.Signature.{signature_of}
use Rattle.policy_statement.specs.Messages.{statement_message}
use Rattle.policy_statement.specs.Ring.{KeyView, credential_of, is_accepted, rooted}
use Rattle.root_signing.specs.Signed.{ComesTo}

-- lines come to one end at most
abbrev pub HasOneEnd : Type 0
HasOneEnd = (height from : ℕ) (lines : List (List ℕ)) (status other : ℕ) (written another : List ℕ)
    → ComesTo height from lines status written → ComesTo height from lines other another
    → (status ≡ other) × (written ≡ another)

-- lines come to an end, whatever they are, if the first leaf is one of the tree or the one past its
-- last
abbrev pub HasAnEnd : Type 0
HasAnEnd = (height from : ℕ) (lines : List (List ℕ)) → from ≤ 2 ^ height
    → (status : ℕ) × (written : List ℕ) × ComesTo height from lines status written

-- a ring that has the root of the seed's tree for a name accepts what its leaves sign, as of that
-- name
abbrev pub RingAcceptsSigned : Type 0
RingAcceptsSigned = (ring : List KeyView) (seed : List ℕ) (height leaf : ℕ) (s : StatementView)
    → height ≤ HIGHEST_TREE → leaf < 2 ^ height
    → credential_of ring s.who ≡ Some (rooted height (root_of seed height))
    → IsTrue (is_accepted ring s.who (statement_message s) (signature_of seed height leaf (statement_message s)))
