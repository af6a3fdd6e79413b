-- The digests of what is registered, and whether anything was withdrawn. This project's own;
-- nothing but speed depends on it.
use Rattle.std.specs.Prelude.{◌≡◌, ◌≢◌, ◌<◌, ◌≤◌, ℕ, List, Bool, length, slice_index, Some}
use Rattle.std.specs.List.Sorted.{IsNonDecreasing}
use Rattle.bl_syntax.specs.declared.limits.TheConstants.{MOST_STATEMENTS}
use Rattle.bl_syntax.specs.Statement.{StatementView}
use Rattle.policy_statement.specs.Digest.{digest_of}
use Rattle.policy_statement.specs.Registered.{RegisteredView}
use Rattle.policy_statement.specs.Registry.{statement_of_number}
use Rattle.policy_statement.specs.Withdrawal.{has_withdrawn}

-- the digest is none of these
abbrev pub IsMissing : List ℕ → ℕ → Type 0
IsMissing digests digest = (place : ℕ) → place < length digests → slice_index digests place ≢ digest

-- in rising order the digest may stand at this place
pub record IsPlace (rising : List ℕ) (digest place : ℕ) : Type 0 where
  pub within : place ≤ length rising
  pub below : (k : ℕ) → k < place → slice_index rising k ≤ digest
  pub above : (k : ℕ) → place ≤ k → k < length rising → digest ≤ slice_index rising k

-- no digest of what is registered is missing
abbrev pub HasDigests : List RegisteredView → List ℕ → Type 0
HasDigests entries digests = (number : ℕ) (s : StatementView) →
    statement_of_number entries number ≡ Some s → IsMissing digests (digest_of s) → ⊥

-- there are at most 4,096 entries, these are their digests in rising order, and this is whether one
-- of them was withdrawn
pub record IsIndexed (entries : List RegisteredView) (digests : List ℕ) (ended : Bool) : Type 0 where
  pub few : length entries ≤ MOST_STATEMENTS
  pub rising : IsNonDecreasing digests
  pub known : HasDigests entries digests
  pub ended_is : ended ≡ has_withdrawn entries
