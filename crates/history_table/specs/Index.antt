-- The index of issues by the fronts of their tags. This project's own; nothing but speed depends on
-- it.
use Rattle.std.specs.Prelude.{◌≡◌, ◌<◌, ℕ, List, Option, Some, MatchOption, map, length}
use Rattle.std.specs.BTreeMap.{is_at}
use Rattle.std.specs.List.{slice_get}
use Rattle.std.specs.Map.{lookup}
use Rattle.std.specs.Ordering.{nat_cmp}
use Rattle.bl_syntax.specs.Grant.{GrantView}
use Rattle.procap.specs.Genuine.{seal_of}
use Rattle.issue_standings.specs.Index.{front_of}
use Rattle.access_history.specs.declared.event.Issue.{Issue}
use Rattle.history_table.specs.declared.issues.IssueIndex.{IssueIndex}

-- the digest of a grant: of its tag under a key
abbrev pub digest_of : List ℕ → GrantView → ℕ
digest_of key g = front_of (seal_of key g)

-- the digests of issues, in order
abbrev pub digests_of : List ℕ → List Issue → List ℕ
digests_of key issues = map (λ (issue : Issue). digest_of key issue.grant) issues

-- the place that is entered for a digest
abbrev pub place_for : IssueIndex → ℕ → Option ℕ
place_for index digest = lookup (is_at (nat_cmp digest)) index.latest.entries

-- no place below the bound has the digest
abbrev pub HasNoPlace : List ℕ → ℕ → ℕ → Type 0
HasNoPlace digests bound digest = (place : ℕ) → place < bound →
    slice_get digests place ≡ Some digest → ⊥

-- it is the last place below the bound that has the digest
pub record IsLastPlace (digests : List ℕ) (bound digest last : ℕ) : Type 0 where
  pub below : last < bound
  pub there : slice_get digests last ≡ Some digest
  pub none_later : (place : ℕ) → last < place → place < bound →
      slice_get digests place ≡ Some digest → ⊥

-- the last place below the bound that has the digest, or none has it
abbrev pub FindsLast : List ℕ → ℕ → ℕ → Option ℕ → Type 0
FindsLast digests bound digest answer = MatchOption answer (HasNoPlace digests bound digest) (IsLastPlace digests bound digest)

-- the index of issues with these digests: for each digest the last place that has it, and for each
-- place the one before it that has the same
pub record IsIndexOf (digests : List ℕ) (index : IssueIndex) : Type 0 where
  pub sized : length index.earlier.items ≡ length digests
  pub latest : (digest : ℕ) → FindsLast digests (length digests) digest (place_for index digest)
  pub earlier : (place digest : ℕ) (before : Option ℕ) → slice_get digests place ≡ Some digest →
      slice_get index.earlier.items place ≡ Some before → FindsLast digests place digest before
