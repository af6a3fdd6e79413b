-- What the making of a store reports, and what a crash within it may leave. This project's own.
use Rattle.std.specs.Prelude.{◌≡◌, ◌⊎◌, ℕ, ◌+◌, List, [], length, None, false}
use Rattle.policy_statement.specs.Ring.{KeyView}
use Rattle.access_history.specs.Replay.{fresh}
use Rattle.pcfs_store.specs.Image.{fresh_image}
use Rattle.pcfs_store.specs.Newest.{newest, SurvivesWholeClosed}
use Rattle.pcfs_store.specs.StoreView.{StoreView}

-- a store under this key and this ring before its first event, whose area is on the first disk and
-- has the generation 1
pub record IsNewStore {D : Type 0} (key : List ℕ) (ring : List KeyView) (s : StoreView D) : Type 0 where
  pub key_is : s.key ≡ key
  pub ring_is : s.ring ≡ ring
  pub base_is : s.base ≡ fresh
  pub no_events : s.events ≡ []
  pub no_checkpoints : s.checkpoints ≡ []
  pub generation_is : s.generation ≡ 1
  pub opened_is : s.opened ≡ fresh_image
  pub used_is : s.used ≡ 24 + length fresh_image
  pub on_first : s.second_active ≡ false
  pub running : s.stop ≡ None

-- neither area is open, or the newest one is that of a store before its first event
abbrev pub IsNoneOrFresh : List ℕ → List ℕ → Type 0
IsNoneOrFresh first second = (newest first second ≡ None) ⊎
    SurvivesWholeClosed fresh [] first second

-- A crash at any moment of the one disk and at any of the other, while they went from a and b to
-- new ones, leaves only pairs with P.
module _ {D : Type 0} (clock : D → ℕ) (left_since : D → ℕ → List ℕ → Type 0) where
  abbrev pub PairsLeft : (List ℕ → List ℕ → Type 0) → D → D → D → D → Type 0
  PairsLeft P a b new_a new_b = (first second : List ℕ) → left_since new_a (clock a) first →
      left_since new_b (clock b) second → P first second
