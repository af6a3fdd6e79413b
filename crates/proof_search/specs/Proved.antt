-- What a proof that was found keeps (this project's own).
use Rattle.std.specs.Prelude.{◌≡◌, ℕ, List, map, Contains}
use Rattle.std.specs.List.{AllByRecursion}
use Rattle.proof_verifier.specs.declared.cites.Cite.{Cite}
use Rattle.proof_verifier.specs.Cited.{AreCited}
use Rattle.proof_verifier.specs.CheckedView.{IsChecked}
use Rattle.proof_search.specs.declared.asked.Asked.{Asked}
use Rattle.proof_search.specs.declared.answers.Proved.{Proved}
use Rattle.proof_search.specs.Asked.{AreLeft, AreMet}

-- these are statements of the list, under these numbers
pub record AreAmong (statements : List Cite) (numbers : List ℕ) (cites : List Cite) : Type 0 where
  pub numbers_are : numbers ≡ map (λ (c : Cite). c.number) cites
  pub among : AllByRecursion (Contains statements) cites

-- The proof is one of the goal that is asked for, from statements of the list under these numbers.
-- It has a verdict: a grant, which is sound for them.
-- Its conditions on time hold at the moments that are asked for, and those on the state are facts,
-- or may be left over.
pub record IsProved (statements : List Cite) (asked : Asked) (proved : Proved) : Type 0 where
  pub goal_is : proved.checked.goal ≡ asked.goal
  pub cited : AreAmong statements proved.numbers proved.checked.cited
  pub rising : AreCited proved.checked.cited
  pub granted : IsChecked proved.checked
  pub times : AreMet asked.moments proved.checked.grant.times
  pub states : AreLeft asked.facts asked.leaves proved.checked.grant.states
