-- Where chains lead by constraints, as a stack of them keeps it: of each, where they led by those
-- before it. It is this project's own.
use Rattle.std.specs.Prelude.{◌≡◌, ◌≤◌, ◌↔◌, ℕ, List, [], ◌∷◌, ◌++◌, map, take, length, Some, IsTrue}
use Rattle.std.specs.List.{slice_get}
use Rattle.bl_syntax.specs.declared.terms.TimePoint.{TimePoint}
use Rattle.bl_syntax.specs.declared.terms.Term.{Term}
use Rattle.bl_syntax.specs.declared.terms.Term.TheVariants.{Time}
use Rattle.bl_syntax.specs.declared.terms.Constraint.{Constraint}
use Rattle.bl_syntax.specs.TimeOrder.{IsUpTo}
use Rattle.bl_syntax.specs.Entailment.{IsLink, IsChain, IsContradictory}
use Rattle.bl_constraints.specs.declared.tracked.Tracked.{Tracked}
use Rattle.bl_constraints.specs.Places.{HasPlace}

-- the constraint at a place
abbrev pub StandsAt : List Constraint → ℕ → Constraint → Type 0
StandsAt psi place c = slice_get psi place ≡ Some c

-- a chain leads from the term to the low side of the constraint at the place
pub record IsLedTo (psi : List Constraint) (u : Term) (place : ℕ) : Type 0 where
  pub constraint : Constraint
  pub stands : StandsAt psi place constraint
  pub chain : IsChain psi u constraint.low

-- a chain leads from the high side of the constraint at the place to the term
pub record LeadsTo (psi : List Constraint) (t : Term) (place : ℕ) : Type 0 where
  pub constraint : Constraint
  pub stands : StandsAt psi place constraint
  pub chain : IsChain psi constraint.high t

-- the places of those to which chains lead from the term, and of those from which they lead to it
pub record AreAfter (psi : List Constraint) (u : Term) (words : List ℕ) : Type 0 where
  pub each : (place : ℕ) → HasPlace words place ↔ IsLedTo psi u place

pub record AreBefore (psi : List Constraint) (t : Term) (words : List ℕ) : Type 0 where
  pub each : (place : ℕ) → HasPlace words place ↔ LeadsTo psi t place

-- one of these places has a constraint whose high side is linked to the term
pub record IsOnward (psi : List Constraint) (words : List ℕ) (v : Term) : Type 0 where
  pub place : ℕ
  pub constraint : Constraint
  pub has_place : HasPlace words place
  pub stands : StandsAt psi place constraint
  pub onto : IsLink [] constraint.high v

-- what is kept of a constraint is true of it and those before it
pub record IsTracked (psi : List Constraint) (item : Tracked) : Type 0 where
  pub before : AreBefore psi item.constraint.low item.before.words
  pub after : AreAfter psi item.constraint.high item.after.words
  pub contradicts : IsTrue item.contradicts ↔ IsContradictory (psi ++ item.constraint ∷ [])

abbrev pub constraints_of : List Tracked → List Constraint
constraints_of items = map (λ (item : Tracked). item.constraint) items

-- so it is of each
pub record AreTracked (items : List Tracked) : Type 0 where
  pub few : length items ≤ 512
  pub each : (place : ℕ) (item : Tracked) → slice_get items place ≡ Some item →
      IsTracked (take place (constraints_of items)) item

-- the latest constant from which a chain leads to the term
pub record IsLatestStart (psi : List Constraint) (t : Term) (latest : TimePoint) : Type 0 where
  pub chain : IsChain psi (Time latest) t
  pub bound : (point : TimePoint) → IsChain psi (Time point) t → IsUpTo point latest

-- the earliest constant to which a chain leads from the term
pub record IsEarliestEnd (psi : List Constraint) (u : Term) (earliest : TimePoint) : Type 0 where
  pub chain : IsChain psi u (Time earliest)
  pub bound : (point : TimePoint) → IsChain psi u (Time point) → IsUpTo earliest point
