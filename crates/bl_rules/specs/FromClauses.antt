-- What is derivable where all that is assumed are clauses, atoms that may stand after conditions on
-- the state and on times: no left rules apply then but those for claims and for
-- implications, and what is derivable can be read off the goal. It is this project's own, a second
-- account of a part of the logic to hold the rules against.
use Rattle.std.specs.Prelude.{◌≡◌, ◌⊎◌, ℤ, List, [], Contains}
use Rattle.bl_syntax.specs.declared.terms.TimePoint.TheVariants.{At}
use Rattle.bl_syntax.specs.declared.terms.Sort.TheVariants.{Time}
use Rattle.bl_syntax.specs.declared.terms.Term.{Term}
use Rattle.bl_syntax.specs.declared.terms.StatePred.{StatePred}
use Rattle.bl_syntax.specs.declared.terms.Constraint.{Constraint}
use Rattle.bl_syntax.specs.Entailment.{Entails}
use Rattle.bl_syntax.specs.Formula.{FormulaView, atom, compare, state, both, either, implies, truth, falsity, forall_, exists_, says, on}
use Rattle.bl_syntax.specs.TimeOrder.{IsUpTo}
use Rattle.bl_syntax.specs.Terms.{IsAtLeastAsStrong}
use Rattle.bl_syntax.specs.Statement.{StatementView}
use Rattle.bl_rules.specs.Sequent.{Hypothesis, holds, claims, Known, speak}
use Rattle.bl_rules.specs.Derivable.{Assumes, IsNotAfter, IsOfSort}
use Rattle.bl_rules.specs.DirectGrant.{SpeaksForAdmin}

-- a condition on the state and on times, without atoms
abbrev pub IsGuard : FormulaView → Type 0
IsGuard (atom name terms) = ⊥
IsGuard (compare c) = Unit {0}
IsGuard (state s) = Unit {0}
IsGuard (both a b) = IsGuard a × IsGuard b
IsGuard (either a b) = IsGuard a × IsGuard b
IsGuard (implies a b) = ⊥
IsGuard truth = Unit {0}
IsGuard falsity = Unit {0}
IsGuard (forall_ s a) = ⊥
IsGuard (exists_ s a) = ⊥
IsGuard (says k a) = ⊥
IsGuard (on a u v) = ⊥

-- the condition is met, by these constraints and facts
abbrev pub IsGuardMet : List Constraint → List StatePred → FormulaView → Type 0
IsGuardMet constraints facts (atom name terms) = ⊥
IsGuardMet constraints facts (compare c) = Entails constraints c.low c.high
IsGuardMet constraints facts (state s) = Contains facts s
IsGuardMet constraints facts (both a b) = IsGuardMet constraints facts a
    × IsGuardMet constraints facts b
IsGuardMet constraints facts (either a b) = IsGuardMet constraints facts a
    ⊎ IsGuardMet constraints facts b
IsGuardMet constraints facts (implies a b) = ⊥
IsGuardMet constraints facts truth = Unit {0}
IsGuardMet constraints facts falsity = ⊥
IsGuardMet constraints facts (forall_ s a) = ⊥
IsGuardMet constraints facts (exists_ s a) = ⊥
IsGuardMet constraints facts (says k a) = ⊥
IsGuardMet constraints facts (on a u v) = ⊥

-- an atom, or one after conditions
abbrev pub IsClause : FormulaView → Type 0
IsClause (atom name terms) = Unit {0}
IsClause (compare c) = ⊥
IsClause (state s) = ⊥
IsClause (both a b) = ⊥
IsClause (either a b) = ⊥
IsClause (implies a b) = IsGuard a × IsClause b
IsClause truth = ⊥
IsClause falsity = ⊥
IsClause (forall_ s a) = ⊥
IsClause (exists_ s a) = ⊥
IsClause (says k a) = ⊥
IsClause (on a u v) = ⊥

-- a truth or a claim of a clause
abbrev pub IsOfClause : Hypothesis → Type 0
IsOfClause (holds a u v) = IsClause a
IsOfClause (claims k a u v) = IsClause a

-- all hypotheses are
abbrev pub AssumesClauses : Known → Type 0
AssumesClauses known = (h : Hypothesis) → Assumes known h → IsOfClause h

-- a formula without implications and quantifiers
abbrev pub IsSimple : FormulaView → Type 0
IsSimple (atom name terms) = Unit {0}
IsSimple (compare c) = Unit {0}
IsSimple (state s) = Unit {0}
IsSimple (both a b) = IsSimple a × IsSimple b
IsSimple (either a b) = IsSimple a × IsSimple b
IsSimple (implies a b) = ⊥
IsSimple truth = Unit {0}
IsSimple falsity = Unit {0}
IsSimple (forall_ s a) = ⊥
IsSimple (exists_ s a) = ⊥
IsSimple (says k a) = IsSimple a
IsSimple (on a u v) = IsSimple a

-- the formula is true from one time to another: it is assumed; or claimed by a principal at least
-- as strong as the view's, on an interval that holds the view's; or it stands after
-- a condition that is met, in a formula that is true on an interval that holds this one
pub data IsTrueOn (known : Known) : FormulaView → Term → Term → Type 0 where
  assumed : (a : FormulaView) (from to : Term) → Assumes known (holds a from to)
      → IsTrueOn known a from to
  claimed : (a : FormulaView) (from to k : Term) → Assumes known (claims k a from to)
      → IsAtLeastAsStrong k known.view.who
      → IsNotAfter known from known.view.from → IsNotAfter known known.view.to to
      → IsTrueOn known a from to
  conditional : (a : FormulaView) (from to : Term) (guard : FormulaView) (first last : Term)
      → IsTrueOn known (implies guard a) first last → IsGuardMet known.constraints known.facts guard
      → IsOfSort known Time from → IsOfSort known Time to → IsNotAfter known first from
      → IsNotAfter known to last → IsTrueOn known a from to

-- it is so on an interval that holds this one
pub record IsTrueWithin (known : Known) (a : FormulaView) (u v : Term) : Type 0 where
  pub from : Term
  pub to : Term
  pub true_on : IsTrueOn known a from to
  pub begins : IsNotAfter known from u
  pub ends : IsNotAfter known v to

-- the goal follows
abbrev pub FollowsFromClauses : Known → FormulaView → Term → Term → Type 0
FollowsFromClauses known (atom name terms) u v = IsTrueWithin known (atom name terms) u v
FollowsFromClauses known (compare c) u v = IsNotAfter known c.low c.high
FollowsFromClauses known (state s) u v = Contains known.facts s
FollowsFromClauses known (both a b) u v = FollowsFromClauses known a u v
    × FollowsFromClauses known b u v
FollowsFromClauses known (either a b) u v = FollowsFromClauses known a u v
    ⊎ FollowsFromClauses known b u v
FollowsFromClauses known (implies a b) u v = ⊥
FollowsFromClauses known truth u v = Unit {0}
FollowsFromClauses known falsity u v = ⊥
FollowsFromClauses known (forall_ s a) u v = ⊥
FollowsFromClauses known (exists_ s a) u v = ⊥
FollowsFromClauses known (says k a) u v = FollowsFromClauses (speak k u v known) a u v
FollowsFromClauses known (on a from to) u v = FollowsFromClauses known a from to

-- the clause yields the formula, over these facts: it is that formula, after conditions that are
-- met
abbrev pub Yields : List StatePred → FormulaView → FormulaView → Type 0
Yields facts (atom name terms) goal = atom name terms ≡ goal
Yields facts (compare c) goal = ⊥
Yields facts (state s) goal = ⊥
Yields facts (both a b) goal = ⊥
Yields facts (either a b) goal = ⊥
Yields facts (implies a b) goal = IsGuardMet [] facts a × Yields facts b goal
Yields facts truth goal = ⊥
Yields facts falsity goal = ⊥
Yields facts (forall_ s a) goal = ⊥
Yields facts (exists_ s a) goal = ⊥
Yields facts (says k a) goal = ⊥
Yields facts (on a u v) goal = ⊥

-- a principal that speaks for `admin` states a clause that yields the formula, on an interval that
-- holds the moment
pub record IsYielded (statements : List StatementView) (facts : List StatePred) (moment : ℤ) (goal : FormulaView) : Type 0 where
  pub statement : StatementView
  pub among : Contains statements statement
  pub strong : SpeaksForAdmin statement.who
  pub yields : Yields facts statement.body goal
  pub begun : IsUpTo statement.from (At moment)
  pub not_ended : IsUpTo (At moment) statement.to
