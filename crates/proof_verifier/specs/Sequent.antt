-- A sequent as a proof meets it: hypotheses keep their numbers, also those that were struck out.
-- What a rule adds goes to the ends of lists (after the sequent calculus of BL: Garg,
-- Proof theory for authorization logic and its application to a practical file system; the numbers
-- are this project's own).
use Rattle.std.specs.Prelude.{List, [], ◌∷◌, ◌++◌, Option, Some, None, map, length}
use Rattle.bl_syntax.specs.declared.terms.Sort.{Sort}
use Rattle.bl_syntax.specs.declared.terms.Sort.TheVariants.{Time}
use Rattle.bl_syntax.specs.declared.terms.Term.{Term}
use Rattle.bl_syntax.specs.declared.terms.Term.TheVariants.{Param}
use Rattle.bl_syntax.specs.declared.terms.StatePred.{StatePred}
use Rattle.bl_syntax.specs.declared.terms.Constraint.{Constraint}
use Rattle.bl_syntax.specs.Formula.{FormulaView}
use Rattle.bl_rules.specs.Sequent.{Hypothesis, holds, claims, View}

-- the sorts of the parameters 0, 1 and so on, the constraints, the facts, the hypotheses by their
-- numbers from 0 (none if one was struck out), the view, and the goal on its
-- interval
pub record Sequent : Type 0 where
  pub sorts : List Sort
  pub constraints : List Constraint
  pub facts : List StatePred
  pub hypotheses : List (Option Hypothesis)
  pub view : View
  pub goal : FormulaView
  pub from : Term
  pub to : Term

-- with another goal on the same interval
abbrev pub aim : FormulaView → Sequent → Sequent
aim goal s = record s { goal = goal }

-- with another goal, from u to v
abbrev pub aim_at : FormulaView → Term → Term → Sequent → Sequent
aim_at goal u v s = record s { goal = goal; from = u; to = v }

-- with one more hypothesis
abbrev pub learn : Hypothesis → Sequent → Sequent
learn hypothesis s = record s { hypotheses = s.hypotheses ++ Some hypothesis ∷ [] }

-- with the constraint that u is not after v
abbrev pub bound : Term → Term → Sequent → Sequent
bound u v s = record s { constraints = s.constraints ++ record { low = u; high = v } ∷ [] }

-- with one more fact of the state
abbrev pub observe : StatePred → Sequent → Sequent
observe fact s = record s { facts = s.facts ++ fact ∷ [] }

-- with one more parameter, of this sort
abbrev pub declare : Sort → Sequent → Sequent
declare sort s = record s { sorts = s.sorts ++ sort ∷ [] }

-- the parameter that is declared next
abbrev pub new_parameter : Sequent → Term
new_parameter s = Param (length s.sorts)

-- the two times that are declared next
abbrev pub new_start : Sequent → Term
new_start s = new_parameter s

abbrev pub new_end : Sequent → Term
new_end s = new_parameter (declare Time s)

-- with A on a new interval, of which it is known that it lies within the goal's
abbrev pub suppose : FormulaView → Sequent → Sequent
suppose a s = learn (holds a (new_start s) (new_end s)) (bound (new_end s) s.to (bound s.from (new_start s) (declare Time (declare Time s))))

-- what is left of a hypothesis where truths are struck out: a claim
abbrev pub unless_truth : Option Hypothesis → Option Hypothesis
unless_truth None = None
unless_truth (Some (holds a u v)) = None
unless_truth (Some (claims k a u v)) = Some (claims k a u v)

-- what the principal k may reason from, about the goal's interval: the truths are struck out, and
-- the view is its own
abbrev pub speak : Term → Sequent → Sequent
speak k s = record s { hypotheses = map unless_truth s.hypotheses; view = record { who = k; from = s.from; to = s.to } }
