-- What stands left of the turnstile of a sequent, and how a rule's premise adds to it (after the
-- sequent calculus of BL: Garg, Proof theory for authorization logic and its
-- application to a practical file system; that parameters are numbers is this project's own).
--
-- A sequent of BL has the sorts of its parameters, constraints between times, facts of the server's
-- state, hypotheses, a view, and a goal. The goal `A o [u,v]` says that A
-- holds at each time from u to v.
use Rattle.std.specs.Prelude.{List, [], ◌∷◌, ◌++◌, length}
use Rattle.bl_syntax.specs.declared.terms.Sort.{Sort}
use Rattle.bl_syntax.specs.declared.terms.Sort.TheVariants.{Time}
use Rattle.bl_syntax.specs.declared.terms.Term.{Term}
use Rattle.bl_syntax.specs.declared.terms.Term.TheVariants.{Param}
use Rattle.bl_syntax.specs.declared.terms.StatePred.{StatePred}
use Rattle.bl_syntax.specs.declared.terms.Constraint.{Constraint}
use Rattle.bl_syntax.specs.Formula.{FormulaView}

-- a truth, `A o [u,v]`: A holds from u to v. Or a claim, `K claims A o [u,v]`: the principal K
-- claims that A holds from u to v
pub data Hypothesis : Type 0 where
  holds : FormulaView → Term → Term → Hypothesis
  claims : Term → FormulaView → Term → Term → Hypothesis

-- whose claims count as truths, those of principals at least as strong; and for which interval
pub record View : Type 0 where
  pub who : Term
  pub from : Term
  pub to : Term

-- all of a sequent but its goal: the sorts of the parameters 0, 1 and so on, the constraints, the
-- facts, the hypotheses and the view
pub record Known : Type 0 where
  pub sorts : List Sort
  pub constraints : List Constraint
  pub facts : List StatePred
  pub hypotheses : List Hypothesis
  pub view : View

-- with one more hypothesis
abbrev pub learn : Hypothesis → Known → Known
learn hypothesis known = record known { hypotheses = known.hypotheses ++ hypothesis ∷ [] }

-- with the constraint that u is not after v
abbrev pub bound : Term → Term → Known → Known
bound u v known = record known { constraints = known.constraints ++ record { low = u; high = v } ∷ [] }

-- with one more fact of the state
abbrev pub observe : StatePred → Known → Known
observe fact known = record known { facts = known.facts ++ fact ∷ [] }

-- with one more parameter, of this sort
abbrev pub declare : Sort → Known → Known
declare s known = record known { sorts = known.sorts ++ s ∷ [] }

-- the parameter that is declared next. It has the next number, so it is new: it stands in nothing
-- that is in scope
abbrev pub new_parameter : Known → Term
new_parameter known = Param (length known.sorts)

-- the two times that are declared next
abbrev pub new_start : Known → Term
new_start known = new_parameter known

abbrev pub new_end : Known → Term
new_end known = new_parameter (declare Time known)

-- with A on a new interval, of which it is known that it lies within that from u to v
abbrev pub suppose : FormulaView → Term → Term → Known → Known
suppose a u v known = learn (holds a (new_start known) (new_end known))
    (bound (new_end known) v (bound u (new_start known) (declare Time (declare Time known))))

-- the claims among the hypotheses
abbrev pub claims_among : List Hypothesis → List Hypothesis
claims_among [] = []
claims_among (holds a u v ∷ others) = claims_among others
claims_among (claims k a u v ∷ others) = claims k a u v ∷ claims_among others

-- what the principal k may reason from, about the interval from u to v: the truths are struck out,
-- and the view is its own
abbrev pub speak : Term → Term → Term → Known → Known
speak k u v known = record known { hypotheses = claims_among known.hypotheses; view = record { who = k; from = u; to = v } }
