-- What is derivable: the sequent calculus of this project's profile of BL (after Garg, Proof theory
-- for authorization logic and its application to a practical file system; Garg
-- and Pfenning, A proof-carrying file system, 2010).
--
-- Right rules and the initial rule go by the goal, left rules by a hypothesis, which stays. Each
-- rule is named as in the table of proof rules; what it adds goes to the ends of
-- lists, as a proof numbers it.
use Rattle.std.specs.Prelude.{ℕ, List, [], Contains}
use Rattle.bl_syntax.specs.declared.terms.Sort.{Sort}
use Rattle.bl_syntax.specs.declared.terms.Sort.TheVariants.{Time}
use Rattle.bl_syntax.specs.declared.terms.Term.{Term}
use Rattle.bl_syntax.specs.declared.terms.StatePred.{StatePred}
use Rattle.bl_syntax.specs.declared.terms.Constraint.{Constraint}
use Rattle.bl_syntax.specs.Formula.{FormulaView, atom, compare, state, both, either, implies, truth, falsity, forall_, exists_, says, on}
use Rattle.bl_syntax.specs.Terms.{IsAtLeastAsStrong}
use Rattle.bl_syntax.specs.WellSorted.{HasSort}
use Rattle.bl_syntax.specs.Substitution.{instance_at}
use Rattle.bl_syntax.specs.Entailment.{Entails}
use Rattle.bl_rules.specs.Sequent.{Hypothesis, holds, claims, Known, learn, bound, observe, declare, new_parameter, new_start, new_end, suppose, speak}

-- the hypothesis is among those that are known
abbrev pub Assumes : Known → Hypothesis → Type 0
Assumes known hypothesis = Contains known.hypotheses hypothesis

-- by what is known, u is not after v
abbrev pub IsNotAfter : Known → Term → Term → Type 0
IsNotAfter known u v = Entails known.constraints u v

-- the term is in scope and has this sort: it holds no bound variable, and a parameter in it is
-- declared
abbrev pub IsOfSort : Known → Sort → Term → Type 0
IsOfSort known s t = HasSort known.sorts [] s t

-- from what is known, the formula holds from the first time to the second
pub data Derivable : Known → FormulaView → Term → Term → Type 0 where
  -- an atom is derivable if a truth of it is known on an interval that holds the goal's
  init : {known : Known} {name : List ℕ} {terms : List Term} {u v : Term} (from to : Term)
      → Assumes known (holds (atom name terms) from to) → IsNotAfter known from u
      → IsNotAfter known v to
      → Derivable known (atom name terms) u v
  -- a constraint is derivable if the constraints entail it
  cons_r : {known : Known} {c : Constraint} {u v : Term}
      → IsNotAfter known c.low c.high
      → Derivable known (compare c) u v
  -- a predicate on the state is derivable if it is a fact
  inter_r : {known : Known} {s : StatePred} {u v : Term}
      → Contains known.facts s
      → Derivable known (state s) u v
  -- A & B: both
  and_r : {known : Known} {a b : FormulaView} {u v : Term}
      → Derivable known a u v → Derivable known b u v
      → Derivable known (both a b) u v
  -- A | B: the first, or the second
  or_r1 : {known : Known} {a b : FormulaView} {u v : Term}
      → Derivable known a u v
      → Derivable known (either a b) u v
  or_r2 : {known : Known} {a b : FormulaView} {u v : Term}
      → Derivable known b u v
      → Derivable known (either a b) u v
  true_r : {known : Known} {u v : Term}
      → Derivable known truth u v
  -- A => B: on an interval of which nothing more is known than that it lies within the goal's, from
  -- A there B there
  imp_r : {known : Known} {a b : FormulaView} {u v : Term}
      → Derivable (suppose a u v known) b (new_start known) (new_end known)
      → Derivable known (implies a b) u v
  -- forall: at a new parameter of the sort
  forall_r : {known : Known} {s : Sort} {a : FormulaView} {u v : Term}
      → Derivable (declare s known) (instance_at (new_parameter known) a) u v
      → Derivable known (forall_ s a) u v
  -- exists: at some term of the sort
  exists_r : {known : Known} {s : Sort} {a : FormulaView} {u v : Term} (t : Term)
      → IsOfSort known s t → Derivable known (instance_at t a) u v
      → Derivable known (exists_ s a) u v
  -- K says A: from the claims alone, A, in the view of K over the goal's interval
  says_r : {known : Known} {k : Term} {a : FormulaView} {u v : Term}
      → Derivable (speak k u v known) a u v
      → Derivable known (says k a) u v
  -- A @ [from,to]: A on that interval, whatever the goal's is
  at_r : {known : Known} {a : FormulaView} {from to u v : Term}
      → Derivable known a from to
      → Derivable known (on a from to) u v
  -- from a truth of a constraint: it is one of the constraints
  cons_l : {known : Known} {goal : FormulaView} {u v : Term} (c : Constraint) (from to : Term)
      → Assumes known (holds (compare c) from to)
      → Derivable (bound c.low c.high known) goal u v
      → Derivable known goal u v
  -- from a truth of a predicate on the state: it is a fact
  inter_l : {known : Known} {goal : FormulaView} {u v : Term} (s : StatePred) (from to : Term)
      → Assumes known (holds (state s) from to)
      → Derivable (observe s known) goal u v
      → Derivable known goal u v
  -- from A & B: both, A first
  and_l : {known : Known} {goal : FormulaView} {u v : Term} (a b : FormulaView) (from to : Term)
      → Assumes known (holds (both a b) from to)
      → Derivable (learn (holds b from to) (learn (holds a from to) known)) goal u v
      → Derivable known goal u v
  -- from A | B: the goal from either
  or_l : {known : Known} {goal : FormulaView} {u v : Term} (a b : FormulaView) (from to : Term)
      → Assumes known (holds (either a b) from to)
      → Derivable (learn (holds a from to) known) goal u v
      → Derivable (learn (holds b from to) known) goal u v
      → Derivable known goal u v
  -- from false: any goal
  false_l : {known : Known} {goal : FormulaView} {u v : Term} (from to : Term)
      → Assumes known (holds falsity from to)
      → Derivable known goal u v
  -- from A => B: on an interval [x,y] within that of the truth, if A is derivable there, the goal
  -- from B there
  imp_l : {known : Known} {goal : FormulaView} {u v : Term} (a b : FormulaView) (from to x y : Term)
      → Assumes known (holds (implies a b) from to)
      → IsOfSort known Time x → IsOfSort known Time y → IsNotAfter known from x
      → IsNotAfter known y to
      → Derivable known a x y → Derivable (learn (holds b x y) known) goal u v
      → Derivable known goal u v
  -- from forall: the instance at some term of the sort
  forall_l : {known : Known} {goal : FormulaView} {u v : Term} (s : Sort) (a : FormulaView) (from to t : Term)
      → Assumes known (holds (forall_ s a) from to)
      → IsOfSort known s t
      → Derivable (learn (holds (instance_at t a) from to) known) goal u v
      → Derivable known goal u v
  -- from exists: the instance at a new parameter of the sort
  exists_l : {known : Known} {goal : FormulaView} {u v : Term} (s : Sort) (a : FormulaView) (from to : Term)
      → Assumes known (holds (exists_ s a) from to)
      → Derivable (learn (holds (instance_at (new_parameter known) a) from to) (declare s known)) goal u v
      → Derivable known goal u v
  -- from K says A: K claims A, on the same interval
  says_l : {known : Known} {goal : FormulaView} {u v : Term} (k : Term) (a : FormulaView) (from to : Term)
      → Assumes known (holds (says k a) from to)
      → Derivable (learn (claims k a from to) known) goal u v
      → Derivable known goal u v
  -- from a claim: its formula is a truth on the same interval, where who claims it is at least as
  -- strong as the view's principal and that interval holds the view's
  claim : {known : Known} {goal : FormulaView} {u v : Term} (k : Term) (a : FormulaView) (from to : Term)
      → Assumes known (claims k a from to)
      → IsAtLeastAsStrong k known.view.who → IsNotAfter known from known.view.from
      → IsNotAfter known known.view.to to
      → Derivable (learn (holds a from to) known) goal u v
      → Derivable known goal u v
  -- from A @ [x,y]: A on that interval, whatever the truth's is
  at_l : {known : Known} {goal : FormulaView} {u v : Term} (a : FormulaView) (x y from to : Term)
      → Assumes known (holds (on a x y) from to)
      → Derivable (learn (holds a x y) known) goal u v
      → Derivable known goal u v
