-- The forms that rules ask for: the parts of a formula or hypothesis that has the form, or a fault
-- at the node.
use Rattle.std.specs.Prelude.{ℕ, List, Option, Result, Ok, Err, option_and_then, ◌&&◌, if◌then◌else◌}
use Rattle.std.specs.Option.{ok_or}
use Rattle.std.specs.List.{slice_get}
use Rattle.std.specs.Str.{bytes_eq}
use Rattle.bl_syntax.specs.declared.terms.Sort.{Sort}
use Rattle.bl_syntax.specs.declared.terms.Term.{Term}
use Rattle.bl_syntax.specs.declared.terms.StatePred.{StatePred}
use Rattle.bl_syntax.specs.declared.terms.Constraint.{Constraint}
use Rattle.bl_syntax.specs.Formula.{FormulaView, atom, compare, state, both, either, implies, truth, falsity, forall_, exists_, says, on}
use Rattle.bl_rules.specs.Sequent.{Hypothesis, holds, claims}
use Rattle.proof_verifier.specs.Tests.{are_same}
use Rattle.proof_verifier.specs.declared.fault.CheckFault.{CheckFault}
use Rattle.proof_verifier.specs.declared.fault.CheckFault.TheVariants.{NoHypothesis, WrongShape}

-- one step, and then another that goes by what the first gave; the first fault ends both
abbrev pub and_then : {A B : Type 0} → Result A CheckFault → (A → Result B CheckFault) →
    Result B CheckFault
and_then (Ok found) later = later found
and_then (Err fault) later = Err fault

-- the hypothesis with that number, unless it was struck out
abbrev pub cited_hypothesis : ℕ → List (Option Hypothesis) → ℕ → Result Hypothesis CheckFault
cited_hypothesis node hypotheses h = ok_or (option_and_then (λ (left : Option Hypothesis). left) (slice_get hypotheses h)) (NoHypothesis node)

-- a truth: its formula and its interval
abbrev pub as_truth : ℕ → Hypothesis → Result (FormulaView × Term × Term) CheckFault
as_truth node (holds a u v) = Ok (a, u, v)
as_truth node (claims k a u v) = Err (WrongShape node)

-- a claim: who claims which formula, and its interval
abbrev pub as_claim : ℕ → Hypothesis → Result (Term × FormulaView × Term × Term) CheckFault
as_claim node (holds a u v) = Err (WrongShape node)
as_claim node (claims k a u v) = Ok (k, a, u, v)

-- the truth with that number
abbrev pub truth_at : ℕ → List (Option Hypothesis) → ℕ →
    Result (FormulaView × Term × Term) CheckFault
truth_at node hypotheses h = and_then (cited_hypothesis node hypotheses h) (as_truth node)

-- the claim with that number
abbrev pub claim_at : ℕ → List (Option Hypothesis) → ℕ →
    Result (Term × FormulaView × Term × Term) CheckFault
claim_at node hypotheses h = and_then (cited_hypothesis node hypotheses h) (as_claim node)

-- an atom: its name and its arguments
abbrev pub as_atom : ℕ → FormulaView → Result (List ℕ × List Term) CheckFault
as_atom node (atom name terms) = Ok (name, terms)
as_atom node _ = Err (WrongShape node)

-- the two formulas are one atom
abbrev pub as_same_atom : ℕ → FormulaView → FormulaView → Result (Unit {0}) CheckFault
as_same_atom node a b =
    and_then (as_atom node a) (λ (name, terms).
    and_then (as_atom node b) (λ (other_name, other_terms).
    if bytes_eq name other_name && are_same terms other_terms then Ok tt else Err (WrongShape node)))

abbrev pub as_constraint : ℕ → FormulaView → Result Constraint CheckFault
as_constraint node (compare c) = Ok c
as_constraint node _ = Err (WrongShape node)

abbrev pub as_state : ℕ → FormulaView → Result StatePred CheckFault
as_state node (state s) = Ok s
as_state node _ = Err (WrongShape node)

-- A & B: both parts
abbrev pub as_both : ℕ → FormulaView → Result (FormulaView × FormulaView) CheckFault
as_both node (both a b) = Ok (a, b)
as_both node _ = Err (WrongShape node)

-- A | B: both parts
abbrev pub as_either : ℕ → FormulaView → Result (FormulaView × FormulaView) CheckFault
as_either node (either a b) = Ok (a, b)
as_either node _ = Err (WrongShape node)

-- A => B: both parts
abbrev pub as_implies : ℕ → FormulaView → Result (FormulaView × FormulaView) CheckFault
as_implies node (implies a b) = Ok (a, b)
as_implies node _ = Err (WrongShape node)

abbrev pub as_true : ℕ → FormulaView → Result (Unit {0}) CheckFault
as_true node truth = Ok tt
as_true node _ = Err (WrongShape node)

abbrev pub as_false : ℕ → FormulaView → Result (Unit {0}) CheckFault
as_false node falsity = Ok tt
as_false node _ = Err (WrongShape node)

-- forall: the sort and the body
abbrev pub as_forall : ℕ → FormulaView → Result (Sort × FormulaView) CheckFault
as_forall node (forall_ s a) = Ok (s, a)
as_forall node _ = Err (WrongShape node)

-- exists: the sort and the body
abbrev pub as_exists : ℕ → FormulaView → Result (Sort × FormulaView) CheckFault
as_exists node (exists_ s a) = Ok (s, a)
as_exists node _ = Err (WrongShape node)

-- K says A: the principal and the formula
abbrev pub as_says : ℕ → FormulaView → Result (Term × FormulaView) CheckFault
as_says node (says k a) = Ok (k, a)
as_says node _ = Err (WrongShape node)

-- A @ [u,v]: the formula and the interval
abbrev pub as_on : ℕ → FormulaView → Result (FormulaView × Term × Term) CheckFault
as_on node (on a u v) = Ok (a, u, v)
as_on node _ = Err (WrongShape node)
