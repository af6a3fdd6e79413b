-- Equality of names, terms, constraints, predicates on the server's state, goals and grants, as
-- `==` computes it (this project's own).
use Rattle.std.specs.Prelude.{ℕ, List, Bool, ◌&&◌, ◌==◌}
use Rattle.std.specs.Cmp.Lexicographic.{pointwise}
use Rattle.bl_syntax.specs.declared.terms.NodeId.{NodeId}
use Rattle.bl_syntax.specs.declared.terms.Perm.{Perm}
use Rattle.bl_syntax.specs.declared.terms.Sort.{Sort}
use Rattle.bl_syntax.specs.declared.terms.TimePoint.{TimePoint}
use Rattle.bl_syntax.specs.declared.terms.Term.{Term}
use Rattle.bl_syntax.specs.declared.terms.Constraint.{Constraint}
use Rattle.bl_syntax.specs.declared.terms.StatePred.{StatePred}
use Rattle.bl_syntax.specs.declared.grant.Goal.{Goal}
use Rattle.bl_syntax.specs.Grant.{GrantView}
use Rattle.bl_syntax.specs.contracts.names.PrincipalPartialEq.TheImpl as principal
use Rattle.bl_syntax.specs.contracts.names.WordPartialEq.TheImpl as word
use Rattle.bl_syntax.specs.contracts.names.TextPartialEq.TheImpl as text
use Rattle.bl_syntax.specs.contracts.terms.NodeIdPartialEq.TheImpl as node
use Rattle.bl_syntax.specs.contracts.terms.PermPartialEq.TheImpl as perm
use Rattle.bl_syntax.specs.contracts.terms.SortPartialEq.TheImpl as sort
use Rattle.bl_syntax.specs.contracts.terms.TimePointPartialEq.TheImpl as time_point
use Rattle.bl_syntax.specs.contracts.terms.TermPartialEq.TheImpl as term
use Rattle.bl_syntax.specs.contracts.terms.ConstraintPartialEq.TheImpl as constraint
use Rattle.bl_syntax.specs.contracts.terms.StatePredPartialEq.TheImpl as state
use Rattle.bl_syntax.specs.contracts.grant.GoalPartialEq.TheImpl as goal

-- whether two values are the same
abbrev pub principal_eq : List ℕ → List ℕ → Bool
principal_eq = principal.ghosts.eq

abbrev pub word_eq : List ℕ → List ℕ → Bool
word_eq = word.ghosts.eq

abbrev pub text_eq : List ℕ → List ℕ → Bool
text_eq = text.ghosts.eq

abbrev pub node_eq : NodeId → NodeId → Bool
node_eq = node.ghosts.eq

abbrev pub perm_eq : Perm → Perm → Bool
perm_eq = perm.ghosts.eq

abbrev pub sort_eq : Sort → Sort → Bool
sort_eq = sort.ghosts.eq

abbrev pub time_point_eq : TimePoint → TimePoint → Bool
time_point_eq = time_point.ghosts.eq

abbrev pub term_eq : Term → Term → Bool
term_eq = term.ghosts.eq

abbrev pub constraint_eq : Constraint → Constraint → Bool
constraint_eq = constraint.ghosts.eq

abbrev pub state_eq : StatePred → StatePred → Bool
state_eq = state.ghosts.eq

abbrev pub goal_eq : Goal → Goal → Bool
goal_eq = goal.ghosts.eq

-- the goals, the conditions in their order, and the numbers
abbrev pub grant_eq : GrantView → GrantView → Bool
grant_eq a b =
    goal_eq a.goal b.goal && (pointwise constraint_eq a.times b.times && (pointwise state_eq a.states b.states && pointwise ◌==◌ a.cited b.cited))
