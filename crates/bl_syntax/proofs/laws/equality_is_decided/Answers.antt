use Rattle.bl_syntax.proofs.EqualityLemmas.{Decides-principal_eq, Decides-word_eq, Decides-text_eq, Decides-node_eq, Decides-perm_eq, Decides-sort_eq, Decides-time_point_eq, Decides-term_eq, Decides-constraint_eq, Decides-state_eq, Decides-goal_eq, Decides-grant_eq}
use Rattle.bl_syntax.proofs.laws.equality_is_decided.Goals as goal

pub returns : goal.returns
returns c = record {
  principals = Decides-principal_eq;
  words = Decides-word_eq;
  texts = Decides-text_eq;
  nodes = Decides-node_eq;
  permissions = Decides-perm_eq;
  sorts = Decides-sort_eq;
  times = Decides-time_point_eq;
  terms = Decides-term_eq;
  constraints = Decides-constraint_eq;
  states = Decides-state_eq;
  goals = Decides-goal_eq;
  grants = Decides-grant_eq;
}
