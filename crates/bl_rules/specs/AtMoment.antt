-- What is known, at a moment: the moment instead of the current time, throughout.
use Rattle.std.specs.Prelude.{ℤ, map}
use Rattle.bl_syntax.specs.Terms.{term_at, constraint_at, state_at}
use Rattle.bl_syntax.specs.Substitution.{formula_at}
use Rattle.bl_rules.specs.Sequent.{Hypothesis, holds, claims, View, Known}

abbrev pub hypothesis_at : ℤ → Hypothesis → Hypothesis
hypothesis_at moment (holds a u v) = holds (formula_at moment a) (term_at moment u) (term_at moment v)
hypothesis_at moment (claims k a u v) = claims (term_at moment k) (formula_at moment a) (term_at moment u) (term_at moment v)

abbrev pub view_at : ℤ → View → View
view_at moment view = record { who = term_at moment view.who; from = term_at moment view.from; to = term_at moment view.to }

abbrev pub known_at : ℤ → Known → Known
known_at moment known = record {
  sorts = known.sorts;
  constraints = map (constraint_at moment) known.constraints;
  facts = map (state_at moment) known.facts;
  hypotheses = map (hypothesis_at moment) known.hypotheses;
  view = view_at moment known.view;
}
