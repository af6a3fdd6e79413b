-- The same with other constraints, facts and hypotheses: for laws on what more of them derives.
use Rattle.std.specs.Prelude.{List, Contains}
use Rattle.bl_syntax.specs.declared.terms.Constraint.{Constraint}
use Rattle.bl_syntax.specs.declared.terms.StatePred.{StatePred}
use Rattle.bl_rules.specs.Sequent.{Hypothesis, Known}

-- with these constraints, facts and hypotheses instead of its own
abbrev pub given : List Constraint → List StatePred → List Hypothesis → Known → Known
given constraints facts hypotheses known = record known { constraints = constraints; facts = facts; hypotheses = hypotheses }

-- each item of the second list is in the first
abbrev pub Includes : {X : Type 0} → List X → List X → Type 0
Includes {X} larger smaller = (x : X) → Contains smaller x → Contains larger x
