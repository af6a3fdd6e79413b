use Rattle.bl_syntax.specs.declared.terms.Term.TheVariants.{Time}
use Rattle.bl_syntax.specs.Entailment.{same, from_the_start}
use Rattle.bl_constraints.proofs.constants.start_of.Goals as goal

pub returns-in-Time-clause-linked : goal.returns-in-Time-clause-linked
returns-in-Time-clause-linked c = rw c.in-Time.is (same (Time c.in-Time.point))

pub returns-in_default : goal.returns-in_default
returns-in_default c = record { linked = from_the_start c.args.t.now; constant = λ point e. absurd (c.in_default.not-Time point e) }
