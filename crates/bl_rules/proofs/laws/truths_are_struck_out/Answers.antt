use Rattle.bl_rules.proofs.SequentExamples.{truth_holds, truth_is_not_said}
use Rattle.bl_rules.proofs.laws.truths_are_struck_out.Goals as goal

pub returns : goal.returns
returns c = record { true_ = truth_holds; not_said = truth_is_not_said }
