use Rattle.std.proofs.Common.{Option, [], ◌∷◌, is_none, sym, ap}
use Rattle.file_world.specs.declared.refusal.Refusal.TheVariants.{NoNode}
use Rattle.file_world.specs.Outcome.{first_of}
use Rattle.file_world.specs.Attributes.{Mark}
use Rattle.attr_state.proofs.MarkLemmas.{mark_at-kept, mark_at-missing}
use Rattle.attr_state.proofs.refusals.node_refusal.Goals as goal

pub returns-in-None : goal.returns-in-None
returns-in-None c = sym (ap (λ (m : Option Mark). first_of ((is_none m, NoNode) ∷ [])) (mark_at-missing c.args.marks.now.entries c.args.number (sym c.in-None.ensures.value)))

pub returns-in-Some : goal.returns-in-Some
returns-in-Some c = sym (ap (λ (m : Option Mark). first_of ((is_none m, NoNode) ∷ [])) (mark_at-kept c.args.marks.now.entries c.args.number _ (sym c.in-Some.ensures.value)))
