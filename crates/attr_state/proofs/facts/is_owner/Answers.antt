use Rattle.bl_syntax.specs.declared.terms.StatePred.TheVariants.{Owner}
use Rattle.attr_state.specs.Index.{shown, marks_in}
use Rattle.attr_state.proofs.FactLemmas.{no_answer, owner_answer, rising_in}
use Rattle.attr_state.proofs.facts.is_owner.Goals as goal

pub returns-in-None : goal.returns-in-None
returns-in-None c =
    no_answer (marks_in c.args.ready.now c.args.marks.now.entries) (Owner c.args.node.now c.args.owner.now) (rising_in c.args.ready.now c.args.marks.now.entries c.requires) c.in-None.ensures.shown

pub returns-in-Some : goal.returns-in-Some
returns-in-Some c =
    owner_answer (marks_in c.args.ready.now c.args.marks.now.entries) c.args.node.now c.args.owner.now (shown c.in-Some.mark.now) c.is_same.result (rising_in c.args.ready.now c.args.marks.now.entries c.requires) c.in-Some.ensures.shown c.is_same.ensures
