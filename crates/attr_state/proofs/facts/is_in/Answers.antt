use Rattle.bl_syntax.specs.declared.terms.StatePred.TheVariants.{InDir}
use Rattle.attr_state.specs.Index.{shown, marks_in}
use Rattle.attr_state.proofs.FactLemmas.{no_answer, directory_answer, root_answer, rising_in}
use Rattle.attr_state.proofs.facts.is_in.Goals as goal

pub returns-in-None : goal.returns-in-None
returns-in-None c =
    no_answer (marks_in c.args.ready.now c.args.marks.now.entries) (InDir c.args.node.now c.args.directory.now) (rising_in c.args.ready.now c.args.marks.now.entries c.requires) c.in-None.ensures.shown

pub returns-then-not-is_same : goal.returns-then-not-is_same
returns-then-not-is_same c =
    directory_answer (marks_in c.args.ready.now c.args.marks.now.entries) c.args.node.now c.args.directory.now (shown c.in-Some.mark.now) c.is_same.result c.is_same-then-not-is_same.result (rising_in c.args.ready.now c.args.marks.now.entries c.requires) c.in-Some.ensures.shown c.is_same.ensures
    c.if-not-is_same.true c.is_same-then-not-is_same.ensures

pub returns-else-not-is_same : goal.returns-else-not-is_same
returns-else-not-is_same c =
    root_answer (marks_in c.args.ready.now c.args.marks.now.entries) c.args.node.now c.args.directory.now (shown c.in-Some.mark.now) c.is_same.result (rising_in c.args.ready.now c.args.marks.now.entries c.requires) c.in-Some.ensures.shown c.is_same.ensures
    c.if-not-is_same.false
