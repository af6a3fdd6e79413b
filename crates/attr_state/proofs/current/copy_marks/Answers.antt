-- A clone shows the same, so what is ready in it can be given up.
use Rattle.std.proofs.Common.{◌∙◌}
use Rattle.attr_state.proofs.CopyLemmas.{marks_copied, AreOrdered-same, marks_in-same}
use Rattle.attr_state.proofs.current.copy_marks.Goals as goal

pub forget-requires : goal.forget-requires
forget-requires c =
    let old = c.args.marks.now.entries in
    let new = c.in_ok-copied.copied.entries in
    AreOrdered-same old new c.requires (marks_copied old new c.in_ok-copied.ensures.cases)

pub returns-clause-same : goal.returns-clause-same
returns-clause-same c =
    let old = c.args.marks.now.entries in
    let new = c.in_ok-copied.copied.entries in
    c.forget.ensures.same ∙ marks_in-same c.args.ready.now old new (marks_copied old new c.in_ok-copied.ensures.cases)
