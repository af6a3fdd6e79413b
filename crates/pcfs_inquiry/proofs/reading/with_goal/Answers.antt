-- A line comes after the goal, or nothing does.
use Rattle.std.proofs.Common.{ap, length, subst, sym, ℕ, ◌+◌}
use Rattle.line_text.specs.Lines.{lines_of}
use Rattle.line_forms.specs.declared.fault.LineFault.TheVariants.{BadWord}
use Rattle.pcfs_inquiry.specs.Inquiry.{HasFirstFault}
use Rattle.pcfs_inquiry.proofs.InquiryLemmas.{after_goal_bad, goal_read}
use Rattle.pcfs_inquiry.proofs.reading.with_goal.Goals as goal

pub returns-in-Some : goal.returns-in-Some
returns-in-Some c lines is =
    subst (λ (n : ℕ). HasFirstFault lines (n + 2) (BadWord 0)) (sym (ap length c.as_slice.ensures.value))
    (after_goal_bad lines c.args.cites.items c.args.goal c.args.proof (lines_of c.args.others.now) _ _ is c.in-Some.ensures.lines)

pub returns-in-None : goal.returns-in-None
returns-in-None c lines is = goal_read lines c.args.cites.items c.new-cites.result c.args.goal c.args.proof c.args.others.now is c.in-None.ensures.lines c.new-cites.ensures
