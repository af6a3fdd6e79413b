-- Statements are read one after the other, then the goal; or a line is wrong.
use Rattle.std.proofs.Common.{List, [], ap, length, subst, sym, ℕ, ◌+◌, ◌++◌, ◌∙◌, ◌∷◌}
use Rattle.line_text.specs.Lines.{lines_of}
use Rattle.line_forms.specs.declared.fault.LineFault.TheVariants.{BadWord}
use Rattle.line_forms.specs.declared.asked.Line.TheVariants as asked
use Rattle.proof_verifier.specs.declared.cites.Cite.{Cite}
use Rattle.pcfs_inquiry.specs.Inquiry.{HasFirstFault}
use Rattle.pcfs_inquiry.specs.Reading.{IsAskedAfter, IsUnread, IsUnreadAfter, fault_at}
use Rattle.pcfs_inquiry.proofs.InquiryLemmas.{IsEnding-next, IsReading, IsReading-more, IsReading-none, IsUnread-next, no_goal_left}
use Rattle.pcfs_inquiry.proofs.reading.read_inquiry.Goals as goal

pub loop-line-init : goal.loop-line-init
loop-line-init c = subst (λ (cs : List Cite). IsReading (lines_of c.args.input.now) cs c.args.input.now) (sym c.new-cites.ensures.items) (IsReading-none c.args.input.now)

pub returns-in-Ok-Goal : goal.returns-in-Ok-Goal
returns-in-Ok-Goal c =
    c.with_goal.ensures (lines_of c.args.input.now)
    (IsEnding-next (lines_of c.args.input.now) c.loop-line.cites.items c.loop-line.rest.now c.in-Some.line.now c.in-Some.others.now c.in-Ok-Goal.goal c.in-Ok-Goal.proof c.loop-line.invariant c.in-Some.ensures.lines
    (subst (λ (n : ℕ). IsAskedAfter n c.in-Some.line.now (asked.Goal c.in-Ok-Goal.goal c.in-Ok-Goal.proof)) (ap length c.as_slice-count.ensures.value) (rw c.in-Ok-Goal.field-0-is at c.in-Ok-Goal.ensures)))

pub returns-in-Err : goal.returns-in-Err
returns-in-Err c =
    let count = ap length c.as_slice-count.ensures.value in
    subst (IsUnread (lines_of c.args.input.now)) (sym c.fault_at.ensures)
    (subst (λ (n : ℕ). IsUnread (lines_of c.args.input.now) (fault_at (n + 1) c.in-Err.fault)) (sym count)
    (IsUnread-next (lines_of c.args.input.now) c.loop-line.cites.items c.loop-line.rest.now c.in-Some.line.now c.in-Some.others.now c.in-Err.fault c.loop-line.invariant c.in-Some.ensures.lines
    (subst (λ (n : ℕ). IsUnreadAfter n c.in-Some.line.now c.in-Err.fault) count c.in-Err.ensures)))

pub loop-line-preserved : goal.loop-line-preserved
loop-line-preserved c =
    let count = ap length c.as_slice-count.ensures.value in
    IsReading-more (lines_of c.args.input.now) c.loop-line.cites.items c.push.new.self.items c.loop-line.rest.now c.in-Some.line.now c.in-Some.others.now c.in-Ok-Statement.statement c.loop-line.invariant c.in-Some.ensures.lines
    (subst (λ (n : ℕ). IsAskedAfter n c.in-Some.line.now (asked.Statement c.in-Ok-Statement.statement)) count (rw c.in-Ok-Statement.field-0-is at c.in-Ok-Statement.ensures))
    (c.in_ok-push-in-Ok-Statement.ensures.items ∙ ap (λ (n : ℕ). c.loop-line.cites.items ++ record { number = n + 1; statement = c.in-Ok-Statement.statement } ∷ []) count)

pub returns : goal.returns
returns c =
    subst (λ (n : ℕ). HasFirstFault (lines_of c.args.input.now) (n + 1) (BadWord 0)) (sym (ap length c.as_slice.ensures.value))
    (no_goal_left (lines_of c.args.input.now) c.loop-line.cites.items c.loop-line.rest.now c.loop-line.invariant c.in_default.ensures.lines)
