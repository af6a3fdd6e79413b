-- The grant is one that the proof gives, or another.
use Rattle.std.proofs.Common.{List, subst, sym}
use Rattle.bl_syntax.specs.Grant.{GrantView}
use Rattle.access_history.specs.Citing.{IsGrantOf}
use Rattle.op_gate.proofs.AdmitLemmas.{same_checked, other_grant, form_of_both}
use Rattle.op_gate.proofs.CheckLemmas.{is_so, is_not_so}
use Rattle.op_gate.proofs.admit.granting.Goals as goal

pub returns-then-is_grant_of : goal.returns-then-is_grant_of
returns-then-is_grant_of c =
    same_checked c.args.checked c.args.grant.now c.grant.ensures.kept c.requires.goal
    (form_of_both c.grant.result.now c.args.checked.grant c.args.cited.now _ c.args.grant.now c.grant.ensures.same c.requires.cited (is_so _ _ c.is_grant_of.ensures c.if-is_grant_of.true))

pub returns-else-is_grant_of : goal.returns-else-is_grant_of
returns-else-is_grant_of c =
    other_grant c.args.checked c.args.grant.now c.grant.ensures.kept c.requires.goal
    (λ form. is_not_so _ _ c.is_grant_of.ensures c.if-is_grant_of.false
    (subst (λ (p : GrantView). IsGrantOf p c.args.cited.now c.args.grant.now) (sym c.grant.ensures.same) (subst (λ (ns : List _). IsGrantOf c.args.checked.grant ns c.args.grant.now) c.requires.cited form)))
