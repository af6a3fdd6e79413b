-- The verdict on a proof: the grant, with the conditions that are left over, each once in the order
-- of its first appearance, or the first fault and its node. Nodes are numbered from 0,
-- each before those of its premises.
use Rattle.std.specs.Prelude.{List, [], map, Some, Result}
use Rattle.bl_syntax.specs.declared.terms.Term.TheVariants.{Ctime}
use Rattle.bl_syntax.specs.declared.grant.Goal.{Goal}
use Rattle.bl_syntax.specs.Formula.{says}
use Rattle.bl_syntax.specs.Statement.{StatementView}
use Rattle.bl_syntax.specs.Grant.{GrantView}
use Rattle.bl_rules.specs.Allowed.{admin, loc, access, claim_of}
use Rattle.proof_term.specs.Proof.{ProofView, init, cons_r, inter_r, and_r, or_r1, or_r2, true_r, imp_r, forall_r, exists_r, says_r, at_r, cons_l, inter_l, and_l, or_l, false_l, imp_l, forall_l, exists_l, says_l, claim, at_l}
use Rattle.proof_term.specs.Limits.{size}
use Rattle.condition_set.specs.Conditions.{without_conditions}
use Rattle.proof_verifier.specs.declared.fault.CheckFault.{CheckFault}
use Rattle.proof_verifier.specs.Sequent.{Sequent}
use Rattle.proof_verifier.specs.LeftOver.{LeftOver, by_rule, by_grant}
use Rattle.proof_verifier.specs.Rules.{Answer, by_init, by_cons_r, by_inter_r, by_and_r, by_or_r1, by_or_r2, by_true_r, by_imp_r, by_forall_r, by_exists_r, by_says_r, by_at_r, by_cons_l, by_inter_l, by_and_l, by_or_l, by_false_l, by_imp_l, by_forall_l, by_exists_l, by_says_l, by_claim, by_at_l}

-- what a proof answers, where these conditions are left over
unfoldable pub answer : LeftOver → ProofView → Answer
answer left_over (init h) = by_init left_over h
answer left_over cons_r = by_cons_r left_over
answer left_over inter_r = by_inter_r left_over
answer left_over (and_r p q) = by_and_r (answer left_over p) (size p) (answer left_over q)
answer left_over (or_r1 p) = by_or_r1 (answer left_over p)
answer left_over (or_r2 p) = by_or_r2 (answer left_over p)
answer left_over true_r = by_true_r
answer left_over (imp_r p) = by_imp_r (answer left_over p)
answer left_over (forall_r p) = by_forall_r (answer left_over p)
answer left_over (exists_r t p) = by_exists_r t (answer left_over p)
answer left_over (says_r p) = by_says_r (answer left_over p)
answer left_over (at_r p) = by_at_r (answer left_over p)
answer left_over (cons_l h p) = by_cons_l h (answer left_over p)
answer left_over (inter_l h p) = by_inter_l h (answer left_over p)
answer left_over (and_l h p) = by_and_l h (answer left_over p)
answer left_over (or_l h p q) = by_or_l h (answer left_over p) (size p) (answer left_over q)
answer left_over (false_l h) = by_false_l h
answer left_over (imp_l h t1 t2 p q) = by_imp_l left_over h t1 t2 (answer left_over p) (size p) (answer left_over q)
answer left_over (forall_l h t p) = by_forall_l h t (answer left_over p)
answer left_over (exists_l h p) = by_exists_l h (answer left_over p)
answer left_over (says_l h p) = by_says_l h (answer left_over p)
answer left_over (claim h p) = by_claim left_over h (answer left_over p)
answer left_over (at_l h p) = by_at_l h (answer left_over p)

-- the sequent at the root: the cited statements as claims, no parameters, constraints or facts, the
-- view of `loc` at the current time, and that `admin` says now that the goal's
-- principal may have the permission on the file
abbrev pub root : List StatementView → Goal → Sequent
root statements goal = record {
  sorts = [];
  constraints = [];
  facts = [];
  hypotheses = map (λ (s : StatementView). Some (claim_of s)) statements;
  view = record { who = loc; from = Ctime; to = Ctime };
  goal = says admin (access goal.who goal.file goal.perm);
  from = Ctime;
  to = Ctime;
}

-- the verdict on a proof of the goal from the cited statements
abbrev pub verdict : List StatementView → Goal → ProofView → Result GrantView CheckFault
verdict statements goal proof = answer by_rule proof 0 (root statements goal) (without_conditions goal)

-- the same, where what a grant can keep is left over: the program tests this. It is the verdict,
-- since the formulas at each node are closed and well sorted, with times in the range
-- of moments
abbrev pub computed_verdict : List StatementView → Goal → ProofView → Result GrantView CheckFault
computed_verdict statements goal proof = answer by_grant proof 0 (root statements goal) (without_conditions goal)
