-- A grant that the verdict gives is sound.
use Rattle.std.proofs.Common.{◌≡◌, ◌∙◌, List, [], inl, Ok, Some, refl, sym, subst, arith}
use Rattle.std.specs.Prelude.{Contains}
use Rattle.std.specs.List.{AllByRecursion}
use Rattle.std.proofs.lemmas.Option.{same_Some}
use Rattle.bl_syntax.specs.declared.grant.Goal.{Goal}
use Rattle.bl_syntax.specs.Statement.{StatementView, IsStatement}
use Rattle.bl_syntax.specs.Grant.{GrantView, IsGrant}
use Rattle.bl_syntax.proofs.ConditionTestLemmas.{IsTimeCondition-from_test, IsStateCondition-from_test}
use Rattle.bl_syntax.proofs.EntailmentLemmas.{Entails-constrained}
use Rattle.bl_rules.specs.Sequent.{Hypothesis}
use Rattle.bl_rules.specs.Allowed.{claim_of, claims_of, SoundGrant, IsDerivableUnderConditions}
use Rattle.bl_rules.proofs.Membership.{Contains-nothing, Contains-map, Contains-map_cases}
use Rattle.bl_rules.proofs.SoundGrantLemmas.{SoundGrant-from_conditions}
use Rattle.proof_term.specs.Proof.{ProofView, init, cons_r, inter_r, and_r, or_r1, or_r2, true_r, imp_r, forall_r, exists_r, says_r, at_r, cons_l, inter_l, and_l, or_l, false_l, imp_l, forall_l, exists_l, says_l, claim, at_l}
use Rattle.proof_term.specs.Limits.{size, HasTimesInRange}
use Rattle.condition_set.specs.Conditions.{without_conditions}
use Rattle.proof_verifier.specs.LeftOver.{LeftOver, by_rule, by_grant}
use Rattle.proof_verifier.specs.Verdict.{answer, root, verdict}
use Rattle.proof_verifier.proofs.AgreementLemmas.{verdict-computed}
use Rattle.proof_verifier.proofs.SoundnessSteps.{AreKept, Covers, IsStep}
use Rattle.proof_verifier.proofs.SoundnessRules.{IsSound, by_init-sound, by_cons_r-sound, by_inter_r-sound, by_and_r-sound, by_or_r1-sound, by_or_r2-sound, by_true_r-sound, by_imp_r-sound, by_forall_r-sound, by_exists_r-sound, by_says_r-sound, by_at_r-sound, by_cons_l-sound, by_inter_l-sound, by_and_l-sound, by_or_l-sound, by_false_l-sound, by_imp_l-sound, by_forall_l-sound, by_exists_l-sound, by_says_l-sound, by_claim-sound, by_at_l-sound}

pub answer-sound : (left_over : LeftOver) (d : ProofView) → IsSound left_over (answer left_over d)
unfolding answer
answer-sound left_over (init h) = by_init-sound left_over h
answer-sound left_over cons_r = by_cons_r-sound left_over
answer-sound left_over inter_r = by_inter_r-sound left_over
answer-sound left_over (and_r p q) = by_and_r-sound left_over (answer left_over p) (size p) (answer left_over q) (answer-sound left_over p) (answer-sound left_over q)
answer-sound left_over (or_r1 p) = by_or_r1-sound left_over (answer left_over p) (answer-sound left_over p)
answer-sound left_over (or_r2 p) = by_or_r2-sound left_over (answer left_over p) (answer-sound left_over p)
answer-sound left_over true_r = by_true_r-sound left_over
answer-sound left_over (imp_r p) = by_imp_r-sound left_over (answer left_over p) (answer-sound left_over p)
answer-sound left_over (forall_r p) = by_forall_r-sound left_over (answer left_over p) (answer-sound left_over p)
answer-sound left_over (exists_r t p) = by_exists_r-sound left_over t (answer left_over p) (answer-sound left_over p)
answer-sound left_over (says_r p) = by_says_r-sound left_over (answer left_over p) (answer-sound left_over p)
answer-sound left_over (at_r p) = by_at_r-sound left_over (answer left_over p) (answer-sound left_over p)
answer-sound left_over (cons_l h p) = by_cons_l-sound left_over h (answer left_over p) (answer-sound left_over p)
answer-sound left_over (inter_l h p) = by_inter_l-sound left_over h (answer left_over p) (answer-sound left_over p)
answer-sound left_over (and_l h p) = by_and_l-sound left_over h (answer left_over p) (answer-sound left_over p)
answer-sound left_over (or_l h p q) = by_or_l-sound left_over h (answer left_over p) (size p) (answer left_over q) (answer-sound left_over p) (answer-sound left_over q)
answer-sound left_over (false_l h) = by_false_l-sound left_over h
answer-sound left_over (imp_l h t1 t2 p q) = by_imp_l-sound left_over h t1 t2 (answer left_over p) (size p) (answer left_over q) (answer-sound left_over p) (answer-sound left_over q)
answer-sound left_over (forall_l h t p) = by_forall_l-sound left_over h t (answer left_over p) (answer-sound left_over p)
answer-sound left_over (exists_l h p) = by_exists_l-sound left_over h (answer left_over p) (answer-sound left_over p)
answer-sound left_over (says_l h p) = by_says_l-sound left_over h (answer left_over p) (answer-sound left_over p)
answer-sound left_over (claim h p) = by_claim-sound left_over h (answer left_over p) (answer-sound left_over p)
answer-sound left_over (at_l h p) = by_at_l-sound left_over h (answer left_over p) (answer-sound left_over p)

IsGrant-without_conditions : (goal : Goal) → IsGrant (without_conditions goal)
IsGrant-without_conditions goal = record { time_conditions = tt; state_conditions = tt; distinct_times = tt; distinct_states = tt; count = omega arith; names = inl refl }

-- a grant's own conditions and the statements cover the root
root_covered : (statements : List StatementView) (goal : Goal) (g : GrantView) → Covers g.times g.states (claims_of statements) (root statements goal) g
root_covered statements goal g = record {
  constraints = record { each = λ c among. absurd (Contains-nothing c among) };
  times = record { each = λ c among. Entails-constrained g.times c among };
  observed = λ s among. absurd (Contains-nothing s among);
  states = λ s among. among;
  hypotheses = λ h among.
      let was = Contains-map_cases (λ (statement : StatementView). Some (claim_of statement)) statements (Some h) among in
      subst (λ (x : Hypothesis). Contains (claims_of statements) x) (same_Some (claim_of was.0) h was.2) (Contains-map claim_of statements was.0 was.1);
}

root_step : (left_over : LeftOver) (statements : List StatementView) (goal : Goal) (d : ProofView) (g : GrantView)
    → answer left_over d 0 (root statements goal) (without_conditions goal) ≡ Ok g → IsStep left_over (root statements goal) (without_conditions goal) g
root_step left_over statements goal d g e = ((answer-sound left_over d).step 0 (root statements goal) (without_conditions goal)).gives g e

pub goal-verdict : (statements : List StatementView) (goal : Goal) (d : ProofView) (g : GrantView) → verdict statements goal d ≡ Ok g → g.goal ≡ goal
goal-verdict statements goal d g e = (root_step by_rule statements goal d g e).grows.same_goal

-- the grant of a proof names no statements
pub cited-verdict : (statements : List StatementView) (goal : Goal) (d : ProofView) (g : GrantView) → verdict statements goal d ≡ Ok g → g.cited ≡ []
cited-verdict statements goal d g e = (root_step by_rule statements goal d g e).grows.same_cited

grants_keep : AreKept by_grant
grants_keep = record { time = IsTimeCondition-from_test; state = IsStateCondition-from_test }

-- where formulas are closed and well sorted, and times in range, what is left over by the rule is what a grant can keep
pub IsGrant-verdict : (statements : List StatementView) (goal : Goal) (d : ProofView) (g : GrantView) → AllByRecursion IsStatement statements → HasTimesInRange d
    → verdict statements goal d ≡ Ok g → IsGrant g
IsGrant-verdict statements goal d g are_statements in_range e =
    (root_step by_grant statements goal d g (sym (verdict-computed statements goal d are_statements in_range) ∙ e)).grows.keeps grants_keep (IsGrant-without_conditions goal)

derivable : (statements : List StatementView) (goal : Goal) (d : ProofView) (g : GrantView) → verdict statements goal d ≡ Ok g → IsDerivableUnderConditions statements g
derivable statements goal d g e =
    rw (goal-verdict statements goal d g e) ((root_step by_rule statements goal d g e).derives g.times g.states (claims_of statements) (root_covered statements goal g))

pub SoundGrant-verdict : (statements : List StatementView) (goal : Goal) (d : ProofView) (g : GrantView) → AllByRecursion IsStatement statements → HasTimesInRange d
    → verdict statements goal d ≡ Ok g → SoundGrant statements g
SoundGrant-verdict statements goal d g are_statements in_range e =
    SoundGrant-from_conditions statements g are_statements (IsGrant-verdict statements goal d g are_statements in_range e).state_conditions (derivable statements goal d g e)
